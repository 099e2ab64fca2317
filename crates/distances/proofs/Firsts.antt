-- Entries looked at one by one
use Rattle.std.proofs.Common.{◌≡◌, ℕ, ◌+◌, ◌-◌, ◌<◌, ◌≤◌, Bool, true, false, List, ◌∷◌, length, get_or, drop, Some, None, Ok, Err, Option, Result, sym, ap, ◌∙◌, subst, arith}
use Rattle.std.specs.Result.{result_ok}
use Rattle.std.proofs.lemmas.List.{at_drop_more, at_drop_all}
use Rattle.bounds.specs.declared.refusal.Refusal.{Refusal}
use Rattle.plans.specs.Items.{Item}
use Rattle.entries.specs.declared.entry.Entry.{Entry}
use Rattle.distances.specs.Firsts.{FirstAt}
use Rattle.distances.specs.Firsts.FirstAt.{ended, here, past}

-- what was read is an item
pub read_item : (es : List Entry) (k : ℕ) (r : Result Entry Refusal) (e : Entry) → Some e ≡ result_ok r → Item es k r → Item es k (Ok e)
read_item es k (Ok x) e q i = subst (λ y. Item es k (Ok y)) (let s : x ≡ e = cc in s) i
read_item es k (Err x) e q i = absurd (cc)

module _ (R : Entry → Bool → Type 0) (p : ℕ) (es : List Entry) where
  -- what comes first of the entries from k on comes first of all
  abbrev pub Ahead : ℕ → Type 0
  Ahead k = (r : Option Entry) → FirstAt R p (drop k es) r → FirstAt R p es r

  module _ (k : ℕ) (e : Entry) (h : k < length es) (i : Item es (k + 1) (Ok e)) (a : Ahead k) where
    next : drop k es ≡ e ∷ drop (k + 1) es
    next = let q : k + 1 - 1 ≡ k = omega arith in
        at_drop_more (λ xs. xs) es k e h ∙ ap (λ x. x ∷ drop (k + 1) es) (ap (λ j. get_or es j e) (sym q) ∙ sym i.2)

    pub first_here : e.position ≡ p → R e true → FirstAt R p es (Some e)
    first_here q t = a (Some e) (subst (λ xs. FirstAt R p xs (Some e)) (sym next) (here q t))

    pub first_past : (e.position ≡ p → R e false) → Ahead (k + 1)
    first_past f r o = a r (subst (λ xs. FirstAt R p xs r) (sym next) (past f o))

  pub first_none : (k : ℕ) → length es ≤ k → Ahead k → FirstAt R p es None
  first_none k h a = a None (subst (λ xs. FirstAt R p xs None) (sym (at_drop_all (λ xs. xs) es k h)) ended)
