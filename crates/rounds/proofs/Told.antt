-- What an answer says of routes.
use Rattle.std.proofs.Common.{◌≡◌, ℕ, zero, suc, ◌<◌, ◌≤◌, false, ◌&&◌, eqb, List, [], ◌∷◌, length, Some, None, Option, sym, refl, subst, arith}
use mathlib.Core.Logic.{∥∥₁_elim, ∥∥₁_map, ∥∥₁_prop}
use native.Mathlib.Bridge.{le_prop}
use native.Mathlib.Decide.{dec_lt}
use Rattle.std.proofs.lemmas.Bool.{cond_both, eqb-true, eq-eqb, and_parts, and_from, both_ways}
use Rattle.plans.specs.Meaning.{PlanMeaning}
use Rattle.plans.specs.Routes.{Route, Distance}
use Rattle.rounds.specs.Held.{clock, holds_state, Scale}
use Rattle.rounds.specs.Rounds.{Entry, entry_at}
use Rattle.rounds.specs.Stands.{In, Covers, Founded, Complete, Stands}
use Rattle.rounds.specs.declared.replies.Phase.{Phase}
use Rattle.rounds.specs.declared.replies.Phase.TheVariants.{Open, Closed, Stopped, Unfit}
use Rattle.rounds.specs.Searches.{find, answer, Says}
use Rattle.rounds.specs.Theorems.{HeldExactly, AnswersSay}
use Rattle.rounds.proofs.Calling.{holds_yes, yes_holds}
use Rattle.rounds.proofs.Covered.{route_covered, route_complete}

-- what `find` finds
abbrev pub Found : List Entry → ℕ → ℕ → (ℕ → ℕ) → Option ℕ → Type 0
Found es D p v (Some d) = (k : ℕ) × (k < length es) × In (entry_at es k) D p v × ((j : ℕ) → j < k → In (entry_at es j) D p v → ⊥) × (d ≡ (entry_at es k).round)
Found es D p v None = (j : ℕ) → j < length es → In (entry_at es j) D p v → ⊥

not_in : (e : Entry) (D p : ℕ) (v : ℕ → ℕ) → (eqb e.position p && holds_state e.zone D v) ≡ false → In e D p v → ⊥
not_in e D p v h i = both_ways (eqb e.position p && holds_state e.zone D v) h (and_from (eqb e.position p) (holds_state e.zone D v) (eq-eqb e.position p i.0) (yes_holds e.zone D (clock v) i.1))

found_more : (e : Entry) (es : List Entry) (D p : ℕ) (v : ℕ → ℕ) → (In e D p v → ⊥) → (o : Option ℕ) → Found es D p v o → Found (e ∷ es) D p v o
found_more e es D p v n (Some d) f = (suc f.0, omega (arith, f.1), f.2, earlier, f.4)
  where
    earlier : (j : ℕ) → j < suc f.0 → In (entry_at (e ∷ es) j) D p v → ⊥
    earlier zero l i = n i
    earlier (suc j) l i = f.3 j (omega arith) i
found_more e es D p v n None f = none
  where
    none : (j : ℕ) → j < length (e ∷ es) → In (entry_at (e ∷ es) j) D p v → ⊥
    none zero l i = n i
    none (suc j) l i = f j (omega arith) i

pub found : (es : List Entry) (D p : ℕ) (v : ℕ → ℕ) → Found es D p v (find es D p v)
unfolding find
found [] D p v = λ j h. absurd (omega arith)
found (e ∷ es) D p v =
    cond_both (eqb e.position p && holds_state e.zone D v) (Some e.round) (find es D p v) (Found (e ∷ es) D p v)
    (λ t. let b = and_parts (eqb e.position p) (holds_state e.zone D v) t in (0, omega arith, (eqb-true e.position p b.0, holds_yes e.zone D (clock v) b.1), (λ j l. absurd (omega arith)), refl))
    (λ t. found_more e es D p v (not_in e D p v t) (find es D p v) (found es D p v))

module _ (M : PlanMeaning) (es : List Entry) (f : ℕ) (w : Founded M es f) where
  first_least : (D p : ℕ) (v : ℕ → ℕ) (k n : ℕ) → k < length es → ((j : ℕ) → j < k → In (entry_at es j) D p v → ⊥) → Covers es n D p v → (entry_at es k).round ≤ n
  first_least D p v k n l first c =
      ∥∥₁_elim c le_prop (λ t. elim (dec_lt t.0 k) [
        | yes y ↦ absurd (first t.0 y t.2)
        | no y ↦ omega (arith, w.good.ordered k t.0 (omega (arith, y)) t.1, t.3)
      ])

  pub real_at : (D p : ℕ) (v : ℕ → ℕ) → Scale M D → (k : ℕ) → k < length es → In (entry_at es k) D p v → ∥ Route M D p v (entry_at es k).round ∥₁
  real_at D p v s k l i = subst (λ x. ∥ Route M D x v (entry_at es k).round ∥₁) i.0 (w.good.real k l D v s i.1)

  pub told_some : (D p : ℕ) (v : ℕ → ℕ) → Scale M D → (d : ℕ) → Found es D p v (Some d) → Distance M D p v d
  told_some D p v s d x = subst (Distance M D p v) (sym x.4) (record {
    route = real_at D p v s x.0 x.1 x.2;
    least = λ n r. elim (dec_lt n f) [
      | yes y ↦ first_least D p v x.0 n x.1 x.3 (route_covered M es f w D p v n s r y)
      | no y ↦ omega (arith, y, w.good.at_most x.0 x.1)
    ];
  })

  none_covers : (D p : ℕ) (v : ℕ → ℕ) (n : ℕ) → Found es D p v None → Covers es n D p v → ⊥
  none_covers D p v n none c = ∥∥₁_elim c (λ x y. absurd x) (λ t. none t.0 t.1 t.2)

  pub told_untold : (D p : ℕ) (v : ℕ → ℕ) → Scale M D → Found es D p v None → (n : ℕ) → Route M D p v n → f ≤ n
  told_untold D p v s none n r = elim (dec_lt n f) [
    | yes y ↦ absurd (none_covers D p v n none (route_covered M es f w D p v n s r y))
    | no y ↦ omega (arith, y)
  ]

  pub told_never : (D p : ℕ) (v : ℕ → ℕ) → Scale M D → 0 < f → Complete M es → Found es D p v None → (n : ℕ) → Route M D p v n → ⊥
  told_never D p v s z a none n r = none_covers D p v n none (route_complete M es (w.based z) a D p v n s r)

module _ (M : PlanMeaning) where
  pub sound_of : (es : List Entry) (f : ℕ) (ph : Phase) → (ph ≡ Unfit → ⊥) → Stands M es f ph → Founded M es f
  sound_of es f Open n w = w.0
  sound_of es f Closed n w = w.0
  sound_of es f Stopped n w = w
  sound_of es f Unfit n w = absurd (n refl)

  says : (es : List Entry) (f : ℕ) (ph : Phase) → (ph ≡ Unfit → ⊥) → Stands M es f ph → (D p : ℕ) (v : ℕ → ℕ) → Scale M D → (o : Option ℕ) → Found es D p v o → Says M ph f D p v (answer ph f o)
  says es f Open n w D p v s (Some d) x = told_some M es f w.0 D p v s d x
  says es f Open n w D p v s None x = (λ q. let z : ◌≡◌ {A = ℕ} 0 1 = cc in absurd (omega arith), refl, told_untold M es f w.0 D p v s x)
  says es f Closed n w D p v s (Some d) x = told_some M es f w.0 D p v s d x
  says es f Closed n w D p v s None x = (refl, told_never M es f w.0 D p v s w.3 w.2 x)
  says es f Stopped n w D p v s (Some d) x = told_some M es f w D p v s d x
  says es f Stopped n w D p v s None x = (λ q. let z : ◌≡◌ {A = ℕ} 0 1 = cc in absurd (omega arith), refl, told_untold M es f w D p v s x)
  says es f Unfit n w D p v s o x = absurd (n refl)

  pub answers_say : (need : Entry → ℕ) → AnswersSay M need
  answers_say need es f ph n w D p v s = says es f ph n w D p v s (find es D p v) (found es D p v)

  pub held_exactly : (need : Entry → ℕ) → HeldExactly M need
  held_exactly need es f ph n w k D p v l s =
      let d = sound_of es f ph n w in (
        λ c. ∥∥₁_elim c ∥∥₁_prop (λ t. ∥∥₁_map (real_at M es f d D p v s t.0 t.1 t.2) (λ r. ((entry_at es t.0).round, t.3, r))),
        λ c. ∥∥₁_elim c ∥∥₁_prop (λ t. ∥∥₁_map (route_covered M es f d D p v t.0 s t.2 (omega (arith, t.1))) (λ x. (x.0, x.1, x.2, omega (arith, x.3, t.1)))),
      )
