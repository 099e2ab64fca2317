-- The bounds that a line writes
use Rattle.std.proofs.Common.{◌≡◌, ℕ, zero, suc, ◌+◌, ◌/◌, ◌%◌, ◌<◌, ◌≤◌, Bool, true, false, cond, List, [], ◌∷◌, ◌++◌, length, ℤ, decimal, sym, refl, ap, ◌∙◌, subst, ⊎_elim, append_assoc, append-nil, add-one, arith, length-append}
use Rattle.std.proofs.lemmas.Bool.Decides.{nat_tests}
use Rattle.std.proofs.lemmas.Bool.{cond-true, cond-false, cases_lt}
use Rattle.bounds.specs.Bounds.{UpperBound, none, upto}
use Rattle.zones.specs.Codes.{at}
use Rattle.entries.specs.declared.entry.Entry.{Entry}
use Rattle.entries.specs.Lines.{shown, seen, item, item_at, items, some, commas, body, line}
use Rattle.entries.specs.Adding.{placed, any_with}
use Rattle.entries.proofs.Steps.{commas_push}

module _ (n : ℕ) (Z : ℕ → ℕ → UpperBound) (p : ℕ) where
  pub seen_row : n < p / 9 → none ≡ seen n Z p
  unfolding seen
  seen_row h = let e : shown n p ≡ false = grind (arith, nat_tests) in sym (cond-false (shown n p) _ _ e)

  pub seen_column : n < p % 9 → none ≡ seen n Z p
  unfolding seen
  seen_column h = let e : shown n p ≡ false = grind (arith, nat_tests) in sym (cond-false (shown n p) _ _ e)

  pub seen_same : p / 9 ≡ p % 9 → none ≡ seen n Z p
  unfolding seen
  seen_same h = let e : shown n p ≡ false = grind (arith, nat_tests) in sym (cond-false (shown n p) _ _ e)

  pub seen_shown : p / 9 ≤ n → p % 9 ≤ n → (p / 9 ≡ p % 9 → ⊥) → Z (p / 9) (p % 9) ≡ seen n Z p
  unfolding seen
  seen_shown h k d = let e : shown n p ≡ true = grind (arith, nat_tests) in sym (cond-true (shown n p) _ _ e)

  pub items_more : items n Z (p + 1) ≡ items n Z p ++ item_at p (seen n Z p)
  unfolding items
  items_more = ap (items n Z) (add-one p)

pub items_none : (n : ℕ) (Z : ℕ → ℕ → UpperBound) → items n Z 0 ≡ []
unfolding items
items_none n Z = refl

-- what a bound adds to those parted by commas
placed_on : (ws : List (List ℕ)) (any : Bool) (p : ℕ) (b : UpperBound) → any ≡ some ws → commas (ws ++ item_at p b) ≡ commas ws ++ placed any p b
placed_on ws any p none e = ap commas (append-nil ws) ∙ sym (append-nil (commas ws))
placed_on ws any p (upto s c) e = commas_push ws (item p s c) ∙ ap (λ a. commas ws ++ (cond a (44 ∷ []) [] ++ item p s c)) (sym e)

some_push : (ws : List (List ℕ)) (w : List ℕ) → true ≡ some (ws ++ (w ∷ []))
some_push [] w = refl
some_push (v ∷ vs) w = refl

any_on : (ws : List (List ℕ)) (any : Bool) (p : ℕ) (b : UpperBound) → any ≡ some ws → any_with any b ≡ some (ws ++ item_at p b)
any_on ws any p none e = e ∙ ap some (sym (append-nil ws))
any_on ws any p (upto s c) e = some_push ws (item p s c)

module _ (n : ℕ) (Z : ℕ → ℕ → UpperBound) (p : ℕ) (any : Bool) (e : any ≡ some (items n Z p)) where
  pub commas_more : commas (items n Z (p + 1)) ≡ commas (items n Z p) ++ placed any p (seen n Z p)
  commas_more = ap commas (items_more n Z p) ∙ placed_on (items n Z p) any p (seen n Z p) e

  pub any_more : any_with any (seen n Z p) ≡ some (items n Z (p + 1))
  any_more = any_on (items n Z p) any p (seen n Z p) e ∙ ap some (sym (items_more n Z p))

-- a bound that is written comes after a comma if there are any before it
module _ (n : ℕ) (Z : ℕ → ℕ → UpperBound) (p q : ℕ) (same : q ≡ p) (s : List ℕ) (parts : s ≡ cond (some (items n Z p)) (44 ∷ []) []) (closed : Bool) (c : ℤ) (is : upto closed c ≡ seen n Z q) where
  here : upto closed c ≡ seen n Z p
  here = is ∙ ap (seen n Z) same

  pub commas_with : commas (items n Z (p + 1)) ≡ commas (items n Z p) ++ (s ++ item q closed c)
  commas_with =
      commas_more n Z p (some (items n Z p)) refl
      ∙ ap (λ (b : UpperBound). commas (items n Z p) ++ placed (some (items n Z p)) p b) (sym here)
      ∙ (λ k. commas (items n Z p) ++ (sym parts k ++ item (sym same k) closed c))

  pub comma_after : ◌≡◌ {A = List ℕ} (44 ∷ []) (cond (some (items n Z (p + 1))) (44 ∷ []) [])
  comma_after = ap (λ (t : Bool). cond t (44 ∷ []) []) (ap (any_with (some (items n Z p))) here ∙ any_more n Z p (some (items n Z p)) refl)

-- where none is written, all stays
module _ (n : ℕ) (Z : ℕ → ℕ → UpperBound) (p q : ℕ) (same : q ≡ p) (is : none ≡ seen n Z q) where
  none_here : none ≡ seen n Z p
  none_here = is ∙ ap (seen n Z) same

  pub commas_without : commas (items n Z (p + 1)) ≡ commas (items n Z p)
  commas_without = commas_more n Z p (some (items n Z p)) refl ∙ ap (λ (b : UpperBound). commas (items n Z p) ++ placed (some (items n Z p)) p b) (sym none_here) ∙ append-nil (commas (items n Z p))

  pub some_without : some (items n Z p) ≡ some (items n Z (p + 1))
  some_without = ap (any_with (some (items n Z p))) none_here ∙ any_more n Z p (some (items n Z p)) refl

-- what is written up to a place is no longer than the whole
pub commas_longer : (n : ℕ) (Z : ℕ → ℕ → UpperBound) (p q : ℕ) → p ≤ q → length (commas (items n Z p)) ≤ length (commas (items n Z q))
commas_longer n Z p zero h = let e : p ≡ 0 = omega arith in subst (λ (m : ℕ). length (commas (items n Z m)) ≤ length (commas (items n Z 0))) (sym e) (omega arith)
commas_longer n Z p (suc q) h =
    let l = length-append (commas (items n Z q)) (placed (some (items n Z q)) q (seen n Z q)) in
    let e = ap length (commas_more n Z q (some (items n Z q)) refl) in
    let s : q + 1 ≡ suc q = omega arith in
    ⊎_elim {C = length (commas (items n Z p)) ≤ length (commas (items n Z (suc q)))}
    (λ lt. subst (λ (m : ℕ). length (commas (items n Z p)) ≤ length (commas (items n Z m))) s (omega (arith, commas_longer n Z p q (omega arith))))
    (λ ge. let same : p ≡ suc q = omega arith in subst (λ (m : ℕ). length (commas (items n Z m)) ≤ length (commas (items n Z (suc q)))) (sym same) (omega arith))
    (cases_lt p (suc q))

-- the fields of a line
pub line_is : (n : ℕ) (e : Entry) → line n e ≡ (90 ∷ 9 ∷ []) ++ (decimal e.position ++ ((9 ∷ []) ++ (decimal e.round ++ ((9 ∷ []) ++ (commas (items n (at e.zone.codes) 81) ++ (10 ∷ []))))))
unfolding line body
line_is n e =
    ap (λ l. 90 ∷ 9 ∷ l)
    (append_assoc (decimal e.position) (9 ∷ (decimal e.round ++ (9 ∷ commas (items n (at e.zone.codes) 81)))) (10 ∷ [])
    ∙ ap (λ l. decimal e.position ++ (9 ∷ l)) (append_assoc (decimal e.round) (9 ∷ commas (items n (at e.zone.codes) 81)) (10 ∷ [])))

pub length_line : (n : ℕ) (e : Entry) → length (line n e) ≡ length (decimal e.position) + length (decimal e.round) + length (commas (items n (at e.zone.codes) 81)) + 5
length_line n e =
    let c = commas (items n (at e.zone.codes) 81) in
    let a = ap length (line_is n e) in
    let b = length-append (decimal e.position) (9 ∷ (decimal e.round ++ (9 ∷ (c ++ (10 ∷ []))))) in
    let d = length-append (decimal e.round) (9 ∷ (c ++ (10 ∷ []))) in
    let f = length-append c (10 ∷ []) in
    omega arith

pub line_some : (n : ℕ) (e : Entry) → 1 ≤ length (line n e)
line_some n e = omega (arith, length_line n e)
