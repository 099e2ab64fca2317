-- Zone calls that name no clock above n ask nothing of one
use Rattle.std.proofs.Common.{◌≡◌, ℕ, zero, suc, ◌+◌, ◌/◌, ◌%◌, ◌<◌, ◌≤◌, Bool, true, false, cond, eqb, List, sym, refl, ap, ◌∙◌, subst, ⊎_elim, arith}
use Rattle.std.proofs.lemmas.Bool.{cond-true, cond-false, cond_both, cases_eq, cases_lt, cases_Bool, both_ways, eq-eqb, ne_eqb}
use Rattle.bounds.specs.Bounds.{UpperBound, none, upto, plus, level, Tight}
use Rattle.bounds.specs.Laws.{plus_comm, plus_level, tight_plus, tight_refl, tight_trans}
use Rattle.zones.specs.Matrices.{tighter, Canon, all_at, cut_at, front_of, back_at, zeroed, free_at, zero_all}
use Rattle.bounds.specs.Sums.{bound_of}
use Rattle.zones.specs.declared.boxes.Side.{Side}
use Rattle.zones.specs.Boxes.{side_of, turned, box_bound, row_of, column_of, boxed}
use Rattle.zones.proofs.BoxFacts.{row_9, column_9}
use Rattle.zones.proofs.Decoding.{tighter_first}
use Rattle.rounds.specs.Unused.{Unasked}

plus_none : (l : UpperBound) → plus l none ≡ none
unfolding plus
plus_none none = refl
plus_none (upto s a) = refl

none_plus : (l : UpperBound) → plus none l ≡ none
unfolding plus
none_plus l = refl

none_last : (l : UpperBound) → Tight l none
unfolding Tight
none_last none = tt
none_last (upto s a) = tt

tighter_none : (l : UpperBound) → tighter l none ≡ l
tighter_none l = tighter_first l none (none_last l)

pub unasked_same : (n : ℕ) (Y Z : ℕ → ℕ → UpperBound) → ((a b : ℕ) → a < 9 → b < 9 → Y a b ≡ Z a b) → Unasked n Z → Unasked n Y
unasked_same n Y Z e u = record {
  row = λ i j hi hj h d. e j i hj hi ∙ u.row i j hi hj h d;
  column = λ i j hi hj h d. e i j hi hj ∙ u.column i j hi hj h d ∙ sym (e i 0 hi (omega arith));
}

pub all_unasked : (n : ℕ) → Unasked n all_at
all_unasked n = record {
  row = λ i j hi hj h d. cond-false (eqb j 0) level (cond (eqb j i) level none) (ne_eqb j 0 (λ e. omega arith)) ∙ cond-false (eqb j i) level none (ne_eqb j i (λ e. d (sym e)));
  column = λ i j hi hj h d. ⊎_elim {C = all_at i j ≡ all_at i 0}
      (λ e. cond-true (eqb i 0) level (cond (eqb i j) level none) (eq-eqb i 0 e) ∙ sym (cond-true (eqb i 0) level (cond (eqb i 0) level none) (eq-eqb i 0 e)))
      (λ e. (cond-false (eqb i 0) level (cond (eqb i j) level none) (ne_eqb i 0 e) ∙ cond-false (eqb i j) level none (ne_eqb i j d))
      ∙ sym (cond-false (eqb i 0) level (cond (eqb i 0) level none) (ne_eqb i 0 e) ∙ cond-false (eqb i 0) level none (ne_eqb i 0 e)))
      (cases_eq i 0);
}

same_cut : (x x' y y' z z' c : UpperBound) → x ≡ x' → y ≡ y' → z ≡ z' → tighter x (plus (plus y c) z) ≡ tighter x' (plus (plus y' c) z')
same_cut x x' y y' z z' c e f g = ap (λ l. tighter l (plus (plus y c) z)) e ∙ ap (λ l. tighter x' (plus (plus l c) z)) f ∙ ap (λ l. tighter x' (plus (plus y' c) l)) g

-- a cut between clocks up to n
pub cut_unasked : (n : ℕ) (Z : ℕ → ℕ → UpperBound) → Unasked n Z → (a b : ℕ) → a < 9 → b < 9 → a ≤ n → b ≤ n → (c : UpperBound) → Unasked n (cut_at Z a b c)
cut_unasked n Z u a b ha hb an bn c = record {
  row = λ i j hi hj h d.
      same_cut (Z j i) none (Z j a) none (Z b i) (Z b i) c (u.row i j hi hj h d) (u.row a j ha hj h (λ e. omega arith)) refl
      ∙ ap (λ l. tighter none l) (ap (λ l. plus l (Z b i)) (none_plus c) ∙ none_plus (Z b i)) ∙ tighter_none none;
  column = λ i j hi hj h d. same_cut (Z i j) (Z i 0) (Z i a) (Z i a) (Z b j) (Z b 0) c (u.column i j hi hj h d) refl (u.column b j hb hj h (λ e. omega arith));
}

-- a cut by none
pub none_unasked : (n : ℕ) (Z : ℕ → ℕ → UpperBound) → Unasked n Z → (a b : ℕ) → Unasked n (cut_at Z a b none)
none_unasked n Z u a b = unasked_same n (cut_at Z a b none) Z (λ i j hi hj.
    ap (λ l. tighter (Z i j) l) (ap (λ l. plus l (Z b j)) (plus_none (Z i a)) ∙ none_plus (Z b j)) ∙ tighter_none (Z i j)) u

-- no clock but 0 reads less than clock 0
above_zero : (Z : ℕ → ℕ → UpperBound) → Canon Z → (k : ℕ) → k < 9 → Tight level (Z k 0)
above_zero Z can k h =
    subst (λ l. Tight l (Z k 0)) (can.diagonal k h)
    (tight_trans (Z k k) (plus (Z k 0) (Z 0 k)) (Z k 0) (can.around k k 0 h h (omega arith))
    (subst (Tight (plus (Z k 0) (Z 0 k))) (plus_comm (Z k 0) level ∙ plus_level (Z k 0)) (tight_plus (Z k 0) (Z k 0) (Z 0 k) level (tight_refl (Z k 0)) (can.front k h))))

front_level : (Z : ℕ → ℕ → UpperBound) (j m : ℕ) → ((k : ℕ) → k < suc m → Tight level (Z k j)) → front_of Z m j ≡ level
front_level Z j zero f = refl
front_level Z j (suc m) f = ap (λ l. tighter l (Z (suc m) j)) (front_level Z j m (λ k h. f k (omega arith))) ∙ tighter_first level (Z (suc m) j) (f (suc m) (omega arith))

pub back_unasked : (n : ℕ) (Z : ℕ → ℕ → UpperBound) → Canon Z → Unasked n Z → Unasked n (back_at Z)
back_unasked n Z can u = record { row = rows; column = columns }
  where
    rows : (i j : ℕ) → i < 9 → j < 9 → n < j → (i ≡ j → ⊥) → back_at Z j i ≡ none
    rows i zero hi hj h d = absurd (omega arith)
    rows i (suc j) hi hj h d = u.row i (suc j) hi hj h d

    above : (j : ℕ) → j < 9 → n < j → (k : ℕ) → k < 9 → Tight level (Z k j)
    above j hj h k hk = ⊎_elim {C = Tight level (Z k j)}
        (λ e. subst (λ m. Tight level (Z m j)) (sym e) (subst (Tight level) (sym (can.diagonal j hj)) (tight_refl level)))
        (λ e. subst (Tight level) (sym (u.column k j hk hj h e)) (above_zero Z can k hk))
        (cases_eq k j)

    columns : (i j : ℕ) → i < 9 → j < 9 → n < j → (i ≡ j → ⊥) → back_at Z i j ≡ back_at Z i 0
    columns zero j hi hj h d = front_level Z j 8 (λ k l. above j hj h k (omega arith)) ∙ sym (front_level Z 0 8 (λ k l. above_zero Z can k (omega arith)))
    columns (suc i) j hi hj h d = u.column (suc i) j hi hj h d

-- the clocks in r are from 1 to n
module _ (n : ℕ) (r : ℕ → Bool) (r0 : r 0 ≡ false) (off : (j : ℕ) → n < j → r j ≡ false) (Z : ℕ → ℕ → UpperBound) (u : Unasked n Z) where
  zeroed_here : (j : ℕ) → r j ≡ false → zeroed r j ≡ j
  zeroed_here j e = cond-false (r j) 0 j e

  pub free_unasked : Canon Z → Unasked n (free_at r Z)
  free_unasked can = record {
    row = λ i j hi hj h d.
        cond-false (eqb j i) level (cond (r j) none (Z j (zeroed r i))) (ne_eqb j i (λ e. d (sym e)))
        ∙ cond-false (r j) none (Z j (zeroed r i)) (off j h)
        ∙ cond_both (r i) 0 i (λ k. Z j k ≡ none) (λ _. u.row 0 j (omega arith) hj h (λ e. omega arith)) (λ _. u.row i j hi hj h d);
    column = λ i j hi hj h d.
        cond-false (eqb i j) level (cond (r i) none (Z i (zeroed r j))) (ne_eqb i j d)
        ∙ ap (λ k. cond (r i) none (Z i k)) (zeroed_here j (off j h))
        ∙ ap (λ l. cond (r i) none l) (u.column i j hi hj h d)
        ∙ sym (to_zero i);
  }
    where
      to_zero : (i : ℕ) → free_at r Z i 0 ≡ cond (r i) none (Z i 0)
      to_zero i = ⊎_elim {C = free_at r Z i 0 ≡ cond (r i) none (Z i 0)}
          (λ e. cond-true (eqb i 0) level (cond (r i) none (Z i (zeroed r 0))) (eq-eqb i 0 e)
          ∙ sym (cond-false (r i) none (Z i 0) (ap r e ∙ r0) ∙ ap (λ k. Z k 0) e ∙ can.diagonal 0 (omega arith)))
          (λ e. cond-false (eqb i 0) level (cond (r i) none (Z i (zeroed r 0))) (ne_eqb i 0 e) ∙ ap (λ k. cond (r i) none (Z i k)) (zeroed_here 0 r0))
          (cases_eq i 0)

-- the clocks in r, one after the other
pub zero_unasked : (n : ℕ) (r : ℕ → Bool) → ((j : ℕ) → n < j → r j ≡ false) → (Z : ℕ → ℕ → UpperBound) → Unasked n Z → (m : ℕ) → m ≤ 9 → Unasked n (zero_all r Z m)
unfolding zero_all
zero_unasked n r off Z u zero h = u
zero_unasked n r off Z u (suc m) h = ⊎_elim {C = Unasked n (zero_all r Z (suc m))}
    (λ e. unasked_same n (zero_all r Z (suc m)) (cut_at (zero_all r Z m) m 0 level) (λ a b ha hb. cond-true (r m) (cut_at (zero_all r Z m) m 0 level a b) (zero_all r Z m a b) e)
    (cut_unasked n (zero_all r Z m) (zero_unasked n r off Z u m (omega arith)) m 0 (omega arith) (omega arith) (at_most m e) (omega arith) level))
    (λ e. unasked_same n (zero_all r Z (suc m)) (zero_all r Z m) (λ a b ha hb. cond-false (r m) (cut_at (zero_all r Z m) m 0 level a b) (zero_all r Z m a b) e) (zero_unasked n r off Z u m (omega arith)))
    (cases_Bool (r m))
  where
    at_most : (m : ℕ) → r m ≡ true → m ≤ n
    at_most m e = ⊎_elim {C = m ≤ n} (λ l. absurd (both_ways (r m) (off m l) e)) (λ l. l) (cases_lt n m)

-- the bounds of a box that asks nothing of a clock above n
pub record UptoClocks (n : ℕ) (sides : List Side) : Type 0 where
  pub lower : (k : ℕ) → k < 8 → n ≤ k → bound_of (side_of sides k).lower ≡ none
  pub upper : (k : ℕ) → k < 8 → n ≤ k → bound_of (side_of sides k).upper ≡ none

module _ (n : ℕ) (normal : UpperBound → UpperBound) (normal_none : normal none ≡ none) (sides : List Side) (only : UptoClocks n sides) (Z : ℕ → ℕ → UpperBound) (u : Unasked n Z) where
  step_none : (s : ℕ) → s < 16 → n ≤ s / 2 → box_bound sides s ≡ none
  unfolding box_bound turned
  step_none s h l = cond_both (eqb (s % 2) 1) (bound_of (side_of sides (s / 2)).upper) (turned (bound_of (side_of sides (s / 2)).lower)) (λ b. b ≡ none)
      (λ _. only.upper (s / 2) (omega arith) l)
      (λ _. ap turned (only.lower (s / 2) (omega arith) l))

  step_row : (s : ℕ) → s / 2 < n → row_of s ≤ n
  unfolding row_of
  step_row s h = cond_both (eqb (s % 2) 1) (s / 2 + 1) 0 (λ k. k ≤ n) (λ _. omega arith) (λ _. omega arith)

  step_column : (s : ℕ) → s / 2 < n → column_of s ≤ n
  unfolding column_of
  step_column s h = cond_both (eqb (s % 2) 1) 0 (s / 2 + 1) (λ k. k ≤ n) (λ _. omega arith) (λ _. omega arith)

  pub boxed_unasked : (m : ℕ) → m ≤ 16 → Unasked n (boxed normal sides Z m)
  unfolding boxed
  boxed_unasked zero h = u
  boxed_unasked (suc m) h = ⊎_elim {C = Unasked n (boxed normal sides Z (suc m))}
      (λ l. cut_unasked n (boxed normal sides Z m) (boxed_unasked m (omega arith)) (row_of m) (column_of m) (row_9 m (omega arith)) (column_9 m (omega arith)) (step_row m l) (step_column m l) (normal (box_bound sides m)))
      (λ l. subst (λ c. Unasked n (cut_at (boxed normal sides Z m) (row_of m) (column_of m) c)) (sym (ap normal (step_none m (omega arith) l) ∙ normal_none))
      (none_unasked n (boxed normal sides Z m) (boxed_unasked m (omega arith)) (row_of m) (column_of m)))
      (cases_lt (m / 2) n)
