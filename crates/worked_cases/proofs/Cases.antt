-- The worked values of bounds and zones
use Rattle.std.proofs.Common.{◌≡◌, ℕ, zero, suc, ◌<◌, ◌≤◌, true, false, ℤ, pos, negsuc, ◌-ℤ◌, refl, inr, arith}
use borrow.Author.Differences.{ints}
use Rattle.bounds.specs.Bounds.{upto, plus, Meets}
use Rattle.bounds.specs.Laws.{times_is}
use Rattle.zones.specs.Matrices.{tighter, cut_at, back_at}
use Rattle.zones.specs.Cuts.{Far}
use Rattle.worked_cases.specs.ZoneCases.{two_to_four, zero_to_four, million, chain, parted_chain, ZoneCases}

nine : (P : ℕ → Type 0) → P 0 → P 1 → P 2 → P 3 → P 4 → P 5 → P 6 → P 7 → P 8 → (i : ℕ) → i < 9 → P i
nine P a b c d e f g h k zero l = a
nine P a b c d e f g h k (suc zero) l = b
nine P a b c d e f g h k (suc (suc zero)) l = c
nine P a b c d e f g h k (suc (suc (suc zero))) l = d
nine P a b c d e f g h k (suc (suc (suc (suc zero)))) l = e
nine P a b c d e f g h k (suc (suc (suc (suc (suc zero))))) l = f
nine P a b c d e f g h k (suc (suc (suc (suc (suc (suc zero)))))) l = g
nine P a b c d e f g h k (suc (suc (suc (suc (suc (suc (suc zero))))))) l = h
nine P a b c d e f g h k (suc (suc (suc (suc (suc (suc (suc (suc zero)))))))) l = k
nine P a b c d e f g h k (suc (suc (suc (suc (suc (suc (suc (suc (suc i))))))))) l = absurd (omega arith)

abbrev Row : ℕ → Type 0
Row i = (j : ℕ) → j < 9 → back_at two_to_four i j ≡ zero_to_four i j

back : (i : ℕ) → i < 9 → Row i
unfolding plus tighter
back = nine Row
    (nine (λ j. back_at two_to_four 0 j ≡ zero_to_four 0 j) refl refl refl refl refl refl refl refl refl)
    (nine (λ j. back_at two_to_four 1 j ≡ zero_to_four 1 j) refl refl refl refl refl refl refl refl refl)
    (nine (λ j. back_at two_to_four 2 j ≡ zero_to_four 2 j) refl refl refl refl refl refl refl refl refl)
    (nine (λ j. back_at two_to_four 3 j ≡ zero_to_four 3 j) refl refl refl refl refl refl refl refl refl)
    (nine (λ j. back_at two_to_four 4 j ≡ zero_to_four 4 j) refl refl refl refl refl refl refl refl refl)
    (nine (λ j. back_at two_to_four 5 j ≡ zero_to_four 5 j) refl refl refl refl refl refl refl refl refl)
    (nine (λ j. back_at two_to_four 6 j ≡ zero_to_four 6 j) refl refl refl refl refl refl refl refl refl)
    (nine (λ j. back_at two_to_four 7 j ≡ zero_to_four 7 j) refl refl refl refl refl refl refl refl refl)
    (nine (λ j. back_at two_to_four 8 j ≡ zero_to_four 8 j) refl refl refl refl refl refl refl refl refl)

-- 0 is not 2 or more
below_two : (D : ℕ) (x : ℤ) → 1 ≤ D → x ≡ pos 0 → Meets D (x -ℤ x) (two_to_four 0 1) → ⊥
unfolding plus tighter Meets
below_two D x big e h = omega (arith, ints, times_is (negsuc 1) D)

-- a difference is not over a million and at most a million
at_most_or_over : (D : ℕ) (x y : ℤ) → Meets D (y -ℤ x) (parted_chain 6 5) → Meets D (x -ℤ y) million → ⊥
unfolding plus tighter Meets
at_most_or_over D x y h k = omega (arith, ints, times_is (negsuc 999999) D, times_is (pos 1000000) D)

far : Far (cut_at chain 5 6 million 1 6)
unfolding plus tighter Far
far = inr (omega (arith, ints))

sum : plus (upto true (pos 3)) (upto false (negsuc 2)) ≡ upto false (pos 0)
unfolding plus
sum = refl

pub zone_cases : ZoneCases
zone_cases = record {
  sum = sum;
  back = λ i j hi hj. back i hi j hj;
  undo = λ D v big e h. below_two D (v 0) big e (h 0 1 (omega arith) (omega arith));
  range = far;
  empty = λ D v big h k. at_most_or_over D (v 5) (v 6) (h 6 5 (omega arith) (omega arith)) k;
}
