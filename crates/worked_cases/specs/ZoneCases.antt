-- Worked values of bounds and zones, from the definitions alone.
use Rattle.std.specs.Prelude.{◌≡◌, ℕ, ◌<◌, ◌≤◌, true, false, ℤ, pos, negsuc, ◌-ℤ◌, nat_eq}
use Rattle.bounds.specs.Bounds.{UpperBound, upto, plus, Meets}
use Rattle.zones.specs.Matrices.{Holds, all_at, cut_at, back_at, zeroed}
use Rattle.zones.specs.Cuts.{Far}

-- clock 1 reads 2 to 4
abbrev pub two_to_four : ℕ → ℕ → UpperBound
two_to_four = cut_at (cut_at all_at 0 1 (upto true (negsuc 1))) 1 0 (upto true (pos 4))

-- clock 1 reads 0 to 4
abbrev pub zero_to_four : ℕ → ℕ → UpperBound
zero_to_four = cut_at all_at 1 0 (upto true (pos 4))

abbrev pub million : UpperBound
million = upto true (pos 1000000)

-- the readings of the clocks 1 to 5 are at most a million apart, one after the other
abbrev pub chain : ℕ → ℕ → UpperBound
chain = cut_at (cut_at (cut_at (cut_at all_at 1 2 million) 2 3 million) 3 4 million) 4 5 million

-- the same, and clock 5 reads over a million more than clock 6
abbrev pub parted_chain : ℕ → ℕ → UpperBound
parted_chain = cut_at chain 6 5 (upto false (negsuc 999999))

pub record ZoneCases : Type 0 where
  -- `<= 3` plus `< -3` is `< 0`
  pub sum : plus (upto true (pos 3)) (upto false (negsuc 2)) ≡ upto false (pos 0)
  -- 2 to 4 on clock 1, taken back, is 0 to 4
  pub back : (i j : ℕ) → i < 9 → j < 9 → back_at two_to_four i j ≡ zero_to_four i j
  -- no state lies in 2 to 4 on clock 1 once that clock is set to 0
  pub undo : (D : ℕ) (v : ℕ → ℤ) → 1 ≤ D → v 0 ≡ pos 0 → Holds two_to_four D (λ k. v (zeroed (nat_eq 1) k)) → ⊥
  -- a further cut of the chain, between the clocks 5 and 6, takes a number out of range
  pub range : Far (cut_at chain 5 6 million 1 6)
  -- the same cut of the other chain leaves no state
  pub empty : (D : ℕ) (v : ℕ → ℤ) → 1 ≤ D → Holds parted_chain D v → Meets D (v 5 -ℤ v 6) million → ⊥
