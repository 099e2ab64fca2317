-- What a time domain has to show, and the two that are built in.
use Rattle.std.specs.Prelude.{◌≡◌, ℕ, ◌*◌, ◌≤◌, Bool, true, false, ◌&&◌, ℤ, pos, ◌+ℤ◌, ◌-ℤ◌, ◌*ℤ◌, ◌==◌, nat_le}
use Rattle.bounds.specs.Bounds.{UpperBound, none, upto, plus, level, Meets}

-- d at the scale D, written at some multiple m of it that is allowed, is a sum of two that meet one bound each
pub record Split (allows : ℕ → Bool) (D : ℕ) (d : ℤ) (a b : UpperBound) : Type 0 where
  pub m : ℕ
  pub x : ℤ
  pub y : ℤ
  pub some : 1 ≤ m
  pub allowed : allows (m * D) ≡ true
  pub sum : x +ℤ y ≡ d *ℤ pos m
  pub first : Meets (m * D) x a
  pub second : Meets (m * D) y b

-- both bounds are met by the same differences
abbrev pub Alike : ℕ → UpperBound → UpperBound → Type 0
Alike D a b = (d : ℤ) → (Meets D d a → Meets D d b) × (Meets D d b → Meets D d a)

-- cycle time: whole ticks alone, and `< c` is `<= c - 1`
abbrev pub cycle_allows : ℕ → Bool
cycle_allows D = D == 1

unfoldable pub cycle_normal : UpperBound → UpperBound
cycle_normal none = none
cycle_normal (upto true c) = upto true c
cycle_normal (upto false c) = upto true (c -ℤ pos 1)

-- hand time: any whole scale from 1 up
abbrev pub hand_allows : ℕ → Bool
hand_allows D = nat_le 1 D

abbrev pub hand_normal : UpperBound → UpperBound
hand_normal l = l

-- what each time domain keeps
pub record Lawful (allows : ℕ → Bool) (normal : UpperBound → UpperBound) : Type 0 where
  pub one : allows 1 ≡ true
  pub same : (D : ℕ) (l : UpperBound) → 1 ≤ D → allows D ≡ true → Alike D l (normal l)
  pub zero : normal level ≡ level
  pub sums : (a b : UpperBound) → normal (plus (normal a) (normal b)) ≡ plus (normal a) (normal b)
  pub splits : (D : ℕ) (d : ℤ) (a b : UpperBound) → 1 ≤ D → allows D ≡ true → normal a ≡ a → normal b ≡ b → Meets D d (plus a b) → Split allows D d a b

-- the scales that count: those from 1 up that are allowed
abbrev pub scales : (ℕ → Bool) → ℕ → Bool
scales allows D = nat_le 1 D && allows D
