-- Upper bounds on a difference of two readings: `< c`, `<= c` and none.
use Rattle.std.specs.Prelude.{ℕ, Bool, true, false, ◌&&◌, ℤ, pos, ◌+ℤ◌, ◌*ℤ◌, ◌≤ℤ◌, ◌<ℤ◌}

-- `upto true c` is `<= c`, and `upto false c` is `< c`
pub data UpperBound : Type 0 where
  none : UpperBound
  upto : Bool → ℤ → UpperBound

-- the numbers are added, and the sum is `<=` only if both are
unfoldable pub plus : UpperBound → UpperBound → UpperBound
plus none b = none
plus (upto s a) none = none
plus (upto s a) (upto t b) = upto (s && t) (a +ℤ b)

-- `<= 0`
abbrev pub level : UpperBound
level = upto true (pos 0)

-- the difference d meets the bound at the scale D
unfoldable pub Meets : ℕ → ℤ → UpperBound → Type 0
Meets D d none = Unit {0}
Meets D d (upto true c) = d ≤ℤ (c *ℤ pos D)
Meets D d (upto false c) = d <ℤ (c *ℤ pos D)

abbrev pub bit : Bool → ℕ
bit true = 1
bit false = 0

-- a is as tight as b, or tighter: the smaller number is, and at equal numbers `<` is
unfoldable pub Tight : UpperBound → UpperBound → Type 0
Tight a none = Unit {0}
Tight none (upto t b) = ⊥
Tight (upto s a) (upto t b) = ((a +ℤ a) +ℤ pos (bit s)) ≤ℤ ((b +ℤ b) +ℤ pos (bit t))
