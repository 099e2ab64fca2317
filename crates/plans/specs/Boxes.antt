-- Boxes, and the readings that lie in them.
use Rattle.std.specs.Prelude.{◌≡◌, ℕ, zero, suc, ◌+◌, ◌*◌, ◌<◌, ◌≤◌, Bool, true, false, cond, ◌&&◌, List, length, pos, ◌-ℤ◌, ◌≤ℤ◌, Some, None, Option, slice_index_or}
use Rattle.bounds.specs.declared.bound.Bound.{Bound}
use Rattle.bounds.specs.Bounds.{Meets}
use Rattle.bounds.specs.Sums.{bound_of}
use Rattle.zones.specs.declared.boxes.Side.{Side}
use Rattle.zones.specs.declared.boxes.ClockBox.{ClockBox}
use Rattle.zones.specs.Boxes.{no_side, turned}

-- the reading r, at the scale D, meets both bounds of a side
abbrev pub InSide : ℕ → ℕ → Side → Type 0
InSide D r s = Meets D (pos r) (bound_of s.upper) × Meets D (pos 0 -ℤ pos r) (turned (bound_of s.lower))

-- what a box asks of the clock i + 1
abbrev pub side : ClockBox → ℕ → Side
side b i = slice_index_or b.sides i no_side

-- the readings v, by clock, lie in the box at the scale D; clock 0 is not looked at
abbrev pub InBox : ClockBox → ℕ → (ℕ → ℕ) → Type 0
InBox b D v = (i : ℕ) → i < 8 → InSide D (v (suc i)) (side b i)

-- the readings after a wait of w
abbrev pub later : ℕ → (ℕ → ℕ) → ℕ → ℕ
later w v i = v i + w

-- the readings once the clocks in rs are set to 0
abbrev pub reset : List Bool → (ℕ → ℕ) → ℕ → ℕ
reset rs v zero = v zero
reset rs v (suc i) = cond (slice_index_or rs i false) 0 (v (suc i))

-- the readings, written at j times their scale
abbrev pub scaled : ℕ → (ℕ → ℕ) → ℕ → ℕ
scaled j v i = j * v i

abbrev pub absent : Option Bound → Bool
absent None = true
absent (Some b) = false

-- the side asks nothing
abbrev pub blank : Side → Bool
blank s = absent s.lower && absent s.upper

-- the number of a bound of a box lies in 0 to 1,000,000
abbrev pub InRange : Option Bound → Type 0
InRange None = Unit {0}
InRange (Some b) = (pos 0 ≤ℤ b.number) × (b.number ≤ℤ pos 1000000)

-- a box of a plan of n clocks: it asks nothing of a clock above n, and its numbers are in range
pub record BoxOf (n : ℕ) (b : ClockBox) : Type 0 where
  pub eight : length b.sides ≡ 8
  pub free : (i : ℕ) → n ≤ i → blank (side b i) ≡ true
  pub low : (i : ℕ) → i < 8 → InRange (side b i).lower
  pub high : (i : ℕ) → i < 8 → InRange (side b i).upper
