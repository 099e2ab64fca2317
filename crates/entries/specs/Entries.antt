-- Entries, and what makes one an entry for n clocks.
use Rattle.std.specs.Prelude.{◌≡◌, ℕ, ◌+◌, ◌*◌, ◌^◌, ◌<◌, ◌≤◌, cond, List, length, ℤ, None, Option, ◌==◌, nat_le, slice_index_or}
use Rattle.bounds.specs.declared.bound.Bound.{Bound}
use Rattle.bounds.specs.Bounds.{UpperBound, none, level}
use Rattle.bounds.specs.Sums.{bound_of}
use Rattle.zones.specs.declared.codes.Code.{Code}
use Rattle.zones.specs.Matrices.{Holds, Readings}
use Rattle.zones.specs.Codes.{at}
use Rattle.entries.specs.declared.entry.Entry.{Entry}

-- the zone asks nothing of a clock above n but to be 0 or more: a state stays in it whatever such clocks read
abbrev pub AsksNothing : ℕ → List Code → Type 0
AsksNothing n xs = (D : ℕ) (v w : ℕ → ℤ) → 1 ≤ D → Readings v → Readings w → ((k : ℕ) → k ≤ n → w k ≡ v k) → Holds (at xs) D v → Holds (at xs) D w

-- an entry for n clocks; its round has 64 bits and its zone 81 places, as the program holds them
pub record IsEntry (n : ℕ) (e : Entry) : Type 0 where
  pub low : 1 ≤ e.position
  pub high : e.position ≤ 64
  pub fits : e.round < 2 ^ 64
  pub places : length e.zone.codes ≡ 81
  pub asks : AsksNothing n e.zone.codes

-- the bounds of a zone that asks nothing of a clock above n, from those among the clocks up to n
unfoldable pub whole : ℕ → (ℕ → ℕ → UpperBound) → ℕ → ℕ → UpperBound
whole n Z i j = cond (i == j) level (cond (nat_le i n) (cond (nat_le j n) (Z i j) (cond (i == 0) level (Z i 0))) none)

-- bounds in a list, that at (i, j) standing at 9 i + j
abbrev pub bounds_at : List (Option Bound) → ℕ → ℕ → UpperBound
bounds_at bs i j = bound_of (slice_index_or bs (9 * i + j) None)
