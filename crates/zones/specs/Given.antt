-- Zones that are given by all their bounds.
use Rattle.std.specs.Prelude.{◌≡◌, ℕ, ◌+◌, ◌*◌, ◌/◌, ◌%◌, ◌<◌, ◌≤◌, List, None, Option, slice_index_or}
use Rattle.bounds.specs.declared.bound.Bound.{Bound}
use Rattle.bounds.specs.Sums.{bound_of}
use Rattle.zones.specs.declared.codes.Code.{Code}
use Rattle.zones.specs.Codes.{Sound, decode, code_of, code_plus}

-- the codes stand for these bounds
abbrev pub Given : List (Option Bound) → List Code → Type 0
Given bs xs = (p : ℕ) → p < 81 → decode (code_of xs p) ≡ bound_of (slice_index_or bs p None)

-- no zone has these bounds
abbrev pub NoZone : List (Option Bound) → Type 0
NoZone bs = (xs : List Code) → Sound xs → Given bs xs → ⊥

-- the code at p is as every zone has it: no way round is tighter
pub record Direct (xs : List Code) (p : ℕ) : Type 0 where
  pub diagonal : p / 9 ≡ p % 9 → code_of xs p ≡ 33554433
  pub front : p < 9 → code_of xs p ≤ 33554433
  pub around : (k : ℕ) → k < 9 → code_of xs p ≤ code_plus (code_of xs (9 * (p / 9) + k)) (code_of xs (9 * k + p % 9))
