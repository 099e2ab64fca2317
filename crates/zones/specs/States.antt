-- States as they are given: a scale, and readings of clock 1 and on.
use Rattle.std.specs.Prelude.{◌≡◌, ℕ, zero, suc, ◌<◌, ◌≤◌, Bool, true, List, length, ℤ, pos, Ok, Err, Result, slice_index}
use Rattle.bounds.specs.declared.refusal.Refusal.{Refusal}
use Rattle.bounds.specs.declared.refusal.Refusal.TheVariants as refused

-- what clock i reads: clock 0, and a clock beyond the readings, reads 0
unfoldable pub value_of : List ℕ → ℕ → ℕ
value_of rs zero = 0
value_of rs (suc k) = slice_index rs k

abbrev pub reading : List ℕ → ℕ → ℤ
reading rs i = pos (value_of rs i)

-- a state that is taken: at most 8 readings, none above 1,000,000,000, and a scale from 1 to 1000 that is allowed
pub record Good (allows : ℕ → Bool) (D : ℕ) (rs : List ℕ) : Type 0 where
  pub count : length rs ≤ 8
  pub least : 1 ≤ D
  pub most : D ≤ 1000
  pub allowed : allows D ≡ true
  pub small : (k : ℕ) → k < length rs → slice_index rs k ≤ 1000000000

-- what the check of a state answers
abbrev pub StateSays : (ℕ → Bool) → ℕ → List ℕ → Result (Unit {0}) Refusal → Type 0
StateSays allows D rs (Ok u) = Good allows D rs
StateSays allows D rs (Err e) = (e ≡ refused.State) × (Good allows D rs → ⊥)
