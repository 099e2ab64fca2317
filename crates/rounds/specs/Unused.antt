-- Zones that ask nothing of the clocks above some number, but to be 0 or more.
use Rattle.std.specs.Prelude.{◌≡◌, ℕ, ◌<◌, ◌≢◌}
use Rattle.bounds.specs.Bounds.{UpperBound, none}

-- for a clock j above n, no bound on j minus another, and as much on another minus j as on that other alone
pub record Unasked (n : ℕ) (Z : ℕ → ℕ → UpperBound) : Type 0 where
  pub row : (i j : ℕ) → i < 9 → j < 9 → n < j → (i ≢ j) → Z j i ≡ none
  pub column : (i j : ℕ) → i < 9 → j < 9 → n < j → (i ≢ j) → Z i j ≡ Z i 0
