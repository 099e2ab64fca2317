-- Clocks that are set to 0.
use Rattle.zones.specs.declared.codes.Code.{Code}
use Rattle.std.specs.Prelude.{◌≡◌, ℕ, zero, suc, ◌<◌, ◌≤◌, Bool, true, false, ◌&&◌, ◌||◌, List, length, ℤ, pos, ◌-ℤ◌, ◌==◌, nat_lt, slice_index, slice_index_or}
use Rattle.bounds.specs.Bounds.{level, Meets, Tight}
use Rattle.zones.specs.Matrices.{Holds, zeroed, zero_all}
use Rattle.zones.specs.Codes.{Sound, at}

-- clock i is among the first n of the list
unfoldable pub among : List ℕ → ℕ → ℕ → Bool
among cs zero i = false
among cs (suc n) i = among cs n i || slice_index cs n == i

-- a clock of the list, other than clock 0
unfoldable pub reset : List ℕ → ℕ → Bool
reset cs i = nat_lt 0 i && among cs (length cs) i

-- clock i is marked as reset
abbrev pub marked : List Bool → ℕ → Bool
marked on i = slice_index_or on i false

-- no state lies in the zone once the clocks in r are set to 0
abbrev pub Stuck : (ℕ → Bool) → List Code → Type 0
Stuck r xs = (D : ℕ) → 1 ≤ D → (v : ℕ → ℤ) → v 0 ≡ pos 0 → Holds (at xs) D (λ k. v (zeroed r k)) → ⊥

-- ys is xs with the clocks below n that are in r cut to 0
pub record Zeroed (r : ℕ → Bool) (xs ys : List Code) (n : ℕ) : Type 0 where
  pub sound : Sound ys
  pub is : (a b : ℕ) → a < 9 → b < 9 → at ys a b ≡ zero_all r (at xs) n a b
  pub inn : (D : ℕ) → 1 ≤ D → (v : ℕ → ℤ) → Holds (at xs) D v → ((k : ℕ) → k < n → r k ≡ true → Meets D (v k -ℤ v 0) level) → Holds (at ys) D v
  pub out : (D : ℕ) → 1 ≤ D → (v : ℕ → ℤ) → Holds (at ys) D v → Holds (at xs) D v
  pub zero : (k : ℕ) → k < n → k < 9 → r k ≡ true → Tight (at ys k 0) level
