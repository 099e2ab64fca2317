-- A bound's code: 2 (c + 16777216) + 1 for `<= c`, 2 (c + 16777216) for `< c`, and 4294967295 for none, so that the tighter has the smaller code.
use Rattle.zones.specs.declared.codes.Code.{Code}
use Rattle.std.specs.Prelude.{ℕ, zero, suc, ◌+◌, ◌-◌, ◌*◌, ◌/◌, ◌%◌, ◌<◌, ◌≤◌, min, Bool, cond, ◌||◌, List, pos, ◌-ℤ◌, ◌==◌, nat_lt, slice_index_or}
use Rattle.bounds.specs.Bounds.{UpperBound, none, upto}
use Rattle.zones.specs.Matrices.{Canon}

-- the bound that a code stands for
unfoldable pub decode : ℕ → UpperBound
decode k = cond (nat_lt k 4294967295) (upto (k % 2 == 1) (pos (k / 2) -ℤ pos 16777216)) none

-- the code at p
abbrev pub code_at : List Code → ℕ → Code
code_at xs p = slice_index_or xs p (record { 0 = 0 })

-- the number of the code at p
abbrev pub code_of : List Code → ℕ → ℕ
code_of xs p = (code_at xs p).0

-- the bound at (i, j)
abbrev pub at : List Code → ℕ → ℕ → UpperBound
at xs i j = decode (code_of xs (9 * i + j))

-- none, or a number within r
abbrev pub Near : ℕ → ℕ → Type 0
Near r k = (k < 4294967295 → 2 * (16777216 - r) ≤ k × (k ≤ 2 * (16777216 + r) + 1)) × (k ≤ 4294967295)

unfoldable pub code_plus : ℕ → ℕ → ℕ
code_plus a b = cond (nat_lt a 4294967295) (cond (nat_lt b 4294967295) ((a / 2 + b / 2 - 16777216) * 2 + min (a % 2) (b % 2)) 4294967295) 4294967295

-- the way from (p / 9) to (p % 9) through (i, j), where c bounds i - j
abbrev pub code_via : List Code → ℕ → ℕ → ℕ → ℕ → ℕ
code_via xs i j c p = code_plus (code_plus (code_of xs (9 * (p / 9) + i)) c) (code_of xs (9 * j + p % 9))

unfoldable pub code_cut : List Code → ℕ → ℕ → ℕ → ℕ → ℕ
code_cut xs i j c p = min (code_of xs p) (code_via xs i j c p)

-- what every zone keeps: numbers within ±4,000,000, and canonical form
pub record Sound (xs : List Code) : Type 0 where
  pub near : (p : ℕ) → p < 81 → Near 4000000 (code_of xs p)
  pub canon : Canon (at xs)

-- the code of the zone of every state
abbrev pub code_all : ℕ → ℕ
code_all p = cond (nat_lt p 9 || p % 10 == 0) 33554433 4294967295

-- the tightest of `<= 0` and the bounds at (1, j) to (n, j)
unfoldable pub code_front : List Code → ℕ → ℕ → ℕ
code_front xs zero j = 33554433
code_front xs (suc n) j = min (code_front xs n j) (code_of xs (9 * suc n + j))

unfoldable pub code_back : List Code → ℕ → ℕ
code_back xs p = cond (nat_lt p 9) (code_front xs 8 p) (code_of xs p)

-- the zone with the clocks in r let go
unfoldable pub code_free : (ℕ → Bool) → List Code → ℕ → ℕ
code_free r xs p = cond (p / 9 == p % 9) 33554433 (cond (r (p / 9)) 4294967295 (code_of xs (9 * (p / 9) + cond (r (p % 9)) 0 (p % 9))))
