-- Zone calls as functions on the 81 codes of a zone.
use Rattle.std.specs.Prelude.{ℕ, zero, suc, ◌+◌, ◌-◌, ◌*◌, ◌/◌, ◌%◌, Bool, true, false, cond, ◌&&◌, ◌||◌, leb, List, map, ℤ, pos, negsuc, ◌-ℤ◌, ◌*ℤ◌, ◌==◌, int_le, int_lt, nat_le, nat_lt}
use Rattle.std.specs.List.{range_with_len}
use Rattle.bounds.specs.Bounds.{UpperBound, none, upto}
use Rattle.zones.specs.declared.codes.Code.{Code}
use Rattle.zones.specs.declared.boxes.Side.{Side}
use Rattle.zones.specs.Codes.{code_of, code_plus, code_cut, code_all, code_back, code_free, decode}
use Rattle.zones.specs.Boxes.{row_of, column_of, box_bound}

-- what remains of a zone after a call: a zone, no state, or a number out of range
pub data Remains : Type 0 where
  kept : List Code → Remains
  empty : Remains
  beyond : Remains

-- one call after another, as long as a zone is kept
abbrev pub then : Remains → (List Code → Remains) → Remains
then (kept xs) k = k xs
then empty k = empty
then beyond k = beyond

-- every number below n passes the test
unfoldable pub every : ℕ → (ℕ → Bool) → Bool
every zero t = true
every (suc n) t = every n t && t n

-- the first n codes
unfoldable pub codes_to : ℕ → (ℕ → ℕ) → List Code
codes_to n f = map (λ p. record { 0 = f p }) (range_with_len 0 n)

-- none, or a number within ±4,000,000
unfoldable pub in_reach : ℕ → Bool
in_reach k = k == 4294967295 || (nat_le 25554432 k && nat_le k 41554433)

unfoldable pub half_code : ℤ → ℕ
half_code (pos n) = 16777216 + n
half_code (negsuc n) = 16777216 - suc n

-- the code of a bound
unfoldable pub coded : UpperBound → ℕ
coded none = 4294967295
coded (upto true c) = 2 * half_code c + 1
coded (upto false c) = 2 * half_code c

-- the zone of every state
unfoldable pub whole : List Code
whole = codes_to 81 code_all

-- cut at (i, j) by the bound whose code is c: no state is left, or every bound is tightened, unless one is then out of range
unfoldable pub cut_code : ℕ → ℕ → ℕ → List Code → Remains
cut_code i j c xs = cond (nat_lt (code_plus (code_of xs (9 * j + i)) c) 33554433) empty
    (cond (every 81 (λ p. in_reach (code_cut xs i j c p))) (kept (codes_to 81 (code_cut xs i j c))) beyond)

abbrev pub cut_zone : (UpperBound → UpperBound) → ℕ → ℕ → UpperBound → List Code → Remains
cut_zone normal i j b xs = cut_code i j (coded (normal b)) xs

-- cut by the bounds of the first n steps of a box
unfoldable pub box_steps : (UpperBound → UpperBound) → List Side → ℕ → List Code → Remains
box_steps normal sides zero xs = kept xs
box_steps normal sides (suc n) xs = then (box_steps normal sides n xs) (cut_zone normal (row_of n) (column_of n) (box_bound sides n))

abbrev pub cut_box : (UpperBound → UpperBound) → List Side → List Code → Remains
cut_box normal sides xs = box_steps normal sides 16 xs

unfoldable pub back_zone : List Code → Remains
back_zone xs = kept (codes_to 81 (code_back xs))

-- clock n, if it is reset, cut to 0
unfoldable pub zero_clock : (ℕ → Bool) → ℕ → List Code → Remains
zero_clock r n xs = cond (r n && nat_lt (code_of xs n) 33554433) empty (kept (codes_to 81 (λ p. cond (r n) (code_cut xs n 0 33554433 p) (code_of xs p))))

unfoldable pub zero_steps : (ℕ → Bool) → ℕ → List Code → Remains
zero_steps r zero xs = kept xs
zero_steps r (suc n) xs = then (zero_steps r n xs) (zero_clock r n)

unfoldable pub freed : (ℕ → Bool) → List Code → Remains
freed r xs = kept (codes_to 81 (code_free r xs))

-- the clocks in r cut to 0, then let go
unfoldable pub undo_zone : (ℕ → Bool) → List Code → Remains
undo_zone r xs = then (zero_steps r 9 xs) (freed r)

-- as tight at every (i, j)
unfoldable pub within_zone : List Code → List Code → Bool
within_zone xs ys = every 81 (λ p. leb (code_of xs p) (code_of ys p))

-- the difference d meets the bound at the scale D
unfoldable pub meets : ℕ → ℤ → UpperBound → Bool
meets D d none = true
meets D d (upto true c) = int_le d (c *ℤ pos D)
meets D d (upto false c) = int_lt d (c *ℤ pos D)

-- the readings v at the scale D meet every bound
unfoldable pub holds_zone : List Code → ℕ → (ℕ → ℤ) → Bool
holds_zone xs D v = every 81 (λ p. meets D (v (p / 9) -ℤ v (p % 9)) (decode (code_of xs p)))
