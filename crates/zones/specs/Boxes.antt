-- Boxes: eight sides, one for each of the clocks 1 to 8, cut clock by clock, the lower bound first.
use Rattle.zones.specs.declared.codes.Code.{Code}
use Rattle.std.specs.Prelude.{◌≡◌, ℕ, zero, suc, ◌+◌, ◌/◌, ◌%◌, ◌<◌, Bool, true, cond, List, ℤ, pos, ◌-ℤ◌, neg_ℤ, ◌≤ℤ◌, None, Ok, Err, Result, ◌==◌, slice_index_or}
use Rattle.bounds.specs.Bounds.{UpperBound, none, upto, Meets}
use Rattle.bounds.specs.Sums.{bound_of}
use Rattle.bounds.specs.declared.refusal.Refusal.{Refusal}
use Rattle.bounds.specs.Logic.{Iff}
use Rattle.zones.specs.Refused.{Refused}
use Rattle.zones.specs.declared.boxes.Side.{Side}
use Rattle.zones.specs.declared.zone.Cut.{Cut}
use Rattle.zones.specs.declared.zone.Cut.TheVariants as cut
use Rattle.zones.specs.Matrices.{Holds, cut_at}
use Rattle.zones.specs.Codes.{at}
use Rattle.zones.specs.Cuts.{Far, OfDomain}

abbrev pub no_side : Side
no_side = record { lower = None; upper = None }

abbrev pub side_of : List Side → ℕ → Side
side_of sides k = slice_index_or sides k no_side

-- none, or a number from 0 to 1,000,000
unfoldable pub Ordinary : UpperBound → Type 0
Ordinary none = Unit {0}
Ordinary (upto s n) = (pos 0 ≤ℤ n) × (n ≤ℤ pos 1000000)

abbrev pub Plain : List Side → Type 0
Plain sides = (k : ℕ) → k < 8 → Ordinary (bound_of (side_of sides k).lower) × Ordinary (bound_of (side_of sides k).upper)

-- x is at least c where 0 - x is at most -c
unfoldable pub turned : UpperBound → UpperBound
turned none = none
turned (upto s c) = upto s (neg_ℤ c)

-- the bound of step s, and the row and column that it is cut at
unfoldable pub box_bound : List Side → ℕ → UpperBound
box_bound sides s = cond (s % 2 == 1) (bound_of (side_of sides (s / 2)).upper) (turned (bound_of (side_of sides (s / 2)).lower))

unfoldable pub row_of : ℕ → ℕ
row_of s = cond (s % 2 == 1) (s / 2 + 1) 0

unfoldable pub column_of : ℕ → ℕ
column_of s = cond (s % 2 == 1) 0 (s / 2 + 1)

-- the readings lie in the box
abbrev pub InBox : List Side → ℕ → (ℕ → ℤ) → Type 0
InBox sides D v = (k : ℕ) → k < 8 → Meets D (v 0 -ℤ v (suc k)) (turned (bound_of (side_of sides k).lower)) × Meets D (v (suc k) -ℤ v 0) (bound_of (side_of sides k).upper)

-- they meet the bounds of the first n steps
abbrev pub Upto : List Side → ℕ → ℕ → (ℕ → ℤ) → Type 0
Upto sides n D v = (m : ℕ) → m < n → Meets D (v (row_of m) -ℤ v (column_of m)) (box_bound sides m)

-- the zone after n steps
unfoldable pub boxed : (UpperBound → UpperBound) → List Side → (ℕ → ℕ → UpperBound) → ℕ → ℕ → ℕ → UpperBound
boxed normal sides Z zero a b = Z a b
boxed normal sides Z (suc n) a b = cut_at (boxed normal sides Z n) (row_of n) (column_of n) (normal (box_bound sides n)) a b

-- a number is beyond what a zone keeps after step n
abbrev pub OverAt : (UpperBound → UpperBound) → List Side → (ℕ → ℕ → UpperBound) → ℕ → Type 0
OverAt normal sides Z n = (a : ℕ) × ((b : ℕ) × ((a < 9) × (b < 9) × Far (boxed normal sides Z (suc n) a b)))

abbrev pub FineTo : (UpperBound → UpperBound) → List Side → (ℕ → ℕ → UpperBound) → ℕ → Type 0
FineTo normal sides Z n = (m : ℕ) → m < n → OverAt normal sides Z m → ⊥

-- ys is xs after n steps
pub record Boxed (allows : ℕ → Bool) (normal : UpperBound → UpperBound) (sides : List Side) (xs ys : List Code) (n : ℕ) : Type 0 where
  pub keeps : OfDomain normal ys
  pub is : (a b : ℕ) → a < 9 → b < 9 → at ys a b ≡ boxed normal sides (at xs) n a b
  pub fine : FineTo normal sides (at xs) n
  pub inn : (D : ℕ) (v : ℕ → ℤ) → allows D ≡ true → Holds (at xs) D v → Upto sides n D v → Holds (at ys) D v
  pub out : (D : ℕ) (v : ℕ → ℤ) → allows D ≡ true → Holds (at ys) D v → Holds (at xs) D v × Upto sides n D v

-- some state of xs meets the bounds of the first n steps, or none does
abbrev pub SomeTo : (ℕ → Bool) → List Side → List Code → ℕ → Type 0
SomeTo allows sides xs n = (D : ℕ) × ((v : ℕ → ℤ) × ((v 0 ≡ pos 0) × (allows D ≡ true) × Holds (at xs) D v × Upto sides n D v))

abbrev pub NoneTo : (ℕ → Bool) → List Side → List Code → ℕ → Type 0
NoneTo allows sides xs n = (D : ℕ) (v : ℕ → ℤ) → allows D ≡ true → Holds (at xs) D v → Upto sides n D v → ⊥

-- some state of xs meets the bounds up to step n, and then a bound is out of range, as at no step before
pub record BoxOver (allows : ℕ → Bool) (normal : UpperBound → UpperBound) (sides : List Side) (xs ys : List Code) : Type 0 where
  pub plain : Plain sides
  pub was_of_domain : OfDomain normal xs
  pub step : (n : ℕ) × (n < 16) × FineTo normal sides (at xs) n × SomeTo allows sides xs (suc n) × OverAt normal sides (at xs) n
  pub unchanged : ys ≡ xs

-- no state of xs lies in the box, and no bound is out of range before the step that leaves none
pub record BoxEmpty (allows : ℕ → Bool) (normal : UpperBound → UpperBound) (sides : List Side) (xs ys : List Code) : Type 0 where
  pub plain : Plain sides
  pub was_of_domain : OfDomain normal xs
  pub step : (n : ℕ) × (n < 16) × FineTo normal sides (at xs) n × NoneTo allows sides xs (suc n)
  pub gone : (D : ℕ) (v : ℕ → ℤ) → allows D ≡ true → Holds (at xs) D v → InBox sides D v → ⊥
  pub unchanged : ys ≡ xs

-- the zone now holds exactly its states that lie in the box
pub record BoxKept (allows : ℕ → Bool) (normal : UpperBound → UpperBound) (sides : List Side) (xs ys : List Code) : Type 0 where
  pub plain : Plain sides
  pub was_of_domain : OfDomain normal xs
  pub of_domain : OfDomain normal ys
  pub in_range : FineTo normal sides (at xs) 16
  pub bounds : (i j : ℕ) → i < 9 → j < 9 → at ys i j ≡ boxed normal sides (at xs) 16 i j
  pub states : (D : ℕ) (v : ℕ → ℤ) → allows D ≡ true → Iff (Holds (at ys) D v) (Holds (at xs) D v × InBox sides D v)

-- by answer; xs is what the zone was, and ys what it is then
abbrev pub BoxSays : (ℕ → Bool) → (UpperBound → UpperBound) → List Side → List Code → List Code → Result Cut Refusal → Type 0
BoxSays allows normal sides xs ys (Err e) = Refused ⊥ (((Plain sides × OfDomain normal xs) → ⊥) × (ys ≡ xs)) ⊥ (BoxOver allows normal sides xs ys) e
BoxSays allows normal sides xs ys (Ok cut.Empty) = BoxEmpty allows normal sides xs ys
BoxSays allows normal sides xs ys (Ok cut.Kept) = BoxKept allows normal sides xs ys
