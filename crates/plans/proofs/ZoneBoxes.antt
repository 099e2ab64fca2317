-- Boxes of a plan as zones take them: readings are whole numbers there, and clock 0 reads 0
use Rattle.std.proofs.Common.{◌≡◌, ℕ, suc, ◌<◌, ℤ, pos, ◌-ℤ◌, Some, None, Option, sym, subst, arith}
use borrow.Author.Differences.{ints}
use Rattle.bounds.specs.declared.bound.Bound.{Bound}
use Rattle.bounds.specs.Bounds.{Meets}
use Rattle.bounds.specs.Sums.{bound_of}
use Rattle.bounds.specs.Logic.{Iff}
use Rattle.zones.specs.declared.boxes.Side.{Side}
use Rattle.zones.specs.declared.boxes.ClockBox.{ClockBox}
use Rattle.zones.specs.Boxes.{Ordinary, Plain, turned}
use Rattle.zones.specs.Boxes.{InBox as ZoneBox}
use Rattle.plans.specs.Boxes.{InBox, InRange, BoxOf, side}
use Rattle.plans.specs.BoxChecks.{SideInRange}

ordinary : (b : Option Bound) → InRange b → Ordinary (bound_of b)
unfolding Ordinary
ordinary None h = tt
ordinary (Some b) h = h

in_range : (b : Option Bound) → Ordinary (bound_of b) → InRange b
unfolding Ordinary
in_range None h = tt
in_range (Some b) h = h

-- the numbers of a side that zones take are those that plans take
pub ordinary_side : (s : Side) → SideInRange s → Ordinary (bound_of s.lower) × Ordinary (bound_of s.upper)
ordinary_side s h = (ordinary s.lower h.0, ordinary s.upper h.1)

pub side_in_range : (s : Side) → Ordinary (bound_of s.lower) × Ordinary (bound_of s.upper) → SideInRange s
side_in_range s h = (in_range s.lower h.0, in_range s.upper h.1)

pub plain_of : (n : ℕ) (b : ClockBox) → BoxOf n b → Plain b.sides
plain_of n b ok k h = (ordinary (side b k).lower (ok.low k h), ordinary (side b k).upper (ok.high k h))

-- readings for a zone, of which clock 0 reads 0
module _ (b : ClockBox) (D : ℕ) (v : ℕ → ℕ) (z : ℕ → ℤ) (none : z 0 ≡ pos 0) (same : (k : ℕ) → k < 8 → z (suc k) ≡ pos (v (suc k))) where
  down : (k : ℕ) → k < 8 → z 0 -ℤ z (suc k) ≡ pos 0 -ℤ pos (v (suc k))
  down k h = let e = same k h in omega (arith, ints)

  up : (k : ℕ) → k < 8 → z (suc k) -ℤ z 0 ≡ pos (v (suc k))
  up k h = let e = same k h in omega (arith, ints)

  pub zone_box : Iff (ZoneBox b.sides D z) (InBox b D v)
  zone_box = (
    λ h k k<. (
      subst (λ d. Meets D d (bound_of (side b k).upper)) (up k k<) (h k k<).1,
      subst (λ d. Meets D d (turned (bound_of (side b k).lower))) (down k k<) (h k k<).0,
    ),
    λ h k k<. (
      subst (λ d. Meets D d (turned (bound_of (side b k).lower))) (sym (down k k<)) (h k k<).1,
      subst (λ d. Meets D d (bound_of (side b k).upper)) (sym (up k k<)) (h k k<).0,
    ),
  )
