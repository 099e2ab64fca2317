-- Readings of a plan's states, and of its zones' states
use Rattle.std.proofs.Common.{◌≡◌, ℕ, zero, suc, ◌+◌, ◌*◌, ◌<◌, ◌≤◌, Bool, true, false, cond, List, get_or, ℤ, pos, ◌+ℤ◌, ◌-ℤ◌, ◌*ℤ◌, ◌≤ℤ◌, sym, refl, ap, ◌∙◌, subst, mul_assoc, mul_comm, mul-le-mul, one-mul, mul-zero, mul-add, arith}
use mathlib.Core.Path.{fun_ext}
use borrow.Author.Differences.{ints}
use Rattle.bounds.specs.Bounds.{UpperBound, Meets}
use Rattle.bounds.specs.Sums.{bound_of}
use Rattle.bounds.specs.Laws.{times_plus}
use Rattle.bounds.proofs.Scales.{meets_down}
use Rattle.zones.specs.declared.codes.Code.{Code}
use Rattle.zones.specs.declared.boxes.ClockBox.{ClockBox}
use Rattle.zones.specs.Codes.{at}
use Rattle.zones.specs.Matrices.{Holds, Readings, later as zone-later, zeroed}
use Rattle.zones.specs.Boxes.{InBox as InSides}
use Rattle.zones.specs.States.{value_of, reading}
use Rattle.zones.proofs.Helly.{meets_scaled}
use Rattle.plans.specs.Boxes.{side, InBox, later, reset, scaled}
use Rattle.rounds.specs.Held.{clock, Held}
use Rattle.rounds.specs.Rounds.{resets_of}

-- ---- readings at multiples of their scale
pub scaled_one : (v : ℕ → ℕ) → scaled 1 v ≡ v
scaled_one v = fun_ext (λ i. one-mul (v i))

pub scaled_scaled : (n m : ℕ) (v : ℕ → ℕ) → scaled n (scaled m v) ≡ scaled (n * m) v
scaled_scaled n m v = fun_ext (λ i. sym (mul_assoc n m (v i)))

pub scaled_later : (m w : ℕ) (v : ℕ → ℕ) → scaled m (later w v) ≡ later (m * w) (scaled m v)
scaled_later m w v = fun_ext (λ i. mul-add m (v i) w)

times_cond : (m n : ℕ) (b : Bool) → m * cond b 0 n ≡ cond b 0 (m * n)
times_cond m n true = mul-zero m
times_cond m n false = refl

pub scaled_reset : (m : ℕ) (rs : List Bool) (v : ℕ → ℕ) → scaled m (reset rs v) ≡ reset rs (scaled m v)
scaled_reset m rs v = fun_ext each
  where
    each : (i : ℕ) → scaled m (reset rs v) i ≡ reset rs (scaled m v) i
    each zero = refl
    each (suc i) = times_cond m (v (suc i)) (get_or rs i false)

pub times_some : (m D : ℕ) → 1 ≤ m → 1 ≤ D → 1 ≤ m * D
times_some m D h k = omega (arith, mul-le-mul h k)

-- ---- what the nine clocks read
pub clock_readings : (v : ℕ → ℕ) → Readings (clock v)
clock_readings v = (refl, each)
  where
    each : (k : ℕ) → k < 9 → pos 0 ≤ℤ clock v k
    each zero h = omega (arith, ints)
    each (suc k) h = omega (arith, ints)

clock_scaled : (m : ℕ) (v : ℕ → ℕ) (i : ℕ) → clock (scaled m v) i ≡ clock v i *ℤ pos m
clock_scaled m v zero = ap pos (sym (mul_comm 0 m ∙ mul-zero m))
clock_scaled m v (suc i) = ap pos (mul_comm m (v (suc i)))

pub clock_later : (m w : ℕ) (v : ℕ → ℕ) (i : ℕ) → clock (later w (scaled m v)) i ≡ zone-later m (pos w) (clock v) i
clock_later m w v zero = refl
clock_later m w v (suc i) = ap (λ n. pos (n + w)) (mul_comm m (v (suc i)))

pub clock_reset : (rs : List Bool) (v : ℕ → ℕ) (i : ℕ) → clock (reset rs v) i ≡ clock v (zeroed (resets_of rs) i)
clock_reset rs v zero = refl
clock_reset rs v (suc i) = each (get_or rs i false)
  where
    each : (b : Bool) → pos (cond b 0 (v (suc i))) ≡ clock v (cond b 0 (suc i))
    each true = refl
    each false = refl

pub clock_value : (rs : List ℕ) (i : ℕ) → clock (value_of rs) i ≡ reading rs i
unfolding value_of
clock_value rs zero = refl
clock_value rs (suc i) = refl

pub holds_same : (Z : ℕ → ℕ → UpperBound) (D : ℕ) (u v : ℕ → ℤ) → ((i : ℕ) → u i ≡ v i) → Holds Z D u → Holds Z D v
holds_same Z D u v e h i j hi hj = subst (λ x. Meets D (x -ℤ v j) (Z i j)) (e i) (subst (λ y. Meets D (u i -ℤ y) (Z i j)) (e j) (h i j hi hj))

times_minus : (x y : ℤ) (m : ℕ) → x *ℤ pos m -ℤ y *ℤ pos m ≡ (x -ℤ y) *ℤ pos m
times_minus x y m =
    let e : (x -ℤ y) +ℤ y ≡ x = omega (arith, ints) in
    let f = times_plus (x -ℤ y) y m in
    let g : ((x -ℤ y) +ℤ y) *ℤ pos m ≡ x *ℤ pos m = ap (λ t. t *ℤ pos m) e in
    omega (arith, ints)

module _ (m D : ℕ) (some : 1 ≤ m) where
  meets_unscaled : (x y : ℤ) (b : UpperBound) → Meets (m * D) (x *ℤ pos m -ℤ y *ℤ pos m) b → Meets D (x -ℤ y) b
  meets_unscaled x y b h = meets_down m D some (x -ℤ y) b (subst (λ d. Meets (m * D) d b) (times_minus x y m) h)

  pub held_up : (z : List Code) (v : ℕ → ℕ) → Held z D v → Held z (m * D) (scaled m v)
  held_up z v h = holds_same (at z) (m * D) (λ i. clock v i *ℤ pos m) (clock (scaled m v)) (λ i. sym (clock_scaled m v i))
      (λ i j hi hj. meets_scaled m D some (clock v i) (clock v j) (at z i j) (h i j hi hj))

  pub held_down : (z : List Code) (v : ℕ → ℕ) → Held z (m * D) (scaled m v) → Held z D v
  held_down z v h i j hi hj = meets_unscaled (clock v i) (clock v j) (at z i j)
      (holds_same (at z) (m * D) (clock (scaled m v)) (λ k. clock v k *ℤ pos m) (clock_scaled m v) h i j hi hj)

-- ---- boxes
module _ (b : ClockBox) (D : ℕ) (v : ℕ → ℕ) where
  minus_zero : (n : ℕ) → pos n -ℤ pos 0 ≡ pos n
  minus_zero n = omega (arith, ints)

  pub box_sides : InBox b D v → InSides b.sides D (clock v)
  box_sides h k l = ((h k l).1, subst (λ d. Meets D d (bound_of (side b k).upper)) (sym (minus_zero (v (suc k)))) (h k l).0)

  pub sides_box : InSides b.sides D (clock v) → InBox b D v
  sides_box h k l = (subst (λ d. Meets D d (bound_of (side b k).upper)) (minus_zero (v (suc k))) (h k l).1, (h k l).0)

pub box_up : (m D : ℕ) → 1 ≤ m → (b : ClockBox) (v : ℕ → ℕ) → InBox b D v → InBox b (m * D) (scaled m v)
box_up m D some b v h = sides_box b (m * D) (scaled m v) (λ k l.
    let s = box_sides b D v h k l in
    let e0 : clock (scaled m v) 0 ≡ clock v 0 *ℤ pos m = clock_scaled m v 0 in
    let e1 : clock (scaled m v) (suc k) ≡ clock v (suc k) *ℤ pos m = clock_scaled m v (suc k) in
    (two (clock v 0) (clock v (suc k)) _ _ e0 e1 _ s.0, two (clock v (suc k)) (clock v 0) _ _ e1 e0 _ s.1))
  where
    two : (x y x' y' : ℤ) → x' ≡ x *ℤ pos m → y' ≡ y *ℤ pos m → (l : UpperBound) → Meets D (x -ℤ y) l → Meets (m * D) (x' -ℤ y') l
    two x y x' y' e f l g = subst (λ t. Meets (m * D) (t -ℤ y') l) (sym e) (subst (λ t. Meets (m * D) (x *ℤ pos m -ℤ t) l) (sym f) (meets_scaled m D some x y l g))
