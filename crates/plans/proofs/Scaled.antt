-- Runs at a multiple of their scale
use Rattle.std.proofs.Common.{◌≡◌, ℕ, zero, suc, ◌+◌, ◌*◌, ◌≤◌, Bool, true, false, cond, List, get_or, pos, ◌+ℤ◌, ◌-ℤ◌, ◌*ℤ◌, sym, refl, ap, ◌∙◌, subst, mul-le-mul_right, mul_assoc, mul_comm, one-mul, mul-zero, mul-add, arith}
use mathlib.Core.Path.{fun_ext}
use borrow.Author.Differences.{ints}
use Rattle.bounds.specs.Bounds.{Meets}
use Rattle.bounds.specs.Sums.{bound_of}
use Rattle.bounds.specs.Laws.{times_is, times_plus}
use Rattle.bounds.proofs.Scales.{meets_up, meets_down}
use Rattle.zones.specs.declared.boxes.Side.{Side}
use Rattle.zones.specs.declared.boxes.ClockBox.{ClockBox}
use Rattle.plans.specs.Boxes.{InSide, side, InBox, later, reset, scaled}
use Rattle.zones.specs.Boxes.{turned}
use Rattle.plans.specs.Meaning.{PlanMeaning, invariant_of, cause_of, outcome_at, goal_at}
use Rattle.plans.specs.Routes.{Waits, Reaches, Crosses, Run, Route}
use Rattle.plans.specs.Routes.Run.{last, first}
use Rattle.plans.specs.Journeys.{Journey, OneScale}
use Rattle.plans.specs.Journeys.Journey.{rescaled, arrived, crossed}

-- ---- readings
pub later_scaled : (j w : ℕ) (v : ℕ → ℕ) → scaled j (later w v) ≡ later (j * w) (scaled j v)
later_scaled j w v = fun_ext (λ i. mul-add j (v i) w)

cond_scaled : (j x : ℕ) (b : Bool) → j * cond b 0 x ≡ cond b 0 (j * x)
cond_scaled j x true = mul-zero j
cond_scaled j x false = refl

pub reset_scaled : (j : ℕ) (rs : List Bool) (v : ℕ → ℕ) → scaled j (reset rs v) ≡ reset rs (scaled j v)
reset_scaled j rs v = fun_ext at
  where
    at : (i : ℕ) → scaled j (reset rs v) i ≡ reset rs (scaled j v) i
    at zero = refl
    at (suc i) = cond_scaled j (v (suc i)) (get_or rs i false)

scaled_scaled : (i j : ℕ) (v : ℕ → ℕ) → scaled i (scaled j v) ≡ scaled (i * j) v
scaled_scaled i j v = fun_ext (λ k. sym (mul_assoc i j (v k)))

scaled_one : (v : ℕ → ℕ) → scaled 1 v ≡ v
scaled_one v = fun_ext (λ k. one-mul (v k))

-- ---- boxes
module _ (j D : ℕ) (some : 1 ≤ j) where
  up_is : (r : ℕ) → pos r *ℤ pos j ≡ pos (j * r)
  up_is r = omega (arith, ints, times_is (pos r) j, mul_comm r j)

  down_is : (r : ℕ) → (pos 0 -ℤ pos r) *ℤ pos j ≡ pos 0 -ℤ pos (j * r)
  down_is r =
      let z : (pos 0 -ℤ pos r) +ℤ pos r ≡ pos 0 = omega (arith, ints) in
      omega (arith, ints, up_is r, times_plus (pos 0 -ℤ pos r) (pos r) j, ap (λ x. x *ℤ pos j) z, times_is (pos 0) j)

  side_up : (r : ℕ) (s : Side) → InSide D r s → InSide (j * D) (j * r) s
  side_up r s h = (
    subst (λ d. Meets (j * D) d (bound_of s.upper)) (up_is r) (meets_up j D some (pos r) (bound_of s.upper) h.0),
    subst (λ d. Meets (j * D) d (turned (bound_of s.lower))) (down_is r) (meets_up j D some (pos 0 -ℤ pos r) (turned (bound_of s.lower)) h.1),
  )

  side_down : (r : ℕ) (s : Side) → InSide (j * D) (j * r) s → InSide D r s
  side_down r s h = (
    meets_down j D some (pos r) (bound_of s.upper) (subst (λ d. Meets (j * D) d (bound_of s.upper)) (sym (up_is r)) h.0),
    meets_down j D some (pos 0 -ℤ pos r) (turned (bound_of s.lower)) (subst (λ d. Meets (j * D) d (turned (bound_of s.lower))) (sym (down_is r)) h.1),
  )

  pub box_up : (b : ClockBox) (v : ℕ → ℕ) → InBox b D v → InBox b (j * D) (scaled j v)
  box_up b v h i i< = side_up (v (suc i)) (side b i) (h i i<)

  pub box_down : (b : ClockBox) (v : ℕ → ℕ) → InBox b (j * D) (scaled j v) → InBox b D v
  box_down b v h i i< = side_down (v (suc i)) (side b i) (h i i<)

  -- ---- steps
  module _ (m : PlanMeaning) (p : ℕ) (v : ℕ → ℕ) where
    pub waits_up : (w : ℕ) → Waits m D p v w → Waits m (j * D) p (scaled j v) (j * w)
    waits_up w h = (box_up (invariant_of m p) v h.0, subst (InBox (invariant_of m p) (j * D)) (later_scaled j w v) (box_up (invariant_of m p) (later w v) h.1))

    pub reaches_up : (g : ℕ) → Reaches m D p v g → Reaches m (j * D) p (scaled j v) g
    reaches_up g r = record { exists = r.exists; here = r.here; inside = box_up (goal_at m g).area v r.inside }

    pub crosses_up : (o : ℕ) → Crosses m D p v o → Crosses m (j * D) p (scaled j v) o
    crosses_up o c = record {
      exists = c.exists;
      likely = c.likely;
      from = c.from;
      guarded = box_up (cause_of m o).guard v c.guarded;
      arrives = subst (InBox (invariant_of m (outcome_at m o).target) (j * D)) (reset_scaled j (outcome_at m o).resets v) (box_up (invariant_of m (outcome_at m o).target) (reset (outcome_at m o).resets v) c.arrives);
    }

-- a step and a run at a multiple of its scale
module _ (j D : ℕ) (some : 1 ≤ j) (m : PlanMeaning) (p : ℕ) (v : ℕ → ℕ) where
  pub last_up : (w g : ℕ) → Waits m D p v w → Reaches m D p (later w v) g → Run m (j * D) p (scaled j v) 0 (j * w)
  last_up w g a r =
      last (j * w) g (waits_up j D some m p v w a) (subst (λ u. Reaches m (j * D) p u g) (later_scaled j w v) (reaches_up j D some m p (later w v) g r))

  pub first_up : (w o k t : ℕ) → Waits m D p v w → Crosses m D p (later w v) o
      → Run m (j * D) (outcome_at m o).target (scaled j (reset (outcome_at m o).resets (later w v))) k t → Run m (j * D) p (scaled j v) (suc k) (j * w + t)
  first_up w o k t a c rest =
      first (j * w) o (waits_up j D some m p v w a) (subst (λ u. Crosses m (j * D) p u o) (later_scaled j w v) (crosses_up j D some m p (later w v) o c))
      (subst (λ u. Run m (j * D) (outcome_at m o).target u k t) (reset_scaled j (outcome_at m o).resets (later w v) ∙ ap (reset (outcome_at m o).resets) (later_scaled j w v)) rest)

pub run_up : (j D : ℕ) → 1 ≤ j → (m : PlanMeaning) {p k t : ℕ} {v : ℕ → ℕ} → Run m D p v k t → Run m (j * D) p (scaled j v) k (j * t)
run_up j D some m {p} {v = v} (last w g a r) = last_up j D some m p v w g a r
run_up j D some m {p} {v = v} (first {k = k} {t = t} w o a c rest) =
    subst (λ n. Run m (j * D) p (scaled j v) (suc k) n) (sym (mul-add j w t)) (first_up j D some m p v w o k (j * t) a c (run_up j D some m rest))

-- ---- routes
module _ (m : PlanMeaning) where
  pub route_again : (D p : ℕ) (v : ℕ → ℕ) (k j : ℕ) → 1 ≤ j → Route m (j * D) p (scaled j v) k → Route m D p v k
  route_again D p v k j some r = record {
    multiple = r.multiple * j;
    some = (let h : 1 * j ≤ r.multiple * j = mul-le-mul_right j r.some in omega (arith, one-mul j));
    allowed = ap m.allows (mul_assoc r.multiple j D) ∙ r.allowed;
    lasts = r.lasts;
    run = subst (λ E. Run m E p (scaled (r.multiple * j) v) k r.lasts) (sym (mul_assoc r.multiple j D))
        (subst (λ u. Run m (r.multiple * (j * D)) p u k r.lasts) (scaled_scaled r.multiple j v) r.run);
  }

  pub route_last : (D p : ℕ) (v : ℕ → ℕ) (w g : ℕ) → m.allows D ≡ true → Waits m D p v w → Reaches m D p (later w v) g → Route m D p v 0
  route_last D p v w g ok a r = record {
    multiple = 1;
    some = omega arith;
    allowed = ap m.allows (one-mul D) ∙ ok;
    lasts = 1 * w;
    run = last_up 1 D (omega arith) m p v w g a r;
  }

  pub route_first : (D p : ℕ) (v : ℕ → ℕ) (w o k : ℕ) → Waits m D p v w → Crosses m D p (later w v) o
      → Route m D (outcome_at m o).target (reset (outcome_at m o).resets (later w v)) k → Route m D p v (suc k)
  route_first D p v w o k a c r = record {
    multiple = r.multiple;
    some = r.some;
    allowed = r.allowed;
    lasts = r.multiple * w + r.lasts;
    run = first_up r.multiple D r.some m p v w o k r.lasts a c r.run;
  }

  settled : {D p k : ℕ} {v : ℕ → ℕ} → Journey m D p v k → Route m D p v k
  settled {D} {p} {k} {v} (rescaled j some ok rest) = route_again D p v k j some (settled rest)
  settled {D} {p} {k} {v} (arrived w g ok a r) = route_last D p v w g ok a r
  settled {D} {p} {k} {v} (crossed {k = n} w o ok a c rest) = route_first D p v w o n a c (settled rest)

  told : {D p k t : ℕ} {v : ℕ → ℕ} → m.allows D ≡ true → Run m D p v k t → Journey m D p v k
  told ok (last w g a r) = arrived w g ok a r
  told ok (first w o a c rest) = crossed w o ok a c (told ok rest)

  pub one_scale : OneScale m
  one_scale D p v k = (settled, λ r. rescaled r.multiple r.some r.allowed (told r.allowed r.run))
