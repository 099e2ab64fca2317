-- The worked distances
use Rattle.std.proofs.Common.{◌≡◌, ℕ, zero, suc, ◌+◌, ◌*◌, ◌<◌, ◌≤◌, Bool, true, false, [], ◌∷◌, pos, None, refl, arith}
use borrow.Author.Differences.{ints}
use Rattle.std.proofs.lemmas.Bool.{eqb-true}
use Rattle.bounds.specs.Bounds.{UpperBound, Meets}
use Rattle.bounds.specs.Laws.{times_is}
use Rattle.bounds.specs.Domains.{hand_allows, hand_normal, cycle_allows, cycle_normal}
use Rattle.zones.specs.declared.boxes.Side.{Side}
use Rattle.zones.specs.Boxes.{turned}
use Rattle.zones.proofs.Helly.{neg_times}
use Rattle.plans.specs.Boxes.{InSide, InBox, side, later, reset, scaled}
use Rattle.plans.specs.Routes.{Run, Distance}
use Rattle.plans.specs.Routes.Run.{last, first}
use Rattle.layers.specs.Deadlines.{under}
use Rattle.layers.specs.Theorems.{reading}
use Rattle.worked_cases.specs.DistanceCases.{bound, free, on_first, none_reset, small_plan, lift, blocked, narrow, NoRoute, DistanceCases}

-- ---- boxes
eight : (P : ℕ → Type 0) → P 0 → P 1 → ((i : ℕ) → P (suc (suc i))) → (i : ℕ) → i < 8 → P i
eight P a b c zero h = a
eight P a b c (suc zero) h = b
eight P a b c (suc (suc i)) h = c i

asks_nothing : (D r : ℕ) → InSide D r free
unfolding Meets turned
asks_nothing D r = (tt, tt)

-- from the third on, the sides of the boxes here ask nothing
rest : (D : ℕ) (v : ℕ → ℕ) (s t : Side) (i : ℕ) → InSide D (v (suc (suc (suc i)))) (side (record { sides = s ∷ t ∷ free ∷ free ∷ free ∷ free ∷ free ∷ free ∷ [] }) (suc (suc i)))
unfolding Meets turned
rest D v s t zero = (tt, tt)
rest D v s t (suc zero) = (tt, tt)
rest D v s t (suc (suc zero)) = (tt, tt)
rest D v s t (suc (suc (suc zero))) = (tt, tt)
rest D v s t (suc (suc (suc (suc zero)))) = (tt, tt)
rest D v s t (suc (suc (suc (suc (suc zero))))) = (tt, tt)
rest D v s t (suc (suc (suc (suc (suc (suc i)))))) = (tt, tt)

boxed : (D : ℕ) (v : ℕ → ℕ) (s t : Side) → InSide D (v 1) s → InSide D (v 2) t → InBox (record { sides = s ∷ t ∷ free ∷ free ∷ free ∷ free ∷ free ∷ free ∷ [] }) D v
boxed D v s t a b = eight (λ i. InSide D (v (suc i)) (side (record { sides = s ∷ t ∷ free ∷ free ∷ free ∷ free ∷ free ∷ free ∷ [] }) i)) a b (rest D v s t)

in_first : (D : ℕ) (v : ℕ → ℕ) (s : Side) → InSide D (v 1) s → InBox (on_first s) D v
in_first D v s a = boxed D v s free a (asks_nothing D (v 2))

anywhere : (D : ℕ) (v : ℕ → ℕ) → InBox (on_first free) D v
anywhere D v = in_first D v free (asks_nothing D (v 1))

-- ---- sides
module _ (D r n : ℕ) where
  at_most : r ≤ n * D → InSide D r (record { lower = None; upper = bound true n })
  unfolding Meets turned
  at_most h = (omega (arith, ints, times_is (pos n) D), tt)

  from_at_most : InSide D r (record { lower = None; upper = bound true n }) → r ≤ n * D
  unfolding Meets turned
  from_at_most h = omega (arith, ints, h.0, times_is (pos n) D)

  below : r < n * D → InSide D r (record { lower = None; upper = bound false n })
  unfolding Meets turned
  below h = (omega (arith, ints, times_is (pos n) D), tt)

  from_below : InSide D r (record { lower = None; upper = bound false n }) → r < n * D
  unfolding Meets turned
  from_below h = omega (arith, ints, h.0, times_is (pos n) D)

  at_least : n * D ≤ r → InSide D r (record { lower = bound true n; upper = None })
  unfolding Meets turned
  at_least h = (tt, omega (arith, ints, neg_times (pos n) D, times_is (pos n) D))

  from_at_least : InSide D r (record { lower = bound true n; upper = None }) → n * D ≤ r
  unfolding Meets turned
  from_at_least h = omega (arith, ints, h.1, neg_times (pos n) D, times_is (pos n) D)

  above : n * D < r → InSide D r (record { lower = bound false n; upper = None })
  unfolding Meets turned
  above h = (tt, omega (arith, ints, neg_times (pos n) D, times_is (pos n) D))

  from_above : InSide D r (record { lower = bound false n; upper = None }) → n * D < r
  unfolding Meets turned
  from_above h = omega (arith, ints, h.1, neg_times (pos n) D, times_is (pos n) D)

-- ---- runs of the small plan
-- a run from position 1 waits, within the invariant, until the guard holds, and then crosses
record Crossed (D : ℕ) (i g : Side) (r k : ℕ) : Type 0 where
  wait : ℕ
  start : InSide D r i
  stay : InSide D (r + wait) i
  guard : InSide D (r + wait) g
  once : 1 ≤ k

module _ (allows : ℕ → Bool) (normal : UpperBound → UpperBound) (i g : Side) where
  crossed : (D : ℕ) (v : ℕ → ℕ) (k t : ℕ) → Run (small_plan allows normal i g) D 1 v k t → Crossed D i g (v 1) k
  crossed D v k t (last w zero a r) = absurd (omega (arith, r.here))
  crossed D v k t (last w (suc n) a r) = absurd (omega (arith, r.exists))
  crossed D v k t (first w zero a c more) = record { wait = w; start = a.0 0 (omega arith); stay = a.1 0 (omega arith); guard = c.guarded 0 (omega arith); once = omega arith }
  crossed D v k t (first w (suc zero) a c more) = record { wait = w; start = a.0 0 (omega arith); stay = a.1 0 (omega arith); guard = c.guarded 0 (omega arith); once = omega arith }
  crossed D v k t (first w (suc (suc o)) a c more) = absurd (omega (arith, c.exists))

  -- in the goal already
  ends : (D : ℕ) (v : ℕ → ℕ) → Run (small_plan allows normal i g) D 2 v 0 0
  ends D v = last 0 0 (anywhere D v, anywhere D (later 0 v)) (record { exists = omega arith; here = refl; inside = anywhere D (later 0 v) })

  -- a wait of w and then the move into the goal
  over : (D : ℕ) (v : ℕ → ℕ) (w : ℕ) → InSide D (v 1) i → InSide D (v 1 + w) i → InSide D (v 1 + w) g → Run (small_plan allows normal i g) D 1 v 1 (w + 0)
  over D v w a b c = first w 0 (in_first D v i a, in_first D (later w v) i b)
      (record { exists = omega arith; likely = omega arith; from = refl; guarded = in_first D (later w v) g c; arrives = anywhere D (reset none_reset (later w v)) })
      (ends D (reset none_reset (later w v)))

-- ---- the cases
seven : Distance lift 2 1 (reading (7 ∷ [])) 1
seven = record {
  route = ∣ record {
    multiple = 1;
    some = omega arith;
    allowed = refl;
    lasts = 0;
    run = over hand_allows hand_normal _ _ 2 (scaled 1 (reading (7 ∷ []))) 0 (at_most 2 7 4 (omega arith)) (at_most 2 7 4 (omega arith)) (at_least 2 7 2 (omega arith));
  } ∣₁;
  least = λ n r. (crossed hand_allows hand_normal _ _ _ _ n _ r.run).once;
}

nine : NoRoute lift 2 1 (9 ∷ [])
nine k r =
    let c = crossed hand_allows hand_normal _ _ _ _ k _ r.run in
    omega (arith, from_at_most (r.multiple * 2) (r.multiple * 9) 4 c.start, r.some)

here : Distance lift 1 2 (reading (1000000000 ∷ [])) 0
here = record {
  route = ∣ record {
    multiple = 1;
    some = omega arith;
    allowed = refl;
    lasts = 0;
    run = ends hand_allows hand_normal _ _ 1 (scaled 1 (reading (1000000000 ∷ [])));
  } ∣₁;
  least = λ n r. omega arith;
}

never : NoRoute blocked 1 1 (0 ∷ [])
never k r =
    let D = r.multiple * 1 in
    let c = crossed hand_allows hand_normal _ _ _ _ k _ r.run in
    let x = r.multiple * 0 + c.wait in
    omega (arith, from_at_most D x 4 c.stay, from_at_least D x 5 c.guard, r.some)

by_hand : Distance (narrow hand_allows hand_normal) 1 1 (reading (0 ∷ [])) 1
by_hand = record {
  route = ∣ record {
    multiple = 2;
    some = omega arith;
    allowed = refl;
    lasts = 7;
    run = over hand_allows hand_normal _ _ 2 (scaled 2 (reading (0 ∷ []))) 7 (below 2 0 4 (omega arith)) (below 2 7 4 (omega arith)) (above 2 7 3 (omega arith));
  } ∣₁;
  least = λ n r. (crossed hand_allows hand_normal _ _ _ _ n _ r.run).once;
}

by_cycle : NoRoute (narrow cycle_allows cycle_normal) 1 1 (0 ∷ [])
by_cycle k r =
    let D = r.multiple * 1 in
    let c = crossed cycle_allows cycle_normal _ _ _ _ k _ r.run in
    let x = r.multiple * 0 + c.wait in
    let e : D ≡ 1 = eqb-true D 1 r.allowed in
    omega (arith, e, from_below D x 4 c.stay, from_above D x 3 c.guard)

-- ---- under the deadline of 1
-- the added clock is never reset, and reads at most 1 in the goal
in_time : (D : ℕ) {p : ℕ} (v : ℕ → ℕ) (k t : ℕ) → Run (under 1 lift) D p v k t → v 2 ≤ 1 * D
in_time D v k t (last w zero a r) = omega (arith, from_at_most D (v 2 + w) 1 (r.inside 1 (omega arith)))
in_time D v k t (last w (suc n) a r) = absurd (omega (arith, r.exists))
in_time D v k t (first w zero a c more) = omega (arith, in_time D _ _ _ more)
in_time D v k t (first w (suc zero) a c more) = omega (arith, in_time D _ _ _ more)
in_time D v k t (first w (suc (suc o)) a c more) = absurd (omega (arith, c.exists))

-- from position 1 the move takes 2 ticks on clock 1
late : (D : ℕ) (v : ℕ → ℕ) (k t : ℕ) → Run (under 1 lift) D 1 v k t → (1 ≤ k) × (2 * D + v 2 ≤ 1 * D + v 1)
late D v k t (last w zero a r) = absurd (omega (arith, r.here))
late D v k t (last w (suc n) a r) = absurd (omega (arith, r.exists))
late D v k t (first w zero a c more) = (omega arith, omega (arith, in_time D _ _ _ more, from_at_least D (v 1 + w) 2 (c.guarded 0 (omega arith))))
late D v k t (first w (suc zero) a c more) = (omega arith, omega (arith, in_time D _ _ _ more, from_at_least D (v 1 + w) 2 (c.guarded 0 (omega arith))))
late D v k t (first w (suc (suc o)) a c more) = absurd (omega (arith, c.exists))

abbrev one_zero : ℕ → ℕ
one_zero = scaled 1 (reading (1 ∷ 0 ∷ []))

abbrev two_one : ℕ → ℕ
two_one = reset none_reset (later 1 one_zero)

timely : Distance (under 1 lift) 1 1 (reading (1 ∷ 0 ∷ [])) 1
timely = record {
  route = ∣ record {
    multiple = 1;
    some = omega arith;
    allowed = refl;
    lasts = 1;
    run = first 1 0 (in_first 1 one_zero _ (at_most 1 1 4 (omega arith)), in_first 1 (later 1 one_zero) _ (at_most 1 2 4 (omega arith)))
        (record { exists = omega arith; likely = omega arith; from = refl; guarded = in_first 1 (later 1 one_zero) _ (at_least 1 2 2 (omega arith)); arrives = anywhere 1 two_one })
        (last 0 0 (anywhere 1 two_one, anywhere 1 (later 0 two_one)) (record { exists = omega arith; here = refl; inside = boxed 1 (later 0 two_one) free _ (asks_nothing 1 2) (at_most 1 1 1 (omega arith)) }));
  } ∣₁;
  least = λ n r. (late _ _ n _ r.run).0;
}

too_late : NoRoute (under 1 lift) 1 1 (0 ∷ 0 ∷ [])
too_late k r = omega (arith, (late _ _ k _ r.run).1, r.some)

pub distance_cases : DistanceCases
distance_cases = record {
  seven_halves = seven;
  nine_halves = nine;
  far = here;
  too_far = λ g. omega (arith, g.small 0 (omega arith));
  blocked_none = never;
  narrow_hand = by_hand;
  narrow_cycle = by_cycle;
  deadline_one = timely;
  deadline_none = too_late;
}
