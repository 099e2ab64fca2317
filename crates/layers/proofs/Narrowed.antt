-- Runs of a restriction
use Rattle.std.proofs.Common.{◌≡◌, ℕ, suc, ◌-◌, ◌*◌, ◌<◌, ◌≤◌, Bool, true, false, cond, not, ◌&&◌, ◌||◌, List, length, ℤ, pos, ◌-ℤ◌, neg_ℤ, Some, None, Option, sym, refl, ap, subst, mul-le-mul_right, one-mul, arith}
use native.Mathlib.Decide.{dec_lt}
use borrow.Author.Differences.{ints}
use lib.Signed.{lt_z, le_z}
use Rattle.bounds.specs.declared.bound.Bound.{Bound}
use Rattle.bounds.specs.Bounds.{upto, Meets, Tight}
use Rattle.bounds.specs.Sums.{bound_of}
use Rattle.bounds.specs.Laws.{meets_looser}
use Rattle.zones.specs.declared.boxes.Side.{Side}
use Rattle.zones.specs.declared.boxes.ClockBox.{ClockBox}
use Rattle.plans.specs.Boxes.{InSide, side, InBox, later, reset, BoxOf}
use Rattle.zones.specs.Boxes.{turned}
use Rattle.plans.specs.Meaning.{PlanMeaning, WellFormed, invariant_of, cause_of, outcome_at, goal_at}
use Rattle.plans.specs.Items.{Names}
use Rattle.layers.specs.Narrowing.{below, above, lowest, highest, both, narrow_box}
use Rattle.layers.specs.Restrictions.{restricted, box_of, BoxesFor, Stays}
use Rattle.plans.specs.Routes.{Run, course}
use Rattle.plans.specs.Routes.Course.{goes}
use Rattle.plans.specs.Routes.Run.{last, first}
use Rattle.layers.specs.LayersSound.{narrow_at, narrow_past, narrowed_at}
use Rattle.layers.specs.Theorems.{RestrictedRuns, RestrictedRoutes}
use Rattle.bounds.specs.Logic.{Iff}
use Rattle.layers.proofs.Timed.{in_free}

-- ---- the tighter of two bounds
below_yes : (s t : Bool) (a b : ℤ) → (lt_z a b || (le_z a b && (not s && t))) ≡ true → Tight (upto s a) (upto t b)
unfolding Tight
below_yes true true a b e = grind (arith, ints)
below_yes true false a b e = grind (arith, ints)
below_yes false true a b e = grind (arith, ints)
below_yes false false a b e = grind (arith, ints)

below_no : (s t : Bool) (a b : ℤ) → (lt_z a b || (le_z a b && (not s && t))) ≡ false → Tight (upto t b) (upto s a)
unfolding Tight
below_no true true a b e = grind (arith, ints)
below_no true false a b e = grind (arith, ints)
below_no false true a b e = grind (arith, ints)
below_no false false a b e = grind (arith, ints)

above_yes : (s t : Bool) (a b : ℤ) → (lt_z b a || (le_z b a && (not s && t))) ≡ true → Tight (upto s (neg_ℤ a)) (upto t (neg_ℤ b))
unfolding Tight
above_yes true true a b e = grind (arith, ints)
above_yes true false a b e = grind (arith, ints)
above_yes false true a b e = grind (arith, ints)
above_yes false false a b e = grind (arith, ints)

above_no : (s t : Bool) (a b : ℤ) → (lt_z b a || (le_z b a && (not s && t))) ≡ false → Tight (upto t (neg_ℤ b)) (upto s (neg_ℤ a))
unfolding Tight
above_no true true a b e = grind (arith, ints)
above_no true false a b e = grind (arith, ints)
above_no false true a b e = grind (arith, ints)
above_no false false a b e = grind (arith, ints)

module _ (D : ℕ) (D≥ : 1 ≤ D) (d : ℤ) where
  meets_lowest : (a b : Option Bound) → Iff (Meets D d (bound_of (lowest a b))) (Meets D d (bound_of a) × Meets D d (bound_of b))
  unfolding Meets
  meets_lowest None b = (λ h. (tt, h), λ h. h.1)
  meets_lowest (Some a) None = (λ h. (h, tt), λ h. h.0)
  meets_lowest (Some a) (Some b) = go (below a b) refl
    where
      go : (q : Bool) → below a b ≡ q → Iff (Meets D d (bound_of (cond q (Some a) (Some b)))) (Meets D d (bound_of (Some a)) × Meets D d (bound_of (Some b)))
      go true e = (λ h. (h, meets_looser D D≥ d (bound_of (Some a)) (bound_of (Some b)) (below_yes a.closed b.closed a.number b.number e) h), λ h. h.0)
      go false e = (λ h. (meets_looser D D≥ d (bound_of (Some b)) (bound_of (Some a)) (below_no a.closed b.closed a.number b.number e) h, h), λ h. h.1)

  meets_highest : (a b : Option Bound) → Iff (Meets D d (turned (bound_of (highest a b)))) (Meets D d (turned (bound_of a)) × Meets D d (turned (bound_of b)))
  unfolding Meets turned
  meets_highest None b = (λ h. (tt, h), λ h. h.1)
  meets_highest (Some a) None = (λ h. (h, tt), λ h. h.0)
  meets_highest (Some a) (Some b) = go (above a b) refl
    where
      go : (q : Bool) → above a b ≡ q → Iff (Meets D d (turned (bound_of (cond q (Some a) (Some b))))) (Meets D d (turned (bound_of (Some a))) × Meets D d (turned (bound_of (Some b))))
      go true e = (λ h. (h, meets_looser D D≥ d (turned (bound_of (Some a))) (turned (bound_of (Some b))) (above_yes a.closed b.closed a.number b.number e) h), λ h. h.0)
      go false e = (λ h. (meets_looser D D≥ d (turned (bound_of (Some b))) (turned (bound_of (Some a))) (above_no a.closed b.closed a.number b.number e) h, h), λ h. h.1)

in_both : (D r : ℕ) → 1 ≤ D → (a b : Side) → Iff (InSide D r (both a b)) (InSide D r a × InSide D r b)
in_both D r D≥ a b =
    let u = meets_lowest D D≥ (pos r) a.upper b.upper in
    let l = meets_highest D D≥ (pos 0 -ℤ pos r) a.lower b.lower in (
      λ h. (((u.0 h.0).0, (l.0 h.1).0), ((u.0 h.0).1, (l.0 h.1).1)),
      λ h. (u.1 (h.0.0, h.1.0), l.1 (h.0.1, h.1.1)),
    )

-- ---- what lies in a narrowed box
module _ (n D : ℕ) (D≥ : 1 ≤ D) (b c : ClockBox) (okb : BoxOf n b) (okc : BoxOf n c) where
  in_narrow : (v : ℕ → ℕ) → Iff (InBox (narrow_box n b c) D v) (InBox b D v × InBox c D v)
  in_narrow v = (
    λ h. (
      λ i i<. elim (dec_lt i n) [
        | yes y ↦ ((in_both D (v (suc i)) D≥ (side b i) (side c i)).0 (subst (λ s. InSide D (v (suc i)) s) (narrow_at n b.sides c.sides i y (omega (arith, okc.eight))) (h i i<))).0
        | no z ↦ in_free D (v (suc i)) (side b i) (okb.free i (omega (arith, z)))
      ],
      λ i i<. elim (dec_lt i n) [
        | yes y ↦ ((in_both D (v (suc i)) D≥ (side b i) (side c i)).0 (subst (λ s. InSide D (v (suc i)) s) (narrow_at n b.sides c.sides i y (omega (arith, okc.eight))) (h i i<))).1
        | no z ↦ subst (λ s. InSide D (v (suc i)) s) (narrow_past n b.sides c.sides i (omega (arith, z))) (h i i<)
      ],
    ),
    λ h i i<. elim (dec_lt i n) [
      | yes y ↦ subst (λ s. InSide D (v (suc i)) s) (sym (narrow_at n b.sides c.sides i y (omega (arith, okc.eight)))) ((in_both D (v (suc i)) D≥ (side b i) (side c i)).1 (h.0 i i<, h.1 i i<))
      | no z ↦ subst (λ s. InSide D (v (suc i)) s) (sym (narrow_past n b.sides c.sides i (omega (arith, z)))) (h.1 i i<)
    ],
  )

pub some_scale : (j D : ℕ) → 1 ≤ j → 1 ≤ D → 1 ≤ j * D
some_scale j D a b = let h : 1 * D ≤ j * D = mul-le-mul_right D a in omega (arith, one-mul D)

-- ---- runs
module _ (bs : List ClockBox) (m : PlanMeaning) (ok : WellFormed m) (fit : BoxesFor m bs) (D : ℕ) (D≥ : 1 ≤ D) where
  in_restricted : (p : ℕ) (v : ℕ → ℕ) → Names (length m.positions) p → Iff (InBox (invariant_of (restricted bs m) p) D v) (InBox (box_of bs p) D v × InBox (invariant_of m p) D v)
  in_restricted p v h =
      subst (λ b. Iff (InBox b D v) (InBox (box_of bs p) D v × InBox (invariant_of m p) D v)) (sym (narrowed_at m.clocks bs m.positions (p - 1)))
      (in_narrow m.clocks D D≥ (box_of bs p) (invariant_of m p) (fit.boxes (p - 1) (omega (arith, h.0, h.1, fit.count))) (ok.positions (p - 1) (omega (arith, h.0, h.1))) v)

  goal_named : (p g : ℕ) → g < length m.goals → (goal_at m g).position ≡ p → Names (length m.positions) p
  goal_named p g h e = subst (Names (length m.positions)) e (ok.goals g h).0

  source_named : (p o : ℕ) → o < length m.outcomes → (cause_of m o).source ≡ p → Names (length m.positions) p
  source_named p o h e =
      let c = (ok.outcomes o h).cause in
      subst (Names (length m.positions)) e (ok.moves ((outcome_at m o).cause - 1) (omega (arith, c.0, c.1))).0

  target_named : (o : ℕ) → o < length m.outcomes → Names (length m.positions) (outcome_at m o).target
  target_named o h = (ok.outcomes o h).target

  pub run_out : {p k t : ℕ} {v : ℕ → ℕ} → (r : Run (restricted bs m) D p v k t) → (s : (q : Run m D p v k t) × Stays bs m D q) × (course r ≡ course s.0)
  run_out {p} {v = v} (last w g a r) =
      let h = goal_named p g r.exists r.here in
      let x = (in_restricted p v h).0 a.0 in
      let y = (in_restricted p (later w v) h).0 a.1 in
      ((last w g (x.1, y.1) (record { exists = r.exists; here = r.here; inside = r.inside }), (x.0, y.0)), refl)
  run_out {p} {v = v} (first w o a c rest) =
      let h = source_named p o c.exists c.from in
      let x = (in_restricted p v h).0 a.0 in
      let y = (in_restricted p (later w v) h).0 a.1 in
      let z = (in_restricted (outcome_at m o).target (reset (outcome_at m o).resets (later w v)) (target_named o c.exists)).0 c.arrives in
      let b = run_out rest in
      ((first w o (x.1, y.1) (record { exists = c.exists; likely = c.likely; from = c.from; guarded = c.guarded; arrives = z.1 }) b.0.0, (x.0, y.0, b.0.1)), ap (goes w o) b.1)

  -- the first state of a run that stays lies in its box
  starts : {p k t : ℕ} {v : ℕ → ℕ} → (r : Run m D p v k t) → Stays bs m D r → InBox (box_of bs p) D v
  starts (last w g a r) s = s.0
  starts (first w o a c rest) s = s.0

  pub run_in : {p k t : ℕ} {v : ℕ → ℕ} → (r : Run m D p v k t) → Stays bs m D r → (s : Run (restricted bs m) D p v k t) × (course s ≡ course r)
  run_in {p} {v = v} (last w g a r) s =
      let h = goal_named p g r.exists r.here in
      (last w g ((in_restricted p v h).1 (s.0, a.0), (in_restricted p (later w v) h).1 (s.1, a.1)) (record { exists = r.exists; here = r.here; inside = r.inside }), refl)
  run_in {p} {v = v} (first w o a c rest) s =
      let h = source_named p o c.exists c.from in
      let z = (in_restricted (outcome_at m o).target (reset (outcome_at m o).resets (later w v)) (target_named o c.exists)).1 (starts rest s.2, c.arrives) in
      let b = run_in rest s.2 in (
        first w o ((in_restricted p v h).1 (s.0, a.0), (in_restricted p (later w v) h).1 (s.1, a.1))
            (record { exists = c.exists; likely = c.likely; from = c.from; guarded = c.guarded; arrives = z }) b.0,
        ap (goes w o) b.1,
      )

pub restricted_runs : (bs : List ClockBox) (m : PlanMeaning) → WellFormed m → RestrictedRuns bs m
restricted_runs bs m ok fit D p v k t D≥ = (λ r. run_out bs m ok fit D D≥ r, λ s. run_in bs m ok fit D D≥ s.0 s.1)

pub restricted_routes : (bs : List ClockBox) (m : PlanMeaning) → WellFormed m → RestrictedRoutes bs m
restricted_routes bs m ok fit D p v k D≥ = (
  λ r. (let b = run_out bs m ok fit (r.multiple * D) (some_scale r.multiple D r.some D≥) r.run in
      ((record { multiple = r.multiple; some = r.some; allowed = r.allowed; lasts = r.lasts; run = b.0.0 }, b.0.1), (refl, b.1))),
  λ s. (let r = s.0 in
      let b = run_in bs m ok fit (r.multiple * D) (some_scale r.multiple D r.some D≥) r.run s.1 in
      (record { multiple = r.multiple; some = r.some; allowed = r.allowed; lasts = r.lasts; run = b.0 }, (refl, b.1))),
)
