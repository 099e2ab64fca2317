-- Runs under a deadline
use Rattle.std.proofs.Common.{◌≡◌, ℕ, zero, suc, ◌+◌, ◌*◌, ◌<◌, ◌≤◌, true, cond, ◌&&◌, ◌≢◌, List, [], ◌∷◌, ◌++◌, length, get_or, pos, Some, None, Option, sym, refl, ap, ◌∙◌, subst, inl, inr, mul-zero, add-one, arith, get_or-set_other, get_or-set_same, lt-ltb}
use mathlib.Core.Path.{fun_ext}
use mathlib.Core.Logic.{∥∥₁_map}
use borrow.Author.Differences.{ints}
use lib.ListN.{length-map}
use Rattle.std.proofs.lemmas.List.{get_or-map, get_or_past}
use Rattle.bounds.specs.declared.bound.Bound.{Bound}
use Rattle.bounds.specs.Bounds.{Meets}
use Rattle.bounds.specs.Laws.{times_is}
use Rattle.zones.specs.declared.boxes.Side.{Side}
use Rattle.zones.specs.declared.boxes.ClockBox.{ClockBox}
use Rattle.plans.specs.declared.rows.Goal.{Goal}
use Rattle.plans.specs.Boxes.{InSide, absent, blank, side, InBox, later, reset, BoxOf}
use Rattle.zones.specs.Boxes.{turned, no_side}
use Rattle.plans.specs.Meaning.{PlanMeaning, WellFormed, no_goal, outcome_at, goal_at}
use Rattle.plans.specs.Routes.{Reaches, Crosses, Run, course, Route, SameWay, Within, TimelyRoute}
use Rattle.plans.specs.Routes.Course.{goes}
use Rattle.plans.specs.Routes.Run.{last, first}
use Rattle.layers.specs.Deadlines.{by_then, timed_box, timed, deadlined, under}
use Rattle.layers.specs.LayersSound.{same_or_not, deadlined_sound}
use Rattle.layers.specs.Theorems.{Matches, Timely, DeadlineRuns, DeadlineRoutes, StackedRoutes, reading, DeadlineStates}
use Rattle.bounds.specs.Logic.{Iff}

-- ---- one side
in_blank : (D r : ℕ) (l u : Option Bound) → (absent l && absent u) ≡ true → InSide D r (record { lower = l; upper = u })
unfolding Meets turned
in_blank D r None None e = (tt, tt)
in_blank D r None (Some u) e = let z : ◌≡◌ {A = ℕ} 0 1 = cc in absurd (omega arith)
in_blank D r (Some l) None e = let z : ◌≡◌ {A = ℕ} 0 1 = cc in absurd (omega arith)
in_blank D r (Some l) (Some u) e = let z : ◌≡◌ {A = ℕ} 0 1 = cc in absurd (omega arith)

pub in_free : (D r : ℕ) (s : Side) → blank s ≡ true → InSide D r s
in_free D r s e = in_blank D r s.lower s.upper e

in_by_then : (T D r : ℕ) → Iff (InSide D r (by_then T)) (r ≤ T * D)
unfolding Meets turned
in_by_then T D r = (λ h. let k = h.0 in omega (arith, ints, times_is (pos T) D), λ h. (omega (arith, ints, times_is (pos T) D), tt))

-- ---- a box with `<= T` on a clock that it left free
module _ (T n D : ℕ) (b : ClockBox) (n< : n < 8) (ok : BoxOf n b) where
  timed_side : side (timed_box T n b) n ≡ by_then T
  timed_side = get_or-set_same b.sides n (by_then T) no_side (omega (arith, ok.eight))

  other_side : (i : ℕ) → i ≢ n → side (timed_box T n b) i ≡ side b i
  other_side i h = get_or-set_other b.sides n i (by_then T) no_side h

  pub timed_in : (v : ℕ → ℕ) → InBox (timed_box T n b) D v → InBox b D v × (v (suc n) ≤ T * D)
  timed_in v h = (
    (λ i i<. elim (same_or_not i n) [
      | inl e ↦ in_free D (v (suc i)) (side b i) (ok.free i (omega arith))
      | inr ne ↦ subst (λ s. InSide D (v (suc i)) s) (other_side i ne) (h i i<)
    ]),
    (in_by_then T D (v (suc n))).0 (subst (λ s. InSide D (v (suc n)) s) timed_side (h n n<)),
  )

  pub in_timed : (v : ℕ → ℕ) → InBox b D v → v (suc n) ≤ T * D → InBox (timed_box T n b) D v
  in_timed v h l i i< = elim (same_or_not i n) [
    | inl e ↦ subst (λ j. InSide D (v (suc j)) (side (timed_box T n b) j)) (sym e)
        (subst (λ s. InSide D (v (suc n)) s) (sym timed_side) ((in_by_then T D (v (suc n))).1 l))
    | inr ne ↦ subst (λ s. InSide D (v (suc i)) s) (sym (other_side i ne)) (h i i<)
  ]

-- ---- runs
module _ (T D : ℕ) (m : PlanMeaning) (n< : m.clocks < 8) (ok : WellFormed m) where
  goal_is : (g : ℕ) → g < length m.goals → goal_at (deadlined T m) g ≡ timed T m.clocks (goal_at m g)
  goal_is g h = get_or-map (timed T m.clocks) m.goals g no_goal no_goal h

  reaches_below : (p : ℕ) (v : ℕ → ℕ) (g : ℕ) → Reaches (deadlined T m) D p v g → Reaches m D p v g × (v (suc m.clocks) ≤ T * D)
  reaches_below p v g r =
      let g< : g < length m.goals = omega (arith, r.exists, length-map m.goals (timed T m.clocks)) in
      let i = timed_in T m.clocks D (goal_at m g).area n< (ok.goals g g<).1 v (subst (λ (x : Goal). InBox x.area D v) (goal_is g g<) r.inside) in
      (record { exists = g<; here = sym (ap (λ (x : Goal). x.position) (goal_is g g<)) ∙ r.here; inside = i.0 }, i.1)

  reaches_under : (p : ℕ) (v : ℕ → ℕ) (g : ℕ) → Reaches m D p v g → v (suc m.clocks) ≤ T * D → Reaches (deadlined T m) D p v g
  reaches_under p v g r l = record {
    exists = omega (arith, r.exists, length-map m.goals (timed T m.clocks));
    here = ap (λ (x : Goal). x.position) (goal_is g r.exists) ∙ r.here;
    inside = subst (λ (x : Goal). InBox x.area D v) (sym (goal_is g r.exists))
        (in_timed T m.clocks D (goal_at m g).area n< (ok.goals g r.exists).1 v r.inside l);
  }

  crosses_below : (p : ℕ) (v : ℕ → ℕ) (o : ℕ) → Crosses (deadlined T m) D p v o → Crosses m D p v o
  crosses_below p v o c = record { exists = c.exists; likely = c.likely; from = c.from; guarded = c.guarded; arrives = c.arrives }

  crosses_under : (p : ℕ) (v : ℕ → ℕ) (o : ℕ) → Crosses m D p v o → Crosses (deadlined T m) D p v o
  crosses_under p v o c = record { exists = c.exists; likely = c.likely; from = c.from; guarded = c.guarded; arrives = c.arrives }

  -- no outcome resets the added clock
  runs_on : (o : ℕ) (v : ℕ → ℕ) → o < length m.outcomes → reset (outcome_at m o).resets v (suc m.clocks) ≡ v (suc m.clocks)
  runs_on o v h = rw ((ok.outcomes o h).resets m.clocks (omega arith))

  pub run_below : {p k t : ℕ} {v : ℕ → ℕ} → (r : Run (deadlined T m) D p v k t) → (s : Run m D p v k t × (v (suc m.clocks) + t ≤ T * D)) × (course r ≡ course s.0)
  run_below {p} {v = v} (last w g a r) =
      let b = reaches_below p (later w v) g r in
      ((last w g a b.0, b.1), refl)
  run_below {p} {v = v} (first {t = t} w o a c rest) =
      let b = run_below rest in
      ((first w o a (crosses_below p (later w v) o c) b.0.0, omega (arith, b.0.1, runs_on o (later w v) c.exists)), ap (goes w o) b.1)

  pub run_under : {p k t : ℕ} {v : ℕ → ℕ} → (s : Run m D p v k t) → v (suc m.clocks) + t ≤ T * D → (r : Run (deadlined T m) D p v k t) × (course r ≡ course s)
  run_under {p} {v = v} (last w g a r) l = (last w g a (reaches_under p (later w v) g r l), refl)
  run_under {p} {v = v} (first {t = t} w o a c rest) l =
      let b = run_under rest (omega (arith, runs_on o (later w v) c.exists)) in
      (first w o a (crosses_under p (later w v) o c) b.0, ap (goes w o) b.1)

-- ---- routes
module _ (T D p : ℕ) (v : ℕ → ℕ) (k : ℕ) (m : PlanMeaning) (n< : m.clocks < 8) (ok : WellFormed m) where
  abbrev pub route_below : (r : Route (deadlined T m) D p v k) → (s : TimelyRoute T m D p v k) × SameWay r s.0
  route_below r =
      let b = run_below T (r.multiple * D) m n< ok r.run in
      ((record { multiple = r.multiple; some = r.some; allowed = r.allowed; lasts = r.lasts; run = b.0.0 }, omega (arith, b.0.1)), (refl, b.1))

  abbrev pub route_under : v (suc m.clocks) ≡ 0 → (s : TimelyRoute T m D p v k) → (r : Route (deadlined T m) D p v k) × SameWay r s.0
  route_under z (r, l) =
      let b = run_under T (r.multiple * D) m n< ok r.run (omega (arith, ap (λ x. r.multiple * x) z, mul-zero r.multiple)) in
      (record { multiple = r.multiple; some = r.some; allowed = r.allowed; lasts = r.lasts; run = b.0 }, (refl, b.1))

pub under_is : (T : ℕ) (m : PlanMeaning) → m.clocks < 8 → under T m ≡ deadlined T m
under_is T m h = ap (λ b. cond b (deadlined T m) m) (lt-ltb m.clocks 8 h)

pub deadline_runs : (T : ℕ) (m : PlanMeaning) → WellFormed m → DeadlineRuns T m
deadline_runs T m ok n< D p v k t =
    let e : v (suc m.clocks) ≡ v (m.clocks + 1) = ap v (sym (add-one m.clocks)) in
    subst (λ x. Matches (Run x D p v k t) (Run m D p v k t × (v (m.clocks + 1) + t ≤ T * D)) (λ r s. course r ≡ course s.0)) (sym (under_is T m n<)) (
      λ r. (let b = run_below T D m n< ok r in ((b.0.0, omega (arith, b.0.1, e)), b.1)),
      λ h. run_under T D m n< ok h.0 (omega (arith, h.1, e)),
    )

abbrev Told : ℕ → (m n : PlanMeaning) (D p : ℕ) (v : ℕ → ℕ) (k : ℕ) → Type 0
Told T m n D p v k = Matches (Route n D p v k) (TimelyRoute T m D p v k) (λ r s. SameWay r s.0)

timely : (T : ℕ) (m : PlanMeaning) → WellFormed m → m.clocks < 8 → (D p : ℕ) (v : ℕ → ℕ) (k : ℕ) → v (m.clocks + 1) ≡ 0 → Told T m (under T m) D p v k
timely T m ok n< D p v k z =
    let z' : v (suc m.clocks) ≡ 0 = ap v (sym (add-one m.clocks)) ∙ z in
    subst (λ x. Told T m x D p v k) (sym (under_is T m n<))
    (route_below T D p v k m n< ok, route_under T D p v k m n< ok z')

pub deadline_routes : (T : ℕ) (m : PlanMeaning) → WellFormed m → DeadlineRoutes T m
deadline_routes T m ok n< D p v k z =
    let s : (j : ℕ) → Told T m (under T m) D p v j = λ j. timely T m ok n< D p v j z in
    record {
      routes = s k;
      distance = (
        λ d. record { route = ∥∥₁_map d.route (λ r. ((s k).0 r).0); least = λ n r. d.least n ((s n).1 r).0 },
        λ d. record { route = ∥∥₁_map d.route (λ r. ((s k).1 r).0); least = λ n r. d.least n ((s n).0 r).0 },
      );
    }

pub stacked_routes : (S T : ℕ) (m : PlanMeaning) → T ≤ 1000000 → WellFormed m → StackedRoutes S T m
stacked_routes S T m t≤ ok n< D p v k z y =
    let n<8 : m.clocks < 8 = omega arith in
    let m<8 : m.clocks + 1 < 8 = omega arith in
    let z' : v (suc m.clocks) ≡ 0 = ap v (sym (add-one m.clocks)) ∙ z in
    let two : suc (m.clocks + 1) ≡ m.clocks + 2 = omega arith in
    let y' : v (suc (m.clocks + 1)) ≡ 0 = ap v two ∙ y in
    let e : under S (under T m) ≡ deadlined S (deadlined T m) = ap (under S) (under_is T m n<8) ∙ under_is S (deadlined T m) m<8 in
    let dok : WellFormed (deadlined T m) = deadlined_sound T m t≤ n<8 ok in
    subst (λ x. Matches (Route x D p v k) ((r : Route m D p v k) × Within T m D p v k r × Within S m D p v k r) (λ r s. SameWay r s.0)) (sym e) (
      λ r.
          let a = route_below S D p v k (deadlined T m) m<8 dok r in
          let b = route_below T D p v k m n<8 ok a.0.0 in
          ((b.0.0, b.0.1, a.0.1), (refl, a.1.1 ∙ b.1.1)),
      λ t.
          let b = route_under T D p v k m n<8 ok z' (t.0, t.1) in
          let a = route_under S D p v k (deadlined T m) m<8 dok y' (b.0, t.2) in
          (a.0, (refl, ◌∙◌ {a = course a.0.run} {b = course b.0.run} {c = course t.0.run} a.1.1 b.1.1)),
    )

-- ---- states
padded : (rs : List ℕ) (i : ℕ) → get_or rs i 0 ≡ get_or (rs ++ (0 ∷ [])) i 0
padded [] zero = refl
padded [] (suc i) = refl
padded (r ∷ rs) zero = refl
padded (r ∷ rs) (suc i) = padded rs i

same_reading : (rs : List ℕ) → reading rs ≡ reading (rs ++ (0 ∷ []))
same_reading rs = fun_ext at
  where
    at : (i : ℕ) → reading rs i ≡ reading (rs ++ (0 ∷ [])) i
    at zero = refl
    at (suc i) = padded rs i

pub deadline_states : (T : ℕ) (m : PlanMeaning) → WellFormed m → DeadlineStates T m
deadline_states T m ok n< D p rs k e =
    let z : reading rs (m.clocks + 1) ≡ 0 = ap (reading rs) (add-one m.clocks) ∙ get_or_past rs m.clocks 0 (omega arith) in
    subst (λ u. Timely T m (under T m) D p (reading rs) u k) (same_reading rs) (deadline_routes T m ok n< D p (reading rs) k z)
