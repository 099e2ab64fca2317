-- What layers do to the routes of any plan.
use Rattle.std.specs.Prelude.{◌≡◌, ℕ, zero, suc, ◌+◌, ◌*◌, ◌<◌, ◌≤◌, List, [], ◌∷◌, ◌++◌, length, slice_index}
use Rattle.bounds.specs.Logic.{Iff}
use Rattle.zones.specs.declared.boxes.ClockBox.{ClockBox}
use Rattle.plans.specs.Meaning.{PlanMeaning}
use Rattle.plans.specs.Routes.{Run, Route, course, SameWay, Within, TimelyRoute, Distance, TimelyDistance}
use Rattle.layers.specs.Deadlines.{under}
use Rattle.layers.specs.Restrictions.{restricted, BoxesFor, Stays}

-- each A goes with a B, and each B with an A
abbrev pub Matches : (A B : Type 0) → (A → B → Type 0) → Type 0
Matches A B With = ((a : A) → (b : B) × With a b) × ((b : B) → (a : A) × With a b)

-- ---- deadlines
-- at every scale, the runs under a deadline of T are the runs below whose waits take the added clock to at most T ticks, crossing for crossing
abbrev pub DeadlineRuns : ℕ → PlanMeaning → Type 0
DeadlineRuns T m = m.clocks < 8 → (D p : ℕ) (v : ℕ → ℕ) (k t : ℕ)
    → Matches (Run (under T m) D p v k t) (Run m D p v k t × (v (m.clocks + 1) + t ≤ T * D)) (λ r s. course r ≡ course s.0)

-- the routes under a deadline, told by a plan and readings below: those that last at most T ticks, crossing for crossing, and so their least number
pub record Timely (T : ℕ) (m n : PlanMeaning) (D p : ℕ) (v u : ℕ → ℕ) (k : ℕ) : Type 0 where
  pub routes : Matches (Route n D p u k) (TimelyRoute T m D p v k) (λ r s. SameWay r s.0)
  pub distance : Iff (Distance n D p u k) (TimelyDistance T m D p v k)

-- from the added clock at 0
abbrev pub DeadlineRoutes : ℕ → PlanMeaning → Type 0
DeadlineRoutes T m = m.clocks < 8 → (D p : ℕ) (v : ℕ → ℕ) (k : ℕ) → v (m.clocks + 1) ≡ 0 → Timely T m (under T m) D p v v k

-- the readings of a state, by clock: clocks that it does not give read 0
abbrev pub reading : List ℕ → ℕ → ℕ
reading rs zero = 0
reading rs (suc i) = slice_index rs i

-- the same of a state below: above it, the added clock's reading, 0, comes after its own
abbrev pub DeadlineStates : ℕ → PlanMeaning → Type 0
DeadlineStates T m = m.clocks < 8 → (D p : ℕ) (rs : List ℕ) (k : ℕ) → length rs ≡ m.clocks
    → Timely T m (under T m) D p (reading rs) (reading (rs ++ (0 ∷ []))) k

-- one deadline over another: both hold of the route
abbrev pub StackedRoutes : ℕ → ℕ → PlanMeaning → Type 0
StackedRoutes S T m = m.clocks < 7 → (D p : ℕ) (v : ℕ → ℕ) (k : ℕ) → v (m.clocks + 1) ≡ 0 → v (m.clocks + 2) ≡ 0
    → Matches (Route (under S (under T m)) D p v k) ((r : Route m D p v k) × Within T m D p v k r × Within S m D p v k r) (λ r s. SameWay r s.0)

-- ---- restrictions
-- at every scale, the runs of a restriction are the runs below that stay in its boxes
abbrev pub RestrictedRuns : List ClockBox → PlanMeaning → Type 0
RestrictedRuns bs m = BoxesFor m bs → (D p : ℕ) (v : ℕ → ℕ) (k t : ℕ) → 1 ≤ D
    → Matches (Run (restricted bs m) D p v k t) ((r : Run m D p v k t) × Stays bs m D r) (λ r s. course r ≡ course s.0)

-- the routes of a restriction are the routes below that stay in its boxes
abbrev pub RestrictedRoutes : List ClockBox → PlanMeaning → Type 0
RestrictedRoutes bs m = BoxesFor m bs → (D p : ℕ) (v : ℕ → ℕ) (k : ℕ) → 1 ≤ D
    → Matches (Route (restricted bs m) D p v k) ((r : Route m D p v k) × Stays bs m (r.multiple * D) r.run) (λ r s. SameWay r s.0)

-- a deadline over a restriction: the routes below that stay in the boxes and last at most T ticks
abbrev pub MixedRoutes : ℕ → List ClockBox → PlanMeaning → Type 0
MixedRoutes T bs m = BoxesFor m bs → m.clocks < 8 → (D p : ℕ) (v : ℕ → ℕ) (k : ℕ) → 1 ≤ D → v (m.clocks + 1) ≡ 0
    → Matches (Route (under T (restricted bs m)) D p v k) ((r : Route m D p v k) × Stays bs m (r.multiple * D) r.run × Within T m D p v k r) (λ r s. SameWay r s.0)
