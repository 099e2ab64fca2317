-- What the entries of a Search stand for.
use Rattle.std.specs.Prelude.{◌≡◌, ℕ, ◌+◌, ◌<◌, ◌≤◌, List, length}
use Rattle.plans.specs.declared.rows.Outcome.{Outcome}
use Rattle.plans.specs.declared.rows.Goal.{Goal}
use Rattle.plans.specs.Boxes.{InBox, later, reset}
use Rattle.plans.specs.Meaning.{PlanMeaning, outcome_at, goal_at}
use Rattle.plans.specs.Routes.{Waits, Route}
use Rattle.rounds.specs.declared.replies.Phase.{Phase}
use Rattle.rounds.specs.declared.replies.Phase.TheVariants.{Open, Closed, Stopped, Unfit}
use Rattle.rounds.specs.Held.{Held, Scale, Fits}
use Rattle.rounds.specs.Rounds.{Entry, entry_at, move_of}

-- the entry, at its position, holds the state
abbrev pub In : Entry → ℕ → ℕ → (ℕ → ℕ) → Type 0
In e D p v = (e.position ≡ p) × Held e.zone D v

-- some entry of round n or earlier holds the state
abbrev pub Covers : List Entry → ℕ → ℕ → ℕ → (ℕ → ℕ) → Type 0
Covers es n D p v = ∥ ((k : ℕ) × (k < length es) × In (entry_at es k) D p v × ((entry_at es k).round ≤ n)) ∥₁

-- an entry as every store for the plan's clocks takes it: at a position of the plan, of a zone of its time domain that asks nothing of other clocks
pub record EntryOf (M : PlanMeaning) (e : Entry) : Type 0 where
  pub first : 1 ≤ e.position
  pub last : e.position ≤ length M.positions
  pub zone : Fits M e.zone

-- each state that the entry holds has a route of as many crossings as its round's number
abbrev pub Real : PlanMeaning → Entry → Type 0
Real M e = (D : ℕ) (v : ℕ → ℕ) → Scale M D → Held e.zone D v → ∥ Route M D e.position v e.round ∥₁

-- entries while round f is under way
pub record Good (M : PlanMeaning) (es : List Entry) (f : ℕ) : Type 0 where
  pub fits : (k : ℕ) → k < length es → EntryOf M (entry_at es k)
  pub real : (k : ℕ) → k < length es → Real M (entry_at es k)
  pub ordered : (i j : ℕ) → i ≤ j → j < length es → (entry_at es i).round ≤ (entry_at es j).round
  pub at_most : (k : ℕ) → k < length es → (entry_at es k).round ≤ f

-- the states from which a delay leads into the goal are covered by round 0
abbrev pub Based : PlanMeaning → Goal → List Entry → Type 0
Based M g es = (D : ℕ) (v : ℕ → ℕ) (w : ℕ) → Scale M D → Waits M D g.position v w → InBox g.area D (later w v) → Covers es 0 D g.position v

-- the states from which a delay and a crossing by o lead into entry e are covered by round n
abbrev pub Stepped : PlanMeaning → Outcome → Entry → ℕ → List Entry → Type 0
Stepped M o e n es = (D : ℕ) (v : ℕ → ℕ) (w : ℕ) → Scale M D → 1 ≤ o.chance → Waits M D (move_of M o).source v w → InBox (move_of M o).guard D (later w v)
    → In e D o.target (reset o.resets (later w v)) → Covers es n D (move_of M o).source v

abbrev pub AllBased : PlanMeaning → List Entry → Type 0
AllBased M es = (j : ℕ) → j < length M.goals → Based M (goal_at M j) es

abbrev pub AllStepped : PlanMeaning → Entry → ℕ → List Entry → Type 0
AllStepped M e n es = (j : ℕ) → j < length M.outcomes → Stepped M (outcome_at M j) e n es

-- f rounds are finished
pub record Founded (M : PlanMeaning) (es : List Entry) (f : ℕ) : Type 0 where
  pub good : Good M es f
  pub based : 0 < f → AllBased M es
  pub stepped : (k : ℕ) → k < length es → (entry_at es k).round + 1 < f → AllStepped M (entry_at es k) ((entry_at es k).round + 1) es

abbrev pub Below : List Entry → ℕ → Type 0
Below es f = (k : ℕ) → k < length es → (entry_at es k).round < f

abbrev pub Complete : PlanMeaning → List Entry → Type 0
Complete M es = (k : ℕ) → k < length es → AllStepped M (entry_at es k) ((entry_at es k).round + 1) es

-- what stands in each phase, after f finished rounds
abbrev pub Stands : PlanMeaning → List Entry → ℕ → Phase → Type 0
Stands M es f Open = Founded M es f × Below es f
Stands M es f Closed = Founded M es f × Below es f × Complete M es × (0 < f)
Stands M es f Stopped = Founded M es f
Stands M es f Unfit = Unit {0}
