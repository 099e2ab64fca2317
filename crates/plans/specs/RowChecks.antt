-- Which rows are refused, and by what.
use Rattle.std.specs.Prelude.{◌≡◌, ℕ, ◌+◌, ◌<◌, ◌≤◌, Bool, false, ◌≢◌, ◌⊎◌, List, length, get_or, map, filter, ◌==◌, Some, None, Ok, Err, Result, slice_index_or}
use Rattle.bounds.specs.declared.refusal.Refusal.{Refusal}
use Rattle.bounds.specs.declared.refusal.Refusal.TheVariants as refused
use Rattle.zones.specs.declared.boxes.ClockBox.{ClockBox}
use Rattle.plans.specs.declared.rows.Position.{Position}
use Rattle.plans.specs.declared.rows.Move.{Move}
use Rattle.plans.specs.declared.rows.Outcome.{Outcome}
use Rattle.plans.specs.declared.rows.Goal.{Goal}
use Rattle.plans.specs.declared.faults.RowFault.{RowFault}
use Rattle.plans.specs.declared.faults.PlanList.{PlanList}
use Rattle.plans.specs.declared.faults.PlanList.TheVariants as list
use Rattle.plans.specs.Boxes.{BoxOf}
use Rattle.plans.specs.BoxChecks.{Numbers, Free, Wrong}
use Rattle.plans.specs.Items.{Names}
use Rattle.plans.specs.Meaning.{OutcomeOf, chances, no_position, no_outcome, no_goal}
use Rattle.plans.specs.RowLists.{no_move}

-- ---- counts: the first list with a wrong count is named
abbrev pub CountWrong : ℕ → ℕ → ℕ → ℕ → PlanList → Type 0
CountWrong p m o g list.Clocks = ⊥
CountWrong p m o g list.Positions = Names 64 p → ⊥
CountWrong p m o g list.Moves = Names 64 p × (256 < m)
CountWrong p m o g list.Outcomes = Names 64 p × (m ≤ 256) × (512 < o)
CountWrong p m o g list.Goals = Names 64 p × (m ≤ 256) × (o ≤ 512) × (64 < g)

-- the counts of rows that a plan may have
pub record Counts (p m o g : ℕ) : Type 0 where
  pub positions : Names 64 p
  pub moves : m ≤ 256
  pub outcomes : o ≤ 512
  pub goals : g ≤ 64

-- ---- rows
-- a box at a position, in a plan of n clocks and p positions: by Number, and then by Name
abbrev pub PlacedWrong : ℕ → ℕ → ℕ → ClockBox → Refusal → Type 0
PlacedWrong n p at b e =
    ((Numbers b.sides → ⊥) × (e ≡ refused.Number))
    ⊎ (Numbers b.sides × ((Names p at × Free n b.sides) → ⊥) × (e ≡ refused.Name))

-- no clock above n is reset
abbrev pub NoResets : ℕ → List Bool → Type 0
NoResets n rs = (i : ℕ) → i < length rs → n ≤ i → slice_index_or rs i false ≡ false

-- an outcome, in a plan of n clocks, p positions and m moves
abbrev pub OutcomeWrong : ℕ → ℕ → ℕ → Outcome → Refusal → Type 0
OutcomeWrong n p m o e =
    ((1000 < o.chance) × (e ≡ refused.Number))
    ⊎ ((o.chance ≤ 1000) × ((Names m o.cause × Names p o.target × NoResets n o.resets) → ⊥) × (e ≡ refused.Name))

-- ---- lists: the rows before k are fine
abbrev pub PositionsFine : ℕ → List Position → ℕ → Type 0
PositionsFine n ps k = (j : ℕ) → j < k → BoxOf n (get_or ps j no_position).invariant

abbrev pub MovesFine : ℕ → ℕ → List Move → ℕ → Type 0
MovesFine n p vs k = (j : ℕ) → j < k → Names p (get_or vs j no_move).source × BoxOf n (get_or vs j no_move).guard

abbrev pub OutcomesFine : ℕ → ℕ → ℕ → List Outcome → ℕ → Type 0
OutcomesFine n p m os k = (j : ℕ) → j < k → OutcomeOf n p m (slice_index_or os j no_outcome)

abbrev pub GoalsFine : ℕ → ℕ → List Goal → ℕ → Type 0
GoalsFine n p gs k = (j : ℕ) → j < k → Names p (get_or gs j no_goal).position × BoxOf n (get_or gs j no_goal).area

-- the chances of the moves 1 to k, added up over the outcomes; no row's own sum is looked at
abbrev pub ChancesFine : List Outcome → ℕ → Type 0
ChancesFine os k = (j : ℕ) → 1 ≤ j → j ≤ k → chances j os ≡ 1000

-- the chances of move k, from 1, one by one
abbrev pub chances_in : ℕ → List Outcome → List ℕ
chances_in k os = map (λ (o : Outcome). o.chance) (filter (λ (o : Outcome). o.cause == k) os)

-- the first of n rows that is wrong, told by list and row
abbrev pub FirstFault : PlanList → ℕ → (ℕ → Type 0) → (ℕ → Refusal → Type 0) → RowFault → Type 0
FirstFault l n Before Wrong-at f = (k : ℕ) × (k < n) × (f.list ≡ l) × (f.row ≡ Some (k + 1)) × Before k × Wrong-at k f.refusal

abbrev pub PositionFault : ℕ → List Position → RowFault → Type 0
PositionFault n ps = FirstFault list.Positions (length ps) (PositionsFine n ps) (λ k e. Wrong n (get_or ps k no_position).invariant e)

abbrev pub MoveFault : ℕ → ℕ → List Move → RowFault → Type 0
MoveFault n p vs = FirstFault list.Moves (length vs) (MovesFine n p vs) (λ k e. PlacedWrong n p (get_or vs k no_move).source (get_or vs k no_move).guard e)

abbrev pub OutcomeFault : ℕ → ℕ → ℕ → List Outcome → RowFault → Type 0
OutcomeFault n p m os = FirstFault list.Outcomes (length os) (OutcomesFine n p m os) (λ k e. OutcomeWrong n p m (slice_index_or os k no_outcome) e)

abbrev pub GoalFault : ℕ → ℕ → List Goal → RowFault → Type 0
GoalFault n p gs = FirstFault list.Goals (length gs) (GoalsFine n p gs) (λ k e. PlacedWrong n p (get_or gs k no_goal).position (get_or gs k no_goal).area e)

abbrev pub ChanceFault : ℕ → List Outcome → RowFault → Type 0
ChanceFault m os = FirstFault list.Moves m (ChancesFine os) (λ k e. (chances (k + 1) os ≢ 1000) × (e ≡ refused.Chance))

-- ---- the row check as a whole
-- the clock count and the counts of rows fit
pub record Sized (n : ℕ) (ps : List Position) (vs : List Move) (os : List Outcome) (gs : List Goal) : Type 0 where
  pub clocks : Names 8 n
  pub rows : Counts (length ps) (length vs) (length os) (length gs)

-- all rows of a list are fine
abbrev pub AllPositions : ℕ → List Position → Type 0
AllPositions n ps = PositionsFine n ps (length ps)

abbrev pub AllMoves : ℕ → List Position → List Move → Type 0
AllMoves n ps vs = MovesFine n (length ps) vs (length vs)

abbrev pub AllOutcomes : ℕ → List Position → List Move → List Outcome → Type 0
AllOutcomes n ps vs os = OutcomesFine n (length ps) (length vs) os (length os)

abbrev pub AllGoals : ℕ → List Position → List Goal → Type 0
AllGoals n ps gs = GoalsFine n (length ps) gs (length gs)

-- what it has seen once it accepts
pub record RowsFine (n : ℕ) (ps : List Position) (vs : List Move) (os : List Outcome) (gs : List Goal) : Type 0 where
  pub sized : Sized n ps vs os gs
  pub positions : AllPositions n ps
  pub moves : AllMoves n ps vs
  pub outcomes : AllOutcomes n ps vs os
  pub goals : AllGoals n ps gs
  pub sums : ChancesFine os (length vs)

-- what it refuses, in its order
pub data RowsWrong (n : ℕ) (ps : List Position) (vs : List Move) (os : List Outcome) (gs : List Goal) (f : RowFault) : Type 0 where
  clocks : (Names 8 n → ⊥) → f ≡ record { refusal = refused.Number; list = list.Clocks; row = None } → RowsWrong n ps vs os gs f
  counts : Names 8 n → CountWrong (length ps) (length vs) (length os) (length gs) f.list → f.refusal ≡ refused.Rows → f.row ≡ None → RowsWrong n ps vs os gs f
  position : Sized n ps vs os gs → PositionFault n ps f → RowsWrong n ps vs os gs f
  move : Sized n ps vs os gs → AllPositions n ps → MoveFault n (length ps) vs f → RowsWrong n ps vs os gs f
  outcome : Sized n ps vs os gs → AllPositions n ps → AllMoves n ps vs → OutcomeFault n (length ps) (length vs) os f → RowsWrong n ps vs os gs f
  goal : Sized n ps vs os gs → AllPositions n ps → AllMoves n ps vs → AllOutcomes n ps vs os → GoalFault n (length ps) gs f → RowsWrong n ps vs os gs f
  chance : Sized n ps vs os gs → AllPositions n ps → AllMoves n ps vs → AllOutcomes n ps vs os → AllGoals n ps gs → ChanceFault (length vs) os f → RowsWrong n ps vs os gs f

-- by answer
abbrev pub CheckSays : ℕ → List Position → List Move → List Outcome → List Goal → Result (Unit {0}) RowFault → Type 0
CheckSays n ps vs os gs (Ok u) = RowsFine n ps vs os gs
CheckSays n ps vs os gs (Err f) = RowsWrong n ps vs os gs f
