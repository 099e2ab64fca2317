-- The reader accepts exactly the texts that write down a plan, and gives that plan.
use Rattle.std.specs.Prelude.{◌≡◌, ℕ, ◌≤◌, List, map, length, Ok, Err, Result}
use Rattle.plans.specs.RowLists.{taken}
use Rattle.texts.specs.declared.header.Header.{Header}
use Rattle.texts.specs.Faults.{Fault}
use Rattle.texts.specs.PlanRows.{Tables}
use Rattle.grammar.specs.Written.{PlanText, Writes, outcome_count, position_row, move_row, outcome_rows, goal_row}

-- there are rows enough for the plan
pub record Supplied (t : Tables) (w : PlanText) : Type 0 where
  pub positions : length w.positions ≤ length t.positions.rows
  pub moves : length w.moves ≤ length t.moves.rows
  pub outcomes : outcome_count w.moves ≤ length t.outcomes.rows
  pub goals : length w.goals ≤ length t.goals.rows

-- the kind of time, the clock count and the four lists of the plan
pub record Gives (w : PlanText) (h : Header) (r : Tables) : Type 0 where
  pub header : h ≡ record { time = w.time; clocks = w.clocks }
  pub positions : taken r.positions ≡ map position_row w.positions
  pub moves : taken r.moves ≡ map move_row w.moves
  pub outcomes : taken r.outcomes ≡ outcome_rows 1 w.moves
  pub goals : taken r.goals ≡ map goal_row w.goals

-- a plan that the text writes down, and that the rows have room for
pub record Written (text : List ℕ) (t : Tables) : Type 0 where
  pub plan : PlanText
  pub writes : Writes text plan
  pub supplied : Supplied t plan

-- the answer r and the rows after it: an accepted text writes down a plan, and gives it; a refused one writes down none that the rows have room for
abbrev pub KeepsTo : List ℕ → Tables → Result Header Fault → Tables → Type 0
KeepsTo text t (Ok h) after = (w : Written text t) × Gives w.plan h after
KeepsTo text t (Err f) after = Written text t → ⊥

-- two plans with the same kind of time, clock count and lists
pub record Alike (w w' : PlanText) : Type 0 where
  pub time : w.time ≡ w'.time
  pub clocks : w.clocks ≡ w'.clocks
  pub positions : map position_row w.positions ≡ map position_row w'.positions
  pub moves : map move_row w.moves ≡ map move_row w'.moves
  pub outcomes : outcome_rows 1 w.moves ≡ outcome_rows 1 w'.moves
  pub goals : map goal_row w.goals ≡ map goal_row w'.goals

-- no text writes down two plans
abbrev pub OnePlan : Type 0
OnePlan = (text : List ℕ) (w w' : PlanText) → Writes text w → Writes text w' → Alike w w'
