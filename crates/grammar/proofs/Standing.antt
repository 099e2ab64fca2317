-- Line after line: what may stand after what, and the plan so far.
use Rattle.std.proofs.Common.{◌≡◌, ℕ, Bool, true, false, not, ◌&&◌, eqb, List, [], ◌∷◌, Ok}
use Rattle.bounds.specs.declared.time.PlanTime.{PlanTime}
use Rattle.bounds.specs.declared.time.PlanTime.TheVariants.{Cycle}
use Rattle.texts.specs.declared.header.Header.{Header}
use Rattle.texts.specs.declared.words.Letter.{Letter}
use Rattle.texts.specs.declared.words.Letter.TheVariants as letters
use Rattle.texts.specs.declared.words.Phase.{Phase}
use Rattle.texts.specs.declared.words.Phase.TheVariants as phases
use Rattle.texts.specs.Words.{is_moves, is_outcome, stands_at}
use Rattle.texts.specs.PlanRows.{Tables, has_room, open_sum}
use Rattle.texts.specs.Lines.{with_position, with_move, with_outcome, with_goal}
use Rattle.texts.specs.Texts.{Ending}
use Rattle.grammar.specs.BoxesWritten.{OneOf, FineBound, All, box_by}
use Rattle.grammar.specs.Written.{LineText, time, position, move, outcome, goal, position_row, outcome_row, goal_row, FineOutcome, FineGoal}

-- a plan as far as it is written down
pub record Part : Type 0 where
  pub phase : Phase
  pub time : PlanTime
  pub clocks : ℕ
  pub rows : Tables

abbrev pub letter : LineText → Letter
letter (time k n) = letters.Time
letter (position ms) = letters.Position
letter (move f ms) = letters.Move
letter (outcome o) = letters.Outcome
letter (goal g) = letters.Goal

-- each number is in its range, and each name is of what exists
abbrev pub InRange : Part → LineText → Type 0
InRange b (time k n) = OneOf 8 n
InRange b (position ms) = All (FineBound b.clocks) ms
InRange b (move f ms) = OneOf b.rows.positions.used f × All (FineBound b.clocks) ms
InRange b (outcome o) = FineOutcome b.clocks b.rows.positions.used o
InRange b (goal g) = FineGoal b.clocks b.rows.positions.used g

-- there is a row for it
abbrev pub room_for : Part → LineText → Bool
room_for b (time k n) = true
room_for b (position ms) = has_room 64 b.rows.positions
room_for b (move f ms) = has_room 256 b.rows.moves
room_for b (outcome o) = has_room 512 b.rows.outcomes
room_for b (goal g) = has_room 64 b.rows.goals

-- the open move's chances add up, if one is open
abbrev pub summed : Part → Bool
summed b = not (is_moves b.phase && not (eqb (open_sum b.rows.moves) 1000))

pub record Stands (b : Part) (i : LineText) : Type 0 where
  pub order : stands_at (letter i) b.phase b.rows.positions.used ≡ true
  pub chances : is_outcome (letter i) ≡ false → summed b ≡ true
  pub range : InRange b i
  pub room : room_for b i ≡ true

-- the plan with what the line says
abbrev pub with : Part → LineText → Part
with b (time k n) = record { phase = phases.Positions; time = k; clocks = n; rows = b.rows }
with b (position ms) = record { phase = b.phase; time = b.time; clocks = b.clocks; rows = with_position b.rows (position_row ms) }
with b (move f ms) = record { phase = phases.Moves; time = b.time; clocks = b.clocks; rows = with_move b.rows (record { source = f; guard = box_by ms; sum = 0 }) }
with b (outcome o) = record { phase = b.phase; time = b.time; clocks = b.clocks; rows = with_outcome b.rows (outcome_row b.rows.moves.used o) }
with b (goal g) = record { phase = phases.Goals; time = b.time; clocks = b.clocks; rows = with_goal b.rows (goal_row g) }

-- each line stands where it may, and together they lead from b to e
abbrev pub Leads : Part → List LineText → Part → Type 0
Leads b [] e = b ≡ e
Leads b (i ∷ is) e = Stands b i × Leads (with b i) is e

-- nothing is missing at the end
pub record Whole (b : Part) : Type 0 where
  pub some : stands_at letters.Goal b.phase b.rows.positions.used ≡ true
  pub chances : summed b ≡ true

abbrev pub empty : Tables → Part
empty t = record { phase = phases.Begin; time = Cycle; clocks = 0; rows = t }

abbrev pub head : Part → Header
head b = record { time = b.time; clocks = b.clocks }

abbrev pub accepted : Part → Ending
accepted b = record { answer = Ok (head b); rows = b.rows }
