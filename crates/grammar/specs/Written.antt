-- Which plan a text writes down.
use Rattle.std.specs.Prelude.{◌≡◌, ℕ, ◌+◌, ◌≤◌, List, [], ◌∷◌, ◌++◌, map, length, codes, decimal}
use Rattle.bounds.specs.declared.time.PlanTime.{PlanTime}
use Rattle.bounds.specs.declared.time.PlanTime.TheVariants.{Cycle, Hand}
use Rattle.plans.specs.declared.rows.Position.{Position}
use Rattle.plans.specs.declared.rows.Move.{Move}
use Rattle.plans.specs.declared.rows.Outcome.{Outcome}
use Rattle.plans.specs.declared.rows.Goal.{Goal}
use Rattle.grammar.specs.BoxesWritten.{BoundText, spell_box, spell_clocks, FineBound, OneOf, All, box_by, resets_by}

-- a plan as it is written: boxes as lists of bounds, clock lists as lists of clocks, each move with its outcomes
pub record OutcomeText : Type 0 where
  pub chance : ℕ
  pub target : ℕ
  pub clocks : List ℕ

pub record MoveText : Type 0 where
  pub source : ℕ
  pub guard : List BoundText
  pub outcomes : List OutcomeText

pub record GoalText : Type 0 where
  pub position : ℕ
  pub area : List BoundText

pub record PlanText : Type 0 where
  pub time : PlanTime
  pub clocks : ℕ
  pub positions : List (List BoundText)
  pub moves : List MoveText
  pub goals : List GoalText

-- ---- the text
pub data LineText : Type 0 where
  time : PlanTime → ℕ → LineText
  position : List BoundText → LineText
  move : ℕ → List BoundText → LineText
  outcome : OutcomeText → LineText
  goal : GoalText → LineText

abbrev pub kind : PlanTime → List ℕ
kind Hand = codes "hand"
kind Cycle = codes "cycle"

-- a line: the letter, and each field after a tab
abbrev pub spell : LineText → List ℕ
spell (time k n) = 84 ∷ 9 ∷ (kind k ++ (9 ∷ decimal n))
spell (position ms) = 80 ∷ 9 ∷ spell_box ms
spell (move f ms) = 77 ∷ 9 ∷ (decimal f ++ (9 ∷ spell_box ms))
spell (outcome o) = 79 ∷ 9 ∷ (decimal o.chance ++ (9 ∷ (decimal o.target ++ (9 ∷ spell_clocks o.clocks))))
spell (goal g) = 71 ∷ 9 ∷ (decimal g.position ++ (9 ∷ spell_box g.area))

-- lines, each with byte 10 after it
unfoldable pub spelled : List LineText → List ℕ
spelled [] = []
spelled (i ∷ is) = spell i ++ (10 ∷ spelled is)

-- each move, followed by its outcomes
abbrev pub move_lines : List MoveText → List LineText
move_lines [] = []
move_lines (m ∷ ms) = move m.source m.guard ∷ (map outcome m.outcomes ++ move_lines ms)

-- the lines of a plan, in their order
abbrev pub lines_of : PlanText → List LineText
lines_of w = time w.time w.clocks ∷ (map position w.positions ++ (move_lines w.moves ++ map goal w.goals))

-- ---- the plan: four lists
abbrev pub position_row : List BoundText → Position
position_row ms = record { invariant = box_by ms }

abbrev pub move_row : MoveText → Move
move_row m = record { source = m.source; guard = box_by m.guard; sum = 1000 }

abbrev pub outcome_row : ℕ → OutcomeText → Outcome
outcome_row k o = record { cause = k; chance = o.chance; target = o.target; resets = resets_by o.clocks }

-- the outcomes of the moves ms, of which the first has the number k
abbrev pub outcome_rows : ℕ → List MoveText → List Outcome
outcome_rows k [] = []
outcome_rows k (m ∷ ms) = map (outcome_row k) m.outcomes ++ outcome_rows (k + 1) ms

abbrev pub goal_row : GoalText → Goal
goal_row g = record { position = g.position; area = box_by g.area }

-- ---- what is asked of it
abbrev pub outcome_count : List MoveText → ℕ
outcome_count [] = 0
outcome_count (m ∷ ms) = length m.outcomes + outcome_count ms

abbrev pub sum_of : List OutcomeText → ℕ
sum_of [] = 0
sum_of (o ∷ os) = o.chance + sum_of os

-- of a plan with n clocks and p positions
pub record FineOutcome (n p : ℕ) (o : OutcomeText) : Type 0 where
  pub chance : o.chance ≤ 1000
  pub target : OneOf p o.target
  pub clocks : All (OneOf n) o.clocks

pub record FineMove (n p : ℕ) (m : MoveText) : Type 0 where
  pub source : OneOf p m.source
  pub guard : All (FineBound n) m.guard
  pub outcomes : All (FineOutcome n p) m.outcomes
  pub sum : sum_of m.outcomes ≡ 1000

pub record FineGoal (n p : ℕ) (g : GoalText) : Type 0 where
  pub position : OneOf p g.position
  pub area : All (FineBound n) g.area

-- numbers in range, names of what exists, chances that add up, and a plan's limits
pub record FinePlan (w : PlanText) : Type 0 where
  pub clocks : OneOf 8 w.clocks
  pub count : OneOf 64 (length w.positions)
  pub few_moves : length w.moves ≤ 256
  pub few_outcomes : outcome_count w.moves ≤ 512
  pub few_goals : length w.goals ≤ 64
  pub positions : All (All (FineBound w.clocks)) w.positions
  pub moves : All (FineMove w.clocks (length w.positions)) w.moves
  pub goals : All (FineGoal w.clocks (length w.positions)) w.goals

-- the text writes down the plan w
pub record Writes (text : List ℕ) (w : PlanText) : Type 0 where
  pub short : length text ≤ 16384
  pub lines : text ≡ spelled (lines_of w)
  pub fine : FinePlan w
