-- What a plan means.
use Rattle.std.specs.Prelude.{◌≡◌, ℕ, ◌+◌, ◌-◌, ◌<◌, ◌≤◌, Bool, false, cond, List, [], ◌∷◌, length, ◌==◌, slice_index_or}
use Rattle.bounds.specs.Bounds.{UpperBound}
use Rattle.bounds.specs.Domains.{Lawful}
use Rattle.zones.specs.declared.boxes.ClockBox.{ClockBox}
use Rattle.plans.specs.declared.rows.Position.{Position}
use Rattle.plans.specs.declared.rows.Move.{Move}
use Rattle.plans.specs.declared.rows.Outcome.{Outcome}
use Rattle.plans.specs.declared.rows.Goal.{Goal}
use Rattle.plans.specs.Boxes.{BoxOf}
use Rattle.plans.specs.Items.{Names}
use Rattle.plans.specs.RowLists.{no_move}

-- a time domain, by the scales that it allows and its normal form of a bound; a clock count; four lists, item by item the rows.
-- Nothing below reads the sum in a move's row: two plans whose moves differ in it alone have the same routes.
pub record PlanMeaning : Type 0 where
  pub allows : ℕ → Bool
  pub normal : UpperBound → UpperBound
  pub clocks : ℕ
  pub positions : List Position
  pub moves : List Move
  pub outcomes : List Outcome
  pub goals : List Goal

-- what stands past the end of a list
abbrev pub no_box : ClockBox
no_box = record { sides = [] }

abbrev pub no_position : Position
no_position = record { invariant = no_box }

abbrev pub no_outcome : Outcome
no_outcome = record { cause = 0; chance = 0; target = 0; resets = [] }

abbrev pub no_goal : Goal
no_goal = record { position = 0; area = no_box }

-- items by place, from 0
abbrev pub position_at : PlanMeaning → ℕ → Position
position_at m k = slice_index_or m.positions k no_position

abbrev pub move_at : PlanMeaning → ℕ → Move
move_at m k = slice_index_or m.moves k no_move

abbrev pub outcome_at : PlanMeaning → ℕ → Outcome
outcome_at m k = slice_index_or m.outcomes k no_outcome

abbrev pub goal_at : PlanMeaning → ℕ → Goal
goal_at m k = slice_index_or m.goals k no_goal

-- positions and moves by name, from 1
abbrev pub invariant_of : PlanMeaning → ℕ → ClockBox
invariant_of m p = (position_at m (p - 1)).invariant

abbrev pub cause_of : PlanMeaning → ℕ → Move
cause_of m o = move_at m ((outcome_at m o).cause - 1)

-- the chances of move k, from 1, added up
abbrev pub chances : ℕ → List Outcome → ℕ
chances k [] = 0
chances k (o ∷ os) = cond (o.cause == k) o.chance 0 + chances k os

-- an outcome in a plan of n clocks, p positions and m moves
pub record OutcomeOf (n p m : ℕ) (o : Outcome) : Type 0 where
  pub cause : Names m o.cause
  pub chance : o.chance ≤ 1000
  pub target : Names p o.target
  pub resets : (i : ℕ) → n ≤ i → slice_index_or o.resets i false ≡ false

-- every name exists, every number is in range, and the chances of each move add up
pub record WellFormed (m : PlanMeaning) : Type 0 where
  pub lawful : ∥ Lawful m.allows m.normal ∥₁
  pub some_clock : 1 ≤ m.clocks
  pub few_clocks : m.clocks ≤ 8
  pub some_position : 1 ≤ length m.positions
  pub few_positions : length m.positions ≤ 64
  pub few_moves : length m.moves ≤ 256
  pub few_outcomes : length m.outcomes ≤ 512
  pub few_goals : length m.goals ≤ 64
  pub positions : (k : ℕ) → k < length m.positions → BoxOf m.clocks (position_at m k).invariant
  pub moves : (k : ℕ) → k < length m.moves → Names (length m.positions) (move_at m k).source × BoxOf m.clocks (move_at m k).guard
  pub outcomes : (k : ℕ) → k < length m.outcomes → OutcomeOf m.clocks (length m.positions) (length m.moves) (outcome_at m k)
  pub goals : (k : ℕ) → k < length m.goals → Names (length m.positions) (goal_at m k).position × BoxOf m.clocks (goal_at m k).area
  pub sums : (k : ℕ) → 1 ≤ k → k ≤ length m.moves → chances k m.outcomes ≡ 1000
