-- The zones that a round starts from, as code tells them.
use Rattle.std.specs.Prelude.{◌≡◌, ℕ, Bool, List, length, Ok, Option, Result}
use Rattle.bounds.specs.declared.refusal.Refusal.{Refusal}
use Rattle.bounds.specs.Bounds.{UpperBound}
use Rattle.zones.specs.declared.codes.Code.{Code}
use Rattle.zones.specs.declared.boxes.Side.{Side}
use Rattle.zones.specs.declared.boxes.ClockBox.{ClockBox}
use Rattle.zones.specs.declared.zone.Zone.{Zone}
use Rattle.zones.specs.Boxes.{Plain}
use Rattle.rounds.specs.Codes.{Remains, then, whole, cut_box, back_zone, undo_zone}
use Rattle.rounds.specs.Codes.Remains.{kept}
use Rattle.rounds.specs.Calls.{ZoneOf}
use Rattle.plans.specs.declared.rows.Move.{Move}
use Rattle.plans.specs.declared.rows.Outcome.{Outcome}
use Rattle.plans.specs.declared.rows.Goal.{Goal}
use Rattle.plans.specs.Items.{Names}
use Rattle.plans.specs.Boxes.{BoxOf}
use Rattle.plans.specs.Meaning.{PlanMeaning, OutcomeOf, invariant_of}
use Rattle.rounds.specs.Rounds.{resets_of, move_of, goal_zone, step_zone}
use Rattle.starts.specs.Told.{Tells}

-- taken back and cut by an invariant
abbrev pub home_way : (UpperBound → UpperBound) → List Side → Remains → Remains
home_way normal invariant o = then (then o back_zone) (cut_box normal invariant)

-- cut by two boxes before that
abbrev pub home_by : (UpperBound → UpperBound) → List Side → List Side → List Side → Remains → Remains
home_by normal first second invariant o = home_way normal invariant (then (then o (cut_box normal first)) (cut_box normal second))

abbrev pub HomeByTells : (UpperBound → UpperBound) → List Side → List Side → List Side → List Code → Result (Option Zone) Refusal → Type 0
HomeByTells normal first second invariant xs r = Plain first → Plain second → Plain invariant → ZoneOf normal xs → Tells (home_by normal first second invariant (kept xs)) r

abbrev pub goal_way : (UpperBound → UpperBound) → List Side → List Side → Remains
goal_way normal invariant area = home_way normal invariant (then (cut_box normal invariant whole) (cut_box normal area))

abbrev pub GoalWay : (UpperBound → UpperBound) → List Side → List Side → Result (Option Zone) Refusal → Type 0
GoalWay normal invariant area r = Plain invariant → Plain area → Tells (goal_way normal invariant area) r

abbrev pub step_way : (UpperBound → UpperBound) → List Bool → List Side → List Side → List Code → Remains
step_way normal rs guard invariant xs = home_way normal invariant (then (then (undo_zone (resets_of rs) xs) (cut_box normal guard)) (cut_box normal invariant))

abbrev pub StepWay : (UpperBound → UpperBound) → List Bool → List Side → List Side → List Code → Result (Option Zone) Refusal → Type 0
StepWay normal rs guard invariant xs r = Plain guard → Plain invariant → ZoneOf normal xs → Tells (step_way normal rs guard invariant xs) r

-- the invariant of the position that p names
abbrev pub InvariantTells : PlanMeaning → ℕ → Result ClockBox Refusal → Type 0
InvariantTells M p r = Names (length M.positions) p → r ≡ Ok (invariant_of M p)

-- a goal of the plan, and an outcome of it with its move
pub record GoalOf (M : PlanMeaning) (g : Goal) : Type 0 where
  pub position : Names (length M.positions) g.position
  pub area : BoxOf M.clocks g.area

pub record StepOf (M : PlanMeaning) (m : Move) (o : Outcome) : Type 0 where
  pub cause : m ≡ move_of M o
  pub outcome : OutcomeOf M.clocks (length M.positions) (length M.moves) o

-- the zone that a round starts from a goal of the plan
abbrev pub GoalTells : PlanMeaning → Goal → Result (Option Zone) Refusal → Type 0
GoalTells M g r = GoalOf M g → Tells (goal_zone M g) r

-- and from a zone by an outcome of the plan into its position
abbrev pub StepTells : PlanMeaning → Move → Outcome → List Code → Result (Option Zone) Refusal → Type 0
StepTells M m o xs r = StepOf M m o → ZoneOf M.normal xs → Tells (step_zone M xs o) r
