-- Worked distances, from the meaning of routes alone.
use Rattle.std.specs.Prelude.{ℕ, Bool, true, false, List, [], ◌∷◌, pos, Some, None, Option}
use Rattle.bounds.specs.declared.bound.Bound.{Bound}
use Rattle.bounds.specs.Bounds.{UpperBound}
use Rattle.bounds.specs.Domains.{hand_allows, hand_normal, cycle_allows, cycle_normal}
use Rattle.zones.specs.declared.boxes.Side.{Side}
use Rattle.zones.specs.declared.boxes.ClockBox.{ClockBox}
use Rattle.zones.specs.States.{Good}
use Rattle.plans.specs.Meaning.{PlanMeaning}
use Rattle.plans.specs.Routes.{Route, Distance}
use Rattle.layers.specs.Deadlines.{under}
use Rattle.layers.specs.Theorems.{reading}

abbrev pub bound : Bool → ℕ → Option Bound
bound c n = Some (record { number = pos n; closed = c })

abbrev pub free : Side
free = record { lower = None; upper = None }

-- a box that asks something of clock 1 alone
abbrev pub on_first : Side → ClockBox
on_first s = record { sides = s ∷ free ∷ free ∷ free ∷ free ∷ free ∷ free ∷ free ∷ [] }

abbrev pub none_reset : List Bool
none_reset = false ∷ false ∷ false ∷ false ∷ false ∷ false ∷ false ∷ false ∷ []

abbrev pub first_reset : List Bool
first_reset = true ∷ false ∷ false ∷ false ∷ false ∷ false ∷ false ∷ false ∷ []

-- Two positions, of which the first has an invariant, and a move from it with a guard: in 950 of 1000 cases it leads to the second,
-- where the goal is, and else clock 1 starts anew.
abbrev pub small_plan : (ℕ → Bool) → (UpperBound → UpperBound) → Side → Side → PlanMeaning
small_plan allows normal invariant guard = record {
  allows = allows;
  normal = normal;
  clocks = 1;
  positions = record { invariant = on_first invariant } ∷ record { invariant = on_first free } ∷ [];
  moves = record { source = 1; guard = on_first guard; sum = 1000 } ∷ [];
  outcomes = record { cause = 1; chance = 950; target = 2; resets = none_reset } ∷ record { cause = 1; chance = 50; target = 1; resets = first_reset } ∷ [];
  goals = record { position = 2; area = on_first free } ∷ [];
}

-- at most 4 in the first position, and at least 2 for its move
abbrev pub lift : PlanMeaning
lift = small_plan hand_allows hand_normal (record { lower = None; upper = bound true 4 }) (record { lower = bound true 2; upper = None })

-- at least 5 for its move
abbrev pub blocked : PlanMeaning
blocked = small_plan hand_allows hand_normal (record { lower = None; upper = bound true 4 }) (record { lower = bound true 5; upper = None })

-- under 4 in the first position, and over 3 for its move
abbrev pub narrow : (ℕ → Bool) → (UpperBound → UpperBound) → PlanMeaning
narrow allows normal = small_plan allows normal (record { lower = None; upper = bound false 4 }) (record { lower = bound false 3; upper = None })

-- no route from the state at position p with these readings at the scale D
abbrev pub NoRoute : PlanMeaning → ℕ → ℕ → List ℕ → Type 0
NoRoute m D p rs = (k : ℕ) → Route m D p (reading rs) k → ⊥

pub record DistanceCases : Type 0 where
  -- position 1, reading 7 at scale 2
  pub seven_halves : Distance lift 2 1 (reading (7 ∷ [])) 1
  -- the same with 9 at scale 2
  pub nine_halves : NoRoute lift 2 1 (9 ∷ [])
  -- position 2, reading 1,000,000,000; one more is no state that a call takes
  pub far : Distance lift 1 2 (reading (1000000000 ∷ [])) 0
  pub too_far : Good hand_allows 1 (1000000001 ∷ []) → ⊥
  -- a guard that no state of the invariant meets
  pub blocked_none : NoRoute blocked 1 1 (0 ∷ [])
  -- between 3 and 4 there is time by hand, and none by the cycle
  pub narrow_hand : Distance (narrow hand_allows hand_normal) 1 1 (reading (0 ∷ [])) 1
  pub narrow_cycle : NoRoute (narrow cycle_allows cycle_normal) 1 1 (0 ∷ [])
  -- under a deadline of 1, from readings 1 and 0, and from 0 and 0
  pub deadline_one : Distance (under 1 lift) 1 1 (reading (1 ∷ 0 ∷ [])) 1
  pub deadline_none : NoRoute (under 1 lift) 1 1 (0 ∷ 0 ∷ [])
