-- What a deadline makes of the meaning below.
use Rattle.std.specs.Prelude.{◌≡◌, ℕ, ◌+◌, ◌<◌, ◌≤◌, true, cond, ◌⊎◌, map, pos, Some, None, nat_lt, slice_set}
use Rattle.bounds.specs.declared.refusal.Refusal.{Refusal}
use Rattle.bounds.specs.declared.refusal.Refusal.TheVariants as refused
use Rattle.zones.specs.declared.boxes.Side.{Side}
use Rattle.zones.specs.declared.boxes.ClockBox.{ClockBox}
use Rattle.plans.specs.declared.rows.Goal.{Goal}
use Rattle.plans.specs.Meaning.{PlanMeaning}

-- `<= T` and no lower bound
abbrev pub by_then : ℕ → Side
by_then T = record { lower = None; upper = Some (record { number = pos T; closed = true }) }

-- the box with `<= T` on the clock n + 1
abbrev pub timed_box : ℕ → ℕ → ClockBox → ClockBox
timed_box T n b = record { sides = slice_set b.sides n (by_then T) }

abbrev pub timed : ℕ → ℕ → Goal → Goal
timed T n g = record { position = g.position; area = timed_box T n g.area }

-- one clock more, that nothing resets, and `<= T` on it in every goal
abbrev pub deadlined : ℕ → PlanMeaning → PlanMeaning
deadlined T m = record {
  allows = m.allows;
  normal = m.normal;
  clocks = m.clocks + 1;
  positions = m.positions;
  moves = m.moves;
  outcomes = m.outcomes;
  goals = map (timed T m.clocks) m.goals;
}

-- what a deadline over any plan means: over eight clocks, which set-up refuses, what the plan below does
abbrev pub under : ℕ → PlanMeaning → PlanMeaning
under T m = cond (nat_lt m.clocks 8) (deadlined T m) m

-- once it is set up, what it means is one clock more and `<= T` on it
pub record DeadlineMeans (T : ℕ) (m : PlanMeaning) : Type 0 where
  pub small : T ≤ 1000000
  pub room : m.clocks < 8
  pub means : under T m ≡ deadlined T m

-- by Number, and then by Clocks
abbrev pub DeadlineRefused : ℕ → PlanMeaning → Refusal → Type 0
DeadlineRefused T m e = ((1000000 < T) × (e ≡ refused.Number)) ⊎ ((T ≤ 1000000) × (8 ≤ m.clocks) × (e ≡ refused.Clocks))
