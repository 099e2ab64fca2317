-- A meaning is well formed in one way at most.
use Rattle.std.specs.Prelude.{◌≡◌, ℕ, ℤ, ◌≤ℤ◌, Some, None, Option}
use Rattle.std.proofs.Math.Logic.{∥∥₁_elim, ∥∥₁_prop}
use Rattle.std.proofs.Math.Bool.{Bool-set}
use mathlib.Core.HLevel.{hedberg, Π_prop, ×_prop, →_prop, Unit-prop}
use Rattle.std.proofs.Math.Bridge.{le_prop}
use Rattle.std.proofs.Math.Decide.{ℕ_discrete}
use Rattle.std.proofs.Math.Dec.{T_prop}
use Rattle.bounds.specs.declared.bound.Bound.{Bound}
use Rattle.zones.specs.declared.boxes.ClockBox.{ClockBox}
use Rattle.plans.specs.declared.rows.Outcome.{Outcome}
use Rattle.plans.specs.Boxes.{InRange, BoxOf}
use Rattle.plans.specs.Items.{Names}
use Rattle.plans.specs.Meaning.{PlanMeaning, WellFormed, OutcomeOf}

leZ_prop : (a b : ℤ) → IsProp (a ≤ℤ b)
leZ_prop a b x y i = record { le = T_prop _ x.le y.le i }

pub in_range_prop : (b : Option Bound) → IsProp (InRange b)
in_range_prop None = Unit-prop
in_range_prop (Some b) = ×_prop (leZ_prop _ _) (leZ_prop _ _)

nat_set : (a b : ℕ) → IsProp (a ≡ b)
nat_set = hedberg ℕ_discrete

box_prop : (n : ℕ) (b : ClockBox) → IsProp (BoxOf n b)
box_prop n b x y i = record {
  eight = nat_set _ _ x.eight y.eight i;
  free = Π_prop (λ k. →_prop (Bool-set _ _)) x.free y.free i;
  low = Π_prop (λ k. →_prop (in_range_prop _)) x.low y.low i;
  high = Π_prop (λ k. →_prop (in_range_prop _)) x.high y.high i;
}

names_prop : (n p : ℕ) → IsProp (Names n p)
names_prop n p = ×_prop le_prop le_prop

outcome_prop : (n p m : ℕ) (o : Outcome) → IsProp (OutcomeOf n p m o)
outcome_prop n p m o x y i = record {
  cause = names_prop _ _ x.cause y.cause i;
  chance = le_prop x.chance y.chance i;
  target = names_prop _ _ x.target y.target i;
  resets = Π_prop (λ k. →_prop (Bool-set _ _)) x.resets y.resets i;
}

well_prop : (m : PlanMeaning) → IsProp (WellFormed m)
well_prop m x y i = record {
  lawful = ∥∥₁_prop x.lawful y.lawful i;
  some_clock = le_prop x.some_clock y.some_clock i;
  few_clocks = le_prop x.few_clocks y.few_clocks i;
  some_position = le_prop x.some_position y.some_position i;
  few_positions = le_prop x.few_positions y.few_positions i;
  few_moves = le_prop x.few_moves y.few_moves i;
  few_outcomes = le_prop x.few_outcomes y.few_outcomes i;
  few_goals = le_prop x.few_goals y.few_goals i;
  positions = Π_prop (λ k. →_prop (box_prop _ _)) x.positions y.positions i;
  moves = Π_prop (λ k. →_prop (×_prop (names_prop _ _) (box_prop _ _))) x.moves y.moves i;
  outcomes = Π_prop (λ k. →_prop (outcome_prop _ _ _ _)) x.outcomes y.outcomes i;
  goals = Π_prop (λ k. →_prop (×_prop (names_prop _ _) (box_prop _ _))) x.goals y.goals i;
  sums = Π_prop (λ k. →_prop (→_prop (nat_set _ _))) x.sums y.sums i;
}

-- what a ghost field keeps truncated
pub well : (m : PlanMeaning) → ∥ WellFormed m ∥₁ → WellFormed m
well m h = ∥∥₁_elim h (well_prop m) (λ w. w)
