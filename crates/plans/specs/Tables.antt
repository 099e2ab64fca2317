-- What a table plan means.
use Rattle.std.proofs.Math.Logic.{∥∥₁_map}
use Rattle.std.specs.Prelude.{ℕ, Bool, List}
use Rattle.bounds.specs.Bounds.{UpperBound}
use Rattle.bounds.specs.Domains.{Lawful}
use Rattle.plans.specs.declared.rows.Position.{Position}
use Rattle.plans.specs.declared.rows.Move.{Move}
use Rattle.plans.specs.declared.rows.Outcome.{Outcome}
use Rattle.plans.specs.declared.rows.Goal.{Goal}
use Rattle.plans.specs.Meaning.{PlanMeaning, WellFormed}
use Rattle.plans.specs.RowChecks.{RowsFine}
use Rattle.plans.specs.Sound.{well}

-- the rows as a meaning
abbrev pub tabled : (ℕ → Bool) → (UpperBound → UpperBound) → ℕ → List Position → List Move → List Outcome → List Goal → PlanMeaning
tabled a nf n ps vs os gs = record { allows = a; normal = nf; clocks = n; positions = ps; moves = vs; outcomes = os; goals = gs }

-- rows that are fine, over a time domain that keeps its laws, are a plan
pub well_formed : (a : ℕ → Bool) (nf : UpperBound → UpperBound) (n : ℕ) (ps : List Position) (vs : List Move) (os : List Outcome) (gs : List Goal)
    → ∥ Lawful a nf ∥₁ → RowsFine n ps vs os gs → WellFormed (tabled a nf n ps vs os gs)
well_formed a nf n ps vs os gs l f = record {
  lawful = l;
  some_clock = f.sized.clocks.0;
  few_clocks = f.sized.clocks.1;
  some_position = f.sized.rows.positions.0;
  few_positions = f.sized.rows.positions.1;
  few_moves = f.sized.rows.moves;
  few_outcomes = f.sized.rows.outcomes;
  few_goals = f.sized.rows.goals;
  positions = f.positions;
  moves = f.moves;
  outcomes = f.outcomes;
  goals = f.goals;
  sums = f.sums;
}

-- the same from what a table plan's type keeps
pub table_sound : (a : ℕ → Bool) (nf : UpperBound → UpperBound) (n : ℕ) (ps : List Position) (vs : List Move) (os : List Outcome) (gs : List Goal)
    → ∥ Lawful a nf ∥₁ → ∥ RowsFine n ps vs os gs ∥₁ → WellFormed (tabled a nf n ps vs os gs)
table_sound a nf n ps vs os gs l f = well (tabled a nf n ps vs os gs) (∥∥₁_map f (well_formed a nf n ps vs os gs l))
