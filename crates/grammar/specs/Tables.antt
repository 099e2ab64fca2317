-- A table plan over the rows that were read.
use Rattle.std.specs.Prelude.{◌≡◌, ℕ, Ok, Err, Result}
use Rattle.plans.specs.declared.faults.RowFault.{RowFault}
use Rattle.plans.specs.declared.table.TablePlan.{TablePlan}
use Rattle.plans.specs.RowChecks.{RowsFine, RowsWrong}
use Rattle.plans.specs.RowLists.{taken}
use Rattle.texts.specs.declared.header.Header.{Header}
use Rattle.texts.specs.Faults.{Fault}
use Rattle.texts.specs.PlanRows.{Tables}

-- the rows of an accepted text pass the row check
abbrev pub PassesCheck : Result Header Fault → Tables → Type 0
PassesCheck (Ok h) t = RowsFine h.clocks (taken t.positions) (taken t.moves) (taken t.outcomes) (taken t.goals)
PassesCheck (Err f) t = Unit {0}

-- what a table plan over the rows taken answers
abbrev pub TableSays : {T : Type 0} → T → ℕ → Tables → Result (TablePlan T) RowFault → Type 0
TableSays time n t (Ok p) =
    (p.time ≡ time) × (p.clocks ≡ n)
    × (p.rows.positions.now ≡ taken t.positions) × (p.rows.moves.now ≡ taken t.moves) × (p.rows.outcomes.now ≡ taken t.outcomes) × (p.rows.goals.now ≡ taken t.goals)
TableSays time n t (Err f) = RowsWrong n (taken t.positions) (taken t.moves) (taken t.outcomes) (taken t.goals) f
