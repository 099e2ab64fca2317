use Rattle.std.proofs.Common.{of_calls}
use Rattle.plans.specs.Meaning.{OutcomeOf, no_outcome}
use Rattle.plans.specs.RowChecks.{OutcomeWrong}
use Rattle.plans.proofs.FirstRows.{rows_say}
use Rattle.plans.proofs.row_check.check_outcomes.Goals as goal

pub returns : goal.returns
returns c = rows_say _ _ _ no_outcome (λ k o. OutcomeOf c.args.sizes.clocks c.args.sizes.positions c.args.sizes.moves o) (λ k o. OutcomeWrong c.args.sizes.clocks c.args.sizes.positions c.args.sizes.moves o) _ _ c.first_fault.ensures (λ k p r h. search of_calls)
