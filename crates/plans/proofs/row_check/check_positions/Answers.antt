use Rattle.std.proofs.Common.{of_calls}
use Rattle.plans.specs.Meaning.{no_position}
use Rattle.plans.specs.Boxes.{BoxOf}
use Rattle.plans.specs.BoxChecks.{Wrong}
use Rattle.plans.proofs.FirstRows.{rows_say}
use Rattle.plans.proofs.row_check.check_positions.Goals as goal

pub returns : goal.returns
returns c = rows_say _ _ _ no_position (λ k p. BoxOf c.args.clocks p.invariant) (λ k p. Wrong c.args.clocks p.invariant) _ _ c.first_fault.ensures (λ k p r h. search of_calls)
