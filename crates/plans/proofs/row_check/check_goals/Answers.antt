use Rattle.std.proofs.Common.{of_calls}
use Rattle.plans.specs.Meaning.{no_goal}
use Rattle.plans.specs.Boxes.{BoxOf}
use Rattle.plans.specs.Items.{Names}
use Rattle.plans.specs.RowChecks.{PlacedWrong}
use Rattle.plans.proofs.FirstRows.{rows_say}
use Rattle.plans.proofs.row_check.check_goals.Goals as goal

pub returns : goal.returns
returns c = rows_say _ _ _ no_goal (λ k g. Names c.args.sizes.positions g.position × BoxOf c.args.sizes.clocks g.area) (λ k g. PlacedWrong c.args.sizes.clocks c.args.sizes.positions g.position g.area) _ _ c.first_fault.ensures (λ k p r h. search of_calls)
