use Rattle.std.proofs.Common.{of_calls}
use Rattle.plans.specs.RowLists.{no_move}
use Rattle.plans.specs.Boxes.{BoxOf}
use Rattle.plans.specs.Items.{Names}
use Rattle.plans.specs.RowChecks.{PlacedWrong}
use Rattle.plans.proofs.FirstRows.{rows_say}
use Rattle.plans.proofs.row_check.check_moves.Goals as goal

pub returns : goal.returns
returns c = rows_say _ _ _ no_move (λ k m. Names c.args.sizes.positions m.source × BoxOf c.args.sizes.clocks m.guard) (λ k m. PlacedWrong c.args.sizes.clocks c.args.sizes.positions m.source m.guard) _ _ c.first_fault.ensures (λ k p r h. search of_calls)
