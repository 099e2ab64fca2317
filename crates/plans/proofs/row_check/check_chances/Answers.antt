use Rattle.std.proofs.Common.{◌≡◌, ◌≢◌, length, of_calls}
use Rattle.bounds.specs.declared.refusal.Refusal.TheVariants as refused
use Rattle.plans.specs.RowLists.{no_move}
use Rattle.plans.specs.Meaning.{chances}
use Rattle.plans.proofs.Chances.{sums_say}
use Rattle.plans.proofs.FirstRows.{rows_say}
use Rattle.plans.proofs.row_check.check_chances.Goals as goal

pub returns : goal.returns
returns c =
    let os = c.args.outcomes.now in
    sums_say os (length c.args.moves.now) c.first_fault.result
    (rows_say _ _ _ no_move (λ k m. chances k os ≡ 1000) (λ k m e. (chances k os ≢ 1000) × (e ≡ refused.Chance)) _ c.first_fault.result c.first_fault.ensures (λ k p r h. search of_calls))
