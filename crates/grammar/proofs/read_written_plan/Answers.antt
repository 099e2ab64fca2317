use Rattle.texts.specs.Faults.{faulty}
use Rattle.texts.specs.PlanRows.{tables}
use Rattle.grammar.proofs.Accepted.{keeps_to, one_plan}
use Rattle.grammar.proofs.FineRows.{passes_check}
use Rattle.grammar.proofs.Meanings.{box_means, clocks_mean}
use Rattle.grammar.proofs.read_written_plan.Goals as goal

pub returns : goal.returns
returns c =
    let e = c.read_plan.ensures.answer in
    let k = keeps_to c.args.text.now (tables c.args.rows.now) (faulty c.read_plan.result) (tables c.read_plan.new.rows) e in
    record { answer = e; written = k; checked = passes_check c.args.text.now (tables c.args.rows.now) (faulty c.read_plan.result) (tables c.read_plan.new.rows) k; one = one_plan; boxes = box_means; clocks = clocks_mean; same = c.read_plan.ensures.same }
