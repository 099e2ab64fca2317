use Rattle.std.proofs.Common.{◌≡◌, Err, sym, ap, ◌∙◌}
use Rattle.std.proofs.lemmas.Result.{err_from_is_err_and}
use Rattle.byte_text.specs.Parts.{place}
use Rattle.texts.specs.Faults.{fault, faulty}
use Rattle.texts.specs.Readers.{lines_ahead}
use Rattle.texts.specs.States.{State, state}
use Rattle.texts.specs.Texts.{run, stopped}
use Rattle.texts.proofs.Runs.{go_on, stop_here, run_torn, run_over, same_on}
use Rattle.texts.proofs.plan_text.read_lines.Goals as goal

pub lines-preserved : goal.lines-preserved
lines-preserved c =
    let s = state c.lines.reading in
    let t = state c.read_line.new.self in
    let on = go_on (lines_ahead c.lines.reader) (place c.in-Whole.line.whole) s t c.lines.reader.line c.in-Whole.line.number _ c.in-Whole.ensures.answer c.in_ok-read_line-in-Whole.ensures.answer c.lines.invariant.0 in
    ((λ i. run (c.in-Whole.ensures.rest i) t (c.in-Whole.ensures.count i)) ∙ on, same_on _ _ _ c.in_ok-read_line-in-Whole.ensures.same c.lines.invariant.1)

pub returns-in_err-read_line-in-Whole-clause-answer : goal.returns-in_err-read_line-in-Whole-clause-answer
returns-in_err-read_line-in-Whole-clause-answer c =
    let p = err_from_is_err_and c.from_residual.result c.from_residual.ensures.1 in
    let s = state c.lines.reading in
    let rows = ap (λ (x : State). x.rows) c.in_err-read_line-in-Whole.ensures.kept in
    let f = fault c.in_err-read_line-in-Whole.field-0.0 in
    let r : faulty c.from_residual.result ≡ Err f = ap faulty p.1 ∙ ap (λ f. Err (fault f)) p.2 in
    (λ i. record { answer = r i; rows = rows i }) ∙ stop_here (lines_ahead c.lines.reader) (place c.in-Whole.line.whole) s f c.lines.reader.line c.in-Whole.line.number _ c.in-Whole.ensures.answer c.in_err-read_line-in-Whole.ensures.answer c.lines.invariant.0

pub returns-in-Torn-clause-answer : goal.returns-in-Torn-clause-answer
returns-in-Torn-clause-answer c =
    let s = state c.lines.reading in
    ap (λ x. stopped x s) c.torn_line.ensures ∙ (sym (run_torn (lines_ahead c.lines.reader) (place c.in-Torn.line.whole) s c.lines.reader.line c.in-Torn.line.number c.in-Torn.ensures.answer) ∙ c.lines.invariant.0)

pub returns-in-Over-clause-answer : goal.returns-in-Over-clause-answer
returns-in-Over-clause-answer c =
    let s = state c.lines.reading in
    ap (λ x. stopped x s) c.finish.ensures ∙ (sym (run_over (lines_ahead c.lines.reader) (place c.in-Over.end.whole) s c.lines.reader.line c.in-Over.end.number c.in-Over.ensures.answer) ∙ c.lines.invariant.0)
