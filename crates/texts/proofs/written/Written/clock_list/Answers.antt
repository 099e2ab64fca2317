use Rattle.std.proofs.Common.{Ok, Err, ap, ◌∙◌}
use Rattle.std.proofs.lemmas.Result.{err_from_is_err_and}
use Rattle.byte_text.specs.Parts.{place}
use Rattle.texts.specs.Faults.{fault, on}
use Rattle.texts.specs.Fields.{clocks, seen_field, in_field}
use Rattle.texts.proofs.ClockSteps.{clocks_are_items}
use Rattle.texts.proofs.written.Written.clock_list.Goals as goal

pub returns : goal.returns
returns c =
    let p = place c.args.self.part in
    ap (λ r. on r (λ ms. Ok (clocks ms (place c.args.self.part)))) (c.in_ok-clocks.ensures ∙ ap (in_field c.args.self.line c.args.self.number p) (c.read_items.ensures ∙ clocks_are_items c.args.standing.clocks p))

pub returns-in_err-clocks : goal.returns-in_err-clocks
returns-in_err-clocks c =
    let p = place c.args.self.part in
    let e = err_from_is_err_and c.from_residual.result c.from_residual.ensures.1 in
    ap seen_field e.1 ∙ (ap (λ f. Err (fault f)) e.2 ∙ ap (λ r. on r (λ ms. Ok (clocks ms (place c.args.self.part)))) (c.in_err-clocks.ensures ∙ ap (in_field c.args.self.line c.args.self.number p) (c.read_items.ensures ∙ clocks_are_items c.args.standing.clocks p)))
