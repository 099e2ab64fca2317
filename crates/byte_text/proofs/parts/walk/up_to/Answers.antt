use Rattle.std.proofs.Common.{length, ap, ◌∙◌}
use Rattle.std.specs.Option.{unwrap_or}
use Rattle.byte_text.proofs.Steps.{up_to_first}
use Rattle.byte_text.proofs.parts.walk.up_to.Goals as goal

pub returns-clause-value : goal.returns-clause-value
returns-clause-value c =
    let s = c.args.bytes.now in
    c.unwrap_or.ensures ∙ ap (λ o. unwrap_or o (length s)) c.first.ensures ∙ up_to_first c.args.mark s
