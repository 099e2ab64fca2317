use Rattle.std.proofs.Common.{◌∙◌, arith}
use Rattle.byte_text.proofs.Reading.{digits_on, value_on}
use Rattle.byte_text.proofs.numerals.number_to.Goals as goal

pub loop-b-preserved : goal.loop-b-preserved
loop-b-preserved c =
    let s = c.args.bytes.now in
    let i = c.loop-b.b-index in
    let d = c.if-not-is_ascii_digit.ensures.cases in
    let more = value_on s i c.loop-b-test.true d.0 d.1 in (
      c.loop-b.invariant.0 ∙ digits_on s i c.loop-b-test.true d.0 d.1,
      omega (arith, more, c.loop-b.invariant.1, c.from.ensures, c.saturating_mul.ensures, c.saturating_add.ensures, c.min-number.ensures),
    )
