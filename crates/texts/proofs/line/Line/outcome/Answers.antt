use Rattle.std.proofs.Common.{arith}
use Rattle.bounds.specs.declared.refusal.Refusal.TheVariants.{Number}
use Rattle.byte_text.specs.Parts.{place}
use Rattle.texts.specs.Fields.{shown}
use Rattle.texts.proofs.LineFacts.{field_high}
use Rattle.texts.proofs.line.Line.outcome.Goals as goal

pub overflow_cast-result : goal.overflow_cast-result
overflow_cast-result c =
    let w = c.in_ok-chance.chance in
    let high = field_high 0 1000 Number w.line w.number (place w.part) (shown c.in_ok-chance-2.chance) c.in_ok-chance-2.ensures in
    omega (arith, high, c.number.ensures)
