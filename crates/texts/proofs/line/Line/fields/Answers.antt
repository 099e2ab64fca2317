use Rattle.std.proofs.Common.{◌∙◌}
use Rattle.texts.proofs.LineFacts.{from_place}
use Rattle.texts.proofs.line.Line.fields.Goals as goal

pub returns : goal.returns
returns c = c.new.ensures ∙ from_place 9 c.args.self.whole.at c.args.self.whole.bytes.now c.args.self.placed
