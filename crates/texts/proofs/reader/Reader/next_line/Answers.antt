use Rattle.std.proofs.Common.{refl, rules}
use Rattle.texts.proofs.LineWalks.{line_there, line_open}
use Rattle.texts.proofs.reader.Reader.next_line.Goals as goal

pub returns-then-n-rest : goal.returns-then-n-rest
returns-then-n-rest c =
    let h = line_there c.args.self.now.text.now c.args.self.now.at c.up_to-n.result _ c.up_to-n.ensures.value c.if-n-rest.true in
    record { answer = h.0; rest = h.1; count = refl; text = refl }

pub returns-else-is_empty : goal.returns-else-is_empty
returns-else-is_empty c =
    let h = line_open c.args.self.now.text.now c.args.self.now.at c.up_to-n.result _ c.up_to-n.ensures.value c.if-n-rest.false (search rules) in
    record { answer = h.0; rest = h.1; count = refl; text = refl }
