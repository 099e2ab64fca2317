use Rattle.std.proofs.Common.{ℕ, subst, inl}
use Rattle.byte_text.specs.Lines.{WriteSays}
use Rattle.entries.specs.Lines.{line}
use Rattle.distances.proofs.finder.reading.list_entry.Goals as goal

pub returns : goal.returns
returns g c =
    let e = c.in_ok-read.field-0 in
    let i = c.in_ok-read.ensures in
    inl (e, i.0, i.1, i.2, subst (λ (n : ℕ). WriteSays (line n e) c.args.buffer.now c.write.result c.write.new.buffer) c.clocks.ensures c.write.ensures)
