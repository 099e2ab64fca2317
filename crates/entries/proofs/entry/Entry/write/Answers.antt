use Rattle.entries.proofs.entry.Entry.write.Goals as goal

pub returns-in_err-line : goal.returns-in_err-line
returns-in_err-line c = absurd c.in_err-line.ensures
