use Rattle.std.proofs.Common.{◌≡◌, length}
use Rattle.byte_text.specs.Parts.{parted}
use Rattle.texts.specs.Readers.{lines_ahead}
use Rattle.texts.specs.States.{state, SameLists}
use Rattle.texts.specs.Texts.{run}
use Rattle.texts.proofs.plan_text.read_lines.Given as goal

abbrev pub invariant-lines : goal.invariant-lines
invariant-lines l =
    (run (lines_ahead l.reader) (state l.reading) l.reader.line ≡ run (parted 10 0 l.text) (state l.initial.reading) 0)
    × SameLists l.reading l.initial.reading

abbrev pub decreases-lines : goal.decreases-lines
decreases-lines l = length (lines_ahead l.reader)
