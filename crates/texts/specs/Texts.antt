-- What a text does, line by line.
use Rattle.std.specs.Prelude.{ℕ, ◌+◌, cond, List, [], ◌∷◌, length, Ok, Err, Result, nat_le}
use Rattle.bounds.specs.declared.refusal.Refusal.TheVariants.{Rows}
use Rattle.bounds.specs.declared.time.PlanTime.TheVariants.{Cycle}
use Rattle.byte_text.specs.Parts.{Place, parted}
use Rattle.texts.specs.declared.header.Header.{Header}
use Rattle.texts.specs.declared.words.Phase.TheVariants as phases
use Rattle.texts.specs.declared.spot.Spot.TheVariants as spots
use Rattle.texts.specs.Faults.{Fault, refused}
use Rattle.texts.specs.Readers.{is_empty}
use Rattle.texts.specs.PlanRows.{Tables, none_taken}
use Rattle.texts.specs.States.{State}
use Rattle.texts.specs.Lines.{step, torn_line, finished}

-- the answer, and the rows afterwards
pub record Ending : Type 0 where
  pub answer : Result Header Fault
  pub rows : Tables

abbrev pub start : Tables → State
start t = record { phase = phases.Begin; time = Cycle; clocks = 0; opened = 0; opening = record { bytes = []; at = 0 }; rows = t }

-- the text ends here
abbrev pub stopped : Result Header Fault → State → Ending
stopped r s = record { answer = r; rows = s.rows }

-- a refused line ends the text; what earlier lines wrote stays
abbrev pub after : Result State Fault → State → (State → Ending) → Ending
after (Ok t) s go = go t
after (Err f) s go = stopped (Err f) s

-- the last part of a text is a line with no end, unless it is empty
abbrev pub ending : Place → State → ℕ → Ending
ending p s line = cond (is_empty p.bytes) (stopped (finished s (line + 1) p) s) (stopped (torn_line s (line + 1) p) s)

-- the lines ps, after `line` lines that led to s
unfoldable pub run : List Place → State → ℕ → Ending
run [] s line = ending (record { bytes = []; at = 0 }) s line
run (p ∷ ps) s line = cond (is_empty ps) (ending p s line) (after (step s (line + 1) p) s (λ t. run ps t (line + 1)))

-- what the reader of a text answers and writes
abbrev pub read_text : List ℕ → Tables → Ending
read_text text t = cond (nat_le (length text) 16384) (run (parted 10 0 text) (start (none_taken t)) 0) (stopped (refused Rows spots.Text (record { bytes = text; at = 0 })) (start t))
