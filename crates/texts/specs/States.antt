-- What the reader of a text knows between two lines.
use Rattle.std.specs.Prelude.{◌≡◌, ℕ, ◌*◌, ◌≤◌, length, Ok, Err, Result}
use Rattle.bounds.specs.declared.time.PlanTime.{PlanTime}
use Rattle.byte_text.specs.Parts.{Place, place}
use Rattle.texts.specs.declared.fault.TextFault.{TextFault}
use Rattle.texts.specs.declared.reading.Reading.{Reading}
use Rattle.texts.specs.declared.words.Phase.{Phase}
use Rattle.texts.specs.declared.words.Phase.TheVariants as phases
use Rattle.texts.specs.Faults.{Fault, fault}
use Rattle.texts.specs.PlanRows.{Tables, tables, SameSlices, open_sum}

-- the phase, what the line `T` said, the line of the last move, and the rows
pub record State : Type 0 where
  pub phase : Phase
  pub time : PlanTime
  pub clocks : ℕ
  pub opened : ℕ
  pub opening : Place
  pub rows : Tables

-- a reading without its references
abbrev pub state : Reading → State
state r = record { phase = r.phase; time = r.time; clocks = r.clocks; opened = r.opening.number; opening = place r.opening.whole; rows = tables r.rows.now }

-- the state after a line that was accepted
abbrev pub seen_state : Result (Unit {0}) TextFault → Reading → Result State Fault
seen_state (Ok u) r = Ok (state r)
seen_state (Err f) r = Err (fault f)

-- a refusal leaves the state as it was
abbrev pub KeptBy : {X : Type 0} → Result X TextFault → State → State → Type 0
KeptBy (Ok x) s s' = Unit {0}
KeptBy (Err f) s s' = s ≡ s'

-- the lists are the same lists, over the same slices
pub record SameLists (r r' : Reading) : Type 0 where
  pub lists : r.rows.ghost_name ≡ r'.rows.ghost_name
  pub slices : SameSlices r.rows.now r'.rows.now

-- what holds between two lines
pub record Sound (s : State) : Type 0 where
  pub few : s.rows.positions.used ≤ 64
  pub counted : s.clocks ≤ 8
  pub outcomes : s.rows.outcomes.used ≤ 512
  pub some : s.phase ≡ phases.Moves → 1 ≤ s.rows.moves.used
  pub fits : s.rows.moves.used ≤ length s.rows.moves.rows
  pub sums : s.phase ≡ phases.Moves → open_sum s.rows.moves ≤ 1000 * s.rows.outcomes.used
