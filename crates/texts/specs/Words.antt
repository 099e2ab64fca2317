-- The words of a plan text.
use Rattle.std.specs.Prelude.{ℕ, Bool, true, false, cond, ◌||◌, List, length, replicate, Ok, codes, Result, ◌==◌, nat_lt, slice_index}
use Rattle.std.specs.Str.{bytes_eq}
use Rattle.bounds.specs.declared.refusal.Refusal.TheVariants.{Line}
use Rattle.bounds.specs.declared.time.PlanTime.{PlanTime}
use Rattle.bounds.specs.declared.time.PlanTime.TheVariants.{Cycle, Hand}
use Rattle.zones.specs.declared.boxes.ClockBox.{ClockBox}
use Rattle.byte_text.specs.Parts.{Place}
use Rattle.texts.specs.declared.words.Letter.{Letter}
use Rattle.texts.specs.declared.words.Letter.TheVariants as letters
use Rattle.texts.specs.declared.words.Phase.{Phase}
use Rattle.texts.specs.declared.words.Phase.TheVariants as phases
use Rattle.texts.specs.declared.spot.Spot.TheVariants as spots
use Rattle.texts.specs.Faults.{Fault, refused}
use Rattle.texts.specs.Fields.{Shown, word, number, clocks, bounds}
use Rattle.texts.specs.BoxFields.{no_sides}

-- the letter that a first field writes
abbrev pub letter_of : List ℕ → Letter
letter_of bs =
    cond (length bs == 1)
    (cond (slice_index bs 0 == 84) letters.Time
    (cond (slice_index bs 0 == 80) letters.Position
    (cond (slice_index bs 0 == 77) letters.Move
    (cond (slice_index bs 0 == 79) letters.Outcome
    (cond (slice_index bs 0 == 71) letters.Goal letters.Unknown)))))
    letters.Unknown

abbrev pub is_moves : Phase → Bool
is_moves phases.Begin = false
is_moves phases.Positions = false
is_moves phases.Moves = true
is_moves phases.Goals = false

abbrev pub is_outcome : Letter → Bool
is_outcome letters.Time = false
is_outcome letters.Position = false
is_outcome letters.Move = false
is_outcome letters.Outcome = true
is_outcome letters.Goal = false
is_outcome letters.Unknown = false

-- a line of this kind may stand there, after so many positions
abbrev pub stands_at : Letter → Phase → ℕ → Bool
stands_at letters.Time phases.Begin n = true
stands_at letters.Time phases.Positions n = false
stands_at letters.Time phases.Moves n = false
stands_at letters.Time phases.Goals n = false
stands_at letters.Position phases.Begin n = false
stands_at letters.Position phases.Positions n = true
stands_at letters.Position phases.Moves n = false
stands_at letters.Position phases.Goals n = false
stands_at letters.Move phases.Begin n = false
stands_at letters.Move phases.Positions n = nat_lt 0 n
stands_at letters.Move phases.Moves n = true
stands_at letters.Move phases.Goals n = false
stands_at letters.Outcome phases.Begin n = false
stands_at letters.Outcome phases.Positions n = false
stands_at letters.Outcome phases.Moves n = true
stands_at letters.Outcome phases.Goals n = false
stands_at letters.Goal phases.Begin n = false
stands_at letters.Goal phases.Positions n = nat_lt 0 n
stands_at letters.Goal phases.Moves n = true
stands_at letters.Goal phases.Goals n = true
stands_at letters.Unknown p n = false

abbrev pub hand : List ℕ
hand = codes "hand"

abbrev pub cycle : List ℕ
cycle = codes "cycle"

-- the field q of the line p as the word for a kind of time
abbrev pub kind_field : ℕ → Place → Place → Result Shown Fault
kind_field line p q = cond (bytes_eq q.bytes hand || bytes_eq q.bytes cycle) (Ok (word q)) (refused Line (spots.Line line) p)

-- what a field writes down; a field of another sort writes down nothing
abbrev pub time_in : Shown → PlanTime
time_in (word p) = cond (bytes_eq p.bytes hand) Hand Cycle
time_in (number v p) = Cycle
time_in (clocks ms p) = Cycle
time_in (bounds b p) = Cycle

abbrev pub number_in : Shown → ℕ
number_in (word p) = 0
number_in (number v p) = v
number_in (clocks ms p) = 0
number_in (bounds b p) = 0

abbrev pub box_in : Shown → ClockBox
box_in (word p) = record { sides = no_sides }
box_in (number v p) = record { sides = no_sides }
box_in (clocks ms p) = record { sides = no_sides }
box_in (bounds b p) = b

abbrev pub clocks_in : Shown → List Bool
clocks_in (word p) = replicate 8 false
clocks_in (number v p) = replicate 8 false
clocks_in (clocks ms p) = ms
clocks_in (bounds b p) = replicate 8 false
