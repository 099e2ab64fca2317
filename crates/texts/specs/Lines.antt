-- What one line does.
use Rattle.std.specs.Prelude.{ℕ, Bool, cond, not, ◌&&◌, List, Ok, Result, ◌==◌}
use Rattle.bounds.specs.declared.refusal.Refusal.TheVariants.{Line, Order, Number, Chance, Rows}
use Rattle.byte_text.specs.Parts.{Place, tail_places}
use Rattle.plans.specs.declared.rows.Position.{Position}
use Rattle.plans.specs.declared.rows.Move.{Move}
use Rattle.plans.specs.declared.rows.Outcome.{Outcome}
use Rattle.plans.specs.declared.rows.Goal.{Goal}
use Rattle.plans.specs.RowLists.{put}
use Rattle.texts.specs.declared.header.Header.{Header}
use Rattle.texts.specs.declared.words.Letter.{Letter}
use Rattle.texts.specs.declared.words.Letter.TheVariants as letters
use Rattle.texts.specs.declared.words.Phase.TheVariants as phases
use Rattle.texts.specs.declared.spot.Spot.TheVariants as spots
use Rattle.texts.specs.Faults.{Fault, refused, on, field_next, no_field, demanded, fields_of}
use Rattle.texts.specs.Fields.{number_field}
use Rattle.texts.specs.RowReads.{position_read, move_read, outcome_read, goal_read}
use Rattle.texts.specs.Words.{letter_of, is_moves, is_outcome, stands_at, kind_field, time_in, number_in}
use Rattle.texts.specs.PlanRows.{Tables, has_room, open_sum, raised_open}
use Rattle.texts.specs.States.{State}

-- the chances of the open move do not add up
abbrev pub unsummed : State → Bool
unsummed s = is_moves s.phase && not (open_sum s.rows.moves == 1000)

-- the open move, if any, may end
abbrev pub settled : State → Result (Unit {0}) Fault
settled s = cond (unsummed s) (refused Chance (spots.Line s.opened) s.opening) (Ok tt)

abbrev pub settled_by : Letter → State → Result (Unit {0}) Fault
settled_by l s = cond (is_outcome l) (Ok tt) (settled s)

abbrev pub with_position : Tables → Position → Tables
with_position t x = record { positions = put t.positions x; moves = t.moves; outcomes = t.outcomes; goals = t.goals }

abbrev pub with_move : Tables → Move → Tables
with_move t x = record { positions = t.positions; moves = put t.moves x; outcomes = t.outcomes; goals = t.goals }

-- the row, and its chance in the sum of its move
abbrev pub with_outcome : Tables → Outcome → Tables
with_outcome t x = record { positions = t.positions; moves = raised_open x.chance t.moves; outcomes = put t.outcomes x; goals = t.goals }

abbrev pub with_goal : Tables → Goal → Tables
with_goal t x = record { positions = t.positions; moves = t.moves; outcomes = t.outcomes; goals = put t.goals x }

-- the state after a line that leaves all but the rows
abbrev pub with_rows : State → Tables → State
with_rows s t = record { phase = s.phase; time = s.time; clocks = s.clocks; opened = s.opened; opening = s.opening; rows = t }

-- each line in the order in which it is refused: field count, word, order, fields from the left, rows
abbrev pub time_line : State → ℕ → Place → List Place → Result State Fault
time_line s line p ps =
    on (field_next line p ps) (λ a.
    on (field_next line p (tail_places ps)) (λ b.
    on (no_field line p (tail_places (tail_places ps))) (λ _.
    on (kind_field line p a) (λ k.
    on (demanded (stands_at letters.Time s.phase s.rows.positions.used) Order line p) (λ _.
    on (number_field 1 8 Number line 3 b) (λ n.
    Ok (record { phase = phases.Positions; time = time_in k; clocks = number_in n; opened = s.opened; opening = s.opening; rows = s.rows })))))))

abbrev pub position_line : State → ℕ → Place → List Place → Result State Fault
position_line s line p ps =
    on (position_read (stands_at letters.Position s.phase s.rows.positions.used) s.clocks line p ps) (λ row.
    on (demanded (has_room 64 s.rows.positions) Rows line p) (λ _.
    Ok (with_rows s (with_position s.rows row))))

abbrev pub move_line : State → ℕ → Place → List Place → Result State Fault
move_line s line p ps =
    on (move_read (stands_at letters.Move s.phase s.rows.positions.used) s.rows.positions.used s.clocks line p ps) (λ row.
    on (demanded (has_room 256 s.rows.moves) Rows line p) (λ _.
    Ok (record { phase = phases.Moves; time = s.time; clocks = s.clocks; opened = line; opening = p; rows = with_move s.rows row })))

abbrev pub outcome_line : State → ℕ → Place → List Place → Result State Fault
outcome_line s line p ps =
    on (outcome_read (stands_at letters.Outcome s.phase s.rows.positions.used) s.rows.moves.used s.rows.positions.used s.clocks line p ps) (λ row.
    on (demanded (has_room 512 s.rows.outcomes) Rows line p) (λ _.
    Ok (with_rows s (with_outcome s.rows row))))

abbrev pub goal_line : State → ℕ → Place → List Place → Result State Fault
goal_line s line p ps =
    on (goal_read (stands_at letters.Goal s.phase s.rows.positions.used) s.rows.positions.used s.clocks line p ps) (λ row.
    on (demanded (has_room 64 s.rows.goals) Rows line p) (λ _.
    Ok (record { phase = phases.Goals; time = s.time; clocks = s.clocks; opened = s.opened; opening = s.opening; rows = with_goal s.rows row })))

-- the line of this letter, with the fields ps after it
abbrev pub line_of : Letter → State → ℕ → Place → List Place → Result State Fault
line_of letters.Time s line p ps = time_line s line p ps
line_of letters.Position s line p ps = position_line s line p ps
line_of letters.Move s line p ps = move_line s line p ps
line_of letters.Outcome s line p ps = outcome_line s line p ps
line_of letters.Goal s line p ps = goal_line s line p ps
line_of letters.Unknown s line p ps = refused Line (spots.Line line) p

-- what a line p does: first the open move, then the line itself
abbrev pub stepped : State → ℕ → Place → Result State Fault
stepped s line p =
    on (field_next line p (fields_of p)) (λ first.
    on (settled_by (letter_of first.bytes) s) (λ _.
    line_of (letter_of first.bytes) s line p (tail_places (fields_of p))))

unfoldable pub step : State → ℕ → Place → Result State Fault
step s line p = stepped s line p

-- a line with no end
abbrev pub torn_line : State → ℕ → Place → Result Header Fault
torn_line s line p =
    on (field_next line p (fields_of p)) (λ first.
    on (settled_by (letter_of first.bytes) s) (λ _.
    refused Line (spots.Line line) p))

abbrev pub header_of : State → Header
header_of s = record { time = s.time; clocks = s.clocks }

-- the end of the text, of which p is the empty rest
abbrev pub finished : State → ℕ → Place → Result Header Fault
finished s line p =
    on (settled s) (λ _.
    on (demanded (stands_at letters.Goal s.phase s.rows.positions.used) Order line p) (λ _.
    Ok (header_of s)))
