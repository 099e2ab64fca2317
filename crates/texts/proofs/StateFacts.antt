-- Each accepted line keeps what holds between two lines.
use Rattle.std.proofs.Common.{◌≡◌, ℕ, ◌+◌, ◌-◌, ◌<◌, ◌≤◌, Bool, true, List, length, get_or, set, Ok, Err, Result, sym, refl, ap, ◌∙◌, subst, arith, length-set, get_or-set_same}
use Rattle.std.proofs.lemmas.Bool.{and_parts, ltb-true}
use Rattle.bounds.specs.declared.refusal.Refusal.TheVariants.{Order, Number, Name, Rows}
use Rattle.byte_text.specs.Parts.{Place, tail_places}
use Rattle.plans.specs.declared.rows.Position.{Position}
use Rattle.plans.specs.declared.rows.Move.{Move}
use Rattle.plans.specs.declared.rows.Outcome.{Outcome}
use Rattle.plans.specs.declared.rows.Goal.{Goal}
use Rattle.plans.specs.RowLists.{Kept, put, move_row, no_move, raised}
use Rattle.texts.specs.declared.words.Letter.{Letter}
use Rattle.texts.specs.declared.words.Letter.TheVariants as letters
use Rattle.texts.specs.declared.words.Phase.TheVariants as phases
use Rattle.texts.specs.Faults.{Fault, on, field_next, no_field, demanded, fields_of}
use Rattle.texts.specs.Fields.{Shown, number_field, clocks_field}
use Rattle.texts.specs.BoxFields.{box_field}
use Rattle.texts.specs.Words.{letter_of, stands_at, kind_field}
use Rattle.texts.specs.PlanRows.{has_room, open_sum, raised_open}
use Rattle.texts.specs.RowReads.{position_read, move_read, outcome_read, goal_read}
use Rattle.texts.specs.States.{State, Sound}
use Rattle.texts.specs.Lines.{settled_by, time_line, position_line, move_line, outcome_line, goal_line, line_of, stepped}
use Rattle.texts.proofs.LineFacts.{demanded_true, stands_outcome, field_high}

-- what came first was accepted too
pub on_ok : {X Y : Type 0} (r : Result X Fault) (f : X → Result Y Fault) (t : Y) → Ok t ≡ on r f → (x : X) × (Ok x ≡ r) × (Ok t ≡ f x)
on_ok (Ok x) f t e = (x, refl, e)
on_ok (Err g) f t e = absurd (let z : ◌≡◌ {A = ℕ} 0 1 = cc in omega arith)

pub ok_same : {X : Type 0} (x y : X) → ◌≡◌ {A = Result X Fault} (Ok x) (Ok y) → x ≡ y
ok_same x y e = cc

pub room_parts : {R : Type 0} (limit : ℕ) (k : Kept R) → has_room limit k ≡ true → (k.used < limit) × (k.used < length k.rows)
room_parts limit k h = let p = and_parts _ _ h in (ltb-true _ _ p.0, ltb-true _ _ p.1)

-- a row that is put last is the open one
pub opens : (l : Kept Move) (row : Move) → l.used < length l.rows → open_sum (put l row) ≡ row.sum
opens l row lt =
    let last : l.used + 1 - 1 ≡ l.used = omega arith in
    ap (λ (k : ℕ). (get_or (set l.rows l.used row) k no_move).sum) last ∙ ap (λ (m : Move). m.sum) (get_or-set_same l.rows l.used row no_move lt)

pub raises : (c : ℕ) (l : Kept Move) → 1 ≤ l.used → l.used ≤ length l.rows → open_sum (raised_open c l) ≡ open_sum l + c
raises c l one fits = ap (λ (m : Move). m.sum) (get_or-set_same l.rows (l.used - 1) (raised (move_row l l.used) c) no_move (omega arith))

time_sound : (s t : State) (line : ℕ) (p : Place) (ps : List Place) → Sound s → Ok t ≡ time_line s line p ps → Sound t
time_sound s t line p ps h e =
    let a = on_ok {X = Place} (field_next line p ps) _ t e in
    let b = on_ok {X = Place} (field_next line p (tail_places ps)) _ t a.2 in
    let c = on_ok {X = Unit {0}} (no_field line p (tail_places (tail_places ps))) _ t b.2 in
    let d = on_ok {X = Shown} (kind_field line p a.0) _ t c.2 in
    let f = on_ok {X = Unit {0}} (demanded (stands_at letters.Time s.phase s.rows.positions.used) Order line p) _ t d.2 in
    let g = on_ok {X = Shown} (number_field 1 8 Number line 3 b.0) _ t f.2 in
    let is = ok_same t _ g.2 in
    let ph : t.phase ≡ phases.Positions = ap (λ (x : State). x.phase) is in
    let no : t.phase ≡ phases.Moves → ⊥ = λ m. let z : ◌≡◌ {A = ℕ} 0 1 = cc in omega arith in
    record { few = rw is h.few; counted = rw is (field_high 1 8 Number line 3 b.0 g.0 g.1); outcomes = rw is h.outcomes; some = λ m. absurd (no m); fits = rw is h.fits; sums = λ m. absurd (no m) }

-- what a row that was read has
pub record ReadOutcome (may : Bool) (row : Outcome) : Type 0 where
  pub stands : may ≡ true
  pub chance : row.chance ≤ 1000

outcome_facts : (may : Bool) (cause known clocks line : ℕ) (p : Place) (ps : List Place) (row : Outcome) → Ok row ≡ outcome_read may cause known clocks line p ps → ReadOutcome may row
outcome_facts may cause known n line p ps row e =
    let a = on_ok {X = Place} (field_next line p ps) _ row e in
    let b = on_ok {X = Place} (field_next line p (tail_places ps)) _ row a.2 in
    let b' = on_ok {X = Place} (field_next line p (tail_places (tail_places ps))) _ row b.2 in
    let c = on_ok {X = Unit {0}} (no_field line p (tail_places (tail_places (tail_places ps)))) _ row b'.2 in
    let d = on_ok {X = Unit {0}} (demanded may Order line p) _ row c.2 in
    let f = on_ok {X = Shown} (number_field 0 1000 Number line 2 a.0) _ row d.2 in
    let g = on_ok {X = Shown} (number_field 1 known Name line 3 b.0) _ row f.2 in
    let k = on_ok {X = Shown} (clocks_field n line 4 b'.0) _ row g.2 in
    let is = ok_same row _ k.2 in
    record { stands = demanded_true may Order line p d.1; chance = omega (arith, ap (λ (x : Outcome). x.chance) is, field_high 0 1000 Number line 2 a.0 f.0 f.1) }

move_facts : (may : Bool) (known clocks line : ℕ) (p : Place) (ps : List Place) (row : Move) → Ok row ≡ move_read may known clocks line p ps → row.sum ≡ 0
move_facts may known n line p ps row e =
    let a = on_ok {X = Place} (field_next line p ps) _ row e in
    let a' = on_ok {X = Place} (field_next line p (tail_places ps)) _ row a.2 in
    let b = on_ok {X = Unit {0}} (no_field line p (tail_places (tail_places ps))) _ row a'.2 in
    let c = on_ok {X = Unit {0}} (demanded may Order line p) _ row b.2 in
    let d = on_ok {X = Shown} (number_field 1 known Name line 2 a.0) _ row c.2 in
    let g = on_ok {X = Shown} (box_field n line 3 a'.0) _ row d.2 in
    ap (λ (x : Move). x.sum) (ok_same row _ g.2)

position_sound : (s t : State) (line : ℕ) (p : Place) (ps : List Place) → Sound s → Ok t ≡ position_line s line p ps → Sound t
position_sound s t line p ps h e =
    let r = on_ok {X = Position} (position_read (stands_at letters.Position s.phase s.rows.positions.used) s.clocks line p ps) _ t e in
    let f = on_ok {X = Unit {0}} (demanded (has_room 64 s.rows.positions) Rows line p) _ t r.2 in
    let room = room_parts 64 s.rows.positions (demanded_true (has_room 64 s.rows.positions) Rows line p f.1) in
    let is = ok_same t _ f.2 in
    subst Sound (sym is) (record { few = omega (arith, room.0); counted = h.counted; outcomes = h.outcomes; some = h.some; fits = h.fits; sums = h.sums })

move_sound : (s t : State) (line : ℕ) (p : Place) (ps : List Place) → Sound s → Ok t ≡ move_line s line p ps → Sound t
move_sound s t line p ps h e =
    let r = on_ok {X = Move} (move_read (stands_at letters.Move s.phase s.rows.positions.used) s.rows.positions.used s.clocks line p ps) _ t e in
    let f = on_ok {X = Unit {0}} (demanded (has_room 256 s.rows.moves) Rows line p) _ t r.2 in
    let room = room_parts 256 s.rows.moves (demanded_true (has_room 256 s.rows.moves) Rows line p f.1) in
    let is = ok_same t _ f.2 in
    let none = move_facts (stands_at letters.Move s.phase s.rows.positions.used) s.rows.positions.used s.clocks line p ps r.0 r.1 in
    let sum = opens s.rows.moves r.0 room.1 in
    subst Sound (sym is) (record { few = h.few; counted = h.counted; outcomes = h.outcomes; some = λ _. omega arith; fits = simp length-set (omega (arith, room.1)); sums = λ _. omega (arith, sum, none) })

outcome_sound : (s t : State) (line : ℕ) (p : Place) (ps : List Place) → Sound s → Ok t ≡ outcome_line s line p ps → Sound t
outcome_sound s t line p ps h e =
    let r = on_ok {X = Outcome} (outcome_read (stands_at letters.Outcome s.phase s.rows.positions.used) s.rows.moves.used s.rows.positions.used s.clocks line p ps) _ t e in
    let i = on_ok {X = Unit {0}} (demanded (has_room 512 s.rows.outcomes) Rows line p) _ t r.2 in
    let read = outcome_facts (stands_at letters.Outcome s.phase s.rows.positions.used) s.rows.moves.used s.rows.positions.used s.clocks line p ps r.0 r.1 in
    let mv = stands_outcome s.phase s.rows.positions.used read.stands in
    let one = h.some mv in
    let sums = h.sums mv in
    let room = room_parts 512 s.rows.outcomes (demanded_true (has_room 512 s.rows.outcomes) Rows line p i.1) in
    let is = ok_same t _ i.2 in
    let sum = raises r.0.chance s.rows.moves one h.fits in
    subst Sound (sym is) (record { few = h.few; counted = h.counted; outcomes = omega (arith, room.0); some = h.some; fits = simp length-set h.fits; sums = λ _. omega (arith, sum, sums, read.chance) })

goal_sound : (s t : State) (line : ℕ) (p : Place) (ps : List Place) → Sound s → Ok t ≡ goal_line s line p ps → Sound t
goal_sound s t line p ps h e =
    let r = on_ok {X = Goal} (goal_read (stands_at letters.Goal s.phase s.rows.positions.used) s.rows.positions.used s.clocks line p ps) _ t e in
    let f = on_ok {X = Unit {0}} (demanded (has_room 64 s.rows.goals) Rows line p) _ t r.2 in
    let is = ok_same t _ f.2 in
    let ph : t.phase ≡ phases.Goals = ap (λ (x : State). x.phase) is in
    let no : t.phase ≡ phases.Moves → ⊥ = λ m. let z : ◌≡◌ {A = ℕ} 0 1 = cc in omega arith in
    record { few = rw is h.few; counted = rw is h.counted; outcomes = rw is h.outcomes; some = λ m. absurd (no m); fits = rw is h.fits; sums = λ m. absurd (no m) }

line_sound : (l : Letter) (s t : State) (line : ℕ) (p : Place) (ps : List Place) → Sound s → Ok t ≡ line_of l s line p ps → Sound t
line_sound letters.Time s t line p ps h e = time_sound s t line p ps h e
line_sound letters.Position s t line p ps h e = position_sound s t line p ps h e
line_sound letters.Move s t line p ps h e = move_sound s t line p ps h e
line_sound letters.Outcome s t line p ps h e = outcome_sound s t line p ps h e
line_sound letters.Goal s t line p ps h e = goal_sound s t line p ps h e
line_sound letters.Unknown s t line p ps h e = absurd (let z : ◌≡◌ {A = ℕ} 0 1 = cc in omega arith)

pub step_sound : (s t : State) (line : ℕ) (p : Place) → Sound s → Ok t ≡ stepped s line p → Sound t
step_sound s t line p h e =
    let a = on_ok {X = Place} (field_next line p (fields_of p)) _ t e in
    let b = on_ok {X = Unit {0}} (settled_by (letter_of a.0.bytes) s) _ t a.2 in
    line_sound (letter_of a.0.bytes) s t line p (tail_places (fields_of p)) h b.2
