-- An accepted line says something that may stand there.
use Rattle.std.proofs.Common.{◌≡◌, ℕ, ◌+◌, ◌^◌, ◌<◌, ◌≤◌, Bool, true, false, cond, not, ◌||◌, eqb, ◌⊎◌, List, [], ◌∷◌, ◌++◌, Some, None, Ok, Err, decimal, Option, Result, sym, refl, ap, ◌∙◌, inl, inr, ⊎_elim, arith, lit<}
use Rattle.std.proofs.lemmas.Bool.Decides.{nat_tests}
use Rattle.std.proofs.lemmas.Slice.Eq.{bytes_eq-Decides}
use Rattle.std.proofs.lemmas.Bool.{true≢false}
use Rattle.std.specs.Str.{bytes_eq}
use Rattle.bounds.specs.declared.refusal.Refusal.{Refusal}
use Rattle.bounds.specs.declared.refusal.Refusal.TheVariants.{Line, Order, Number, Name, Chance, Rows}
use Rattle.bounds.specs.declared.time.PlanTime.TheVariants.{Cycle, Hand}
use Rattle.zones.specs.declared.boxes.Side.{Side}
use Rattle.zones.specs.declared.boxes.ClockBox.{ClockBox}
use Rattle.byte_text.specs.Numerals.{number_to}
use Rattle.byte_text.specs.Parts.{Place, tail_places}
use Rattle.byte_text.proofs.Spelling.{number_there, joins, joins_parted}
use Rattle.texts.specs.declared.words.Letter.{Letter}
use Rattle.texts.specs.declared.words.Letter.TheVariants as letters
use Rattle.texts.specs.declared.words.Phase.TheVariants as phases
use Rattle.texts.specs.declared.spot.Spot.TheVariants as spots
use Rattle.texts.specs.Faults.{refused, field_next, no_field, demanded, fields_of}
use Rattle.texts.specs.Fields.{Shown, word, number, clocks, bounds, number_field, in_range, clocks_field, listed, clock_list}
use Rattle.texts.specs.BoxFields.{box_field, boxed, box_of}
use Rattle.texts.specs.Words.{letter_of, stands_at, kind_field, time_in, number_in, box_in, clocks_in, hand, cycle}
use Rattle.texts.specs.PlanRows.{has_room}
use Rattle.texts.specs.RowReads.{position_read, move_read, outcome_read, goal_read}
use Rattle.plans.specs.declared.rows.Position.{Position}
use Rattle.plans.specs.declared.rows.Move.{Move}
use Rattle.plans.specs.declared.rows.Outcome.{Outcome}
use Rattle.plans.specs.declared.rows.Goal.{Goal}
use Rattle.texts.specs.States.{State, Sound}
use Rattle.texts.specs.Lines.{settled, settled_by, unsummed, time_line, position_line, move_line, outcome_line, goal_line, line_of, stepped, with_position, with_move, with_outcome, with_goal, with_rows}
use Rattle.grammar.specs.BoxesWritten.{BoundText, spell_box, FineBound, All, box_by}
use Rattle.grammar.specs.Written.{LineText, time, position, move, outcome, goal, kind, spell}
use Rattle.grammar.proofs.Standing.{summed, Stands}
use Rattle.texts.proofs.LineFacts.{demanded_true}
use Rattle.texts.proofs.StateFacts.{on_ok, ok_same}
use Rattle.grammar.proofs.BoxSpelling.{box_only}
use Rattle.grammar.proofs.ClockSpelling.{clocks_only}
use Rattle.grammar.proofs.Back.{bare, next}

next_field : (line : ℕ) (p a : Place) (ps : List Place) → Ok a ≡ field_next line p ps → ps ≡ a ∷ tail_places ps
next_field line p a [] e = absurd (let z : ◌≡◌ {A = ℕ} 0 1 = cc in omega arith)
next_field line p a (q ∷ qs) e = let is : q ≡ a = cc in ap (λ x. x ∷ qs) is

last_field : (line : ℕ) (p : Place) (u : Unit {0}) (ps : List Place) → Ok u ≡ no_field line p ps → ps ≡ []
last_field line p u [] e = refl
last_field line p u (q ∷ qs) e = absurd (let z : ◌≡◌ {A = ℕ} 0 1 = cc in omega arith)

ranged : (low high : ℕ) (out : Refusal) (line field : ℕ) (p : Place) (o : Option ℕ) (f : Shown) → Ok f ≡ in_range low high out line field p o → (o ≡ Some (number_in f)) × (low ≤ number_in f) × (number_in f ≤ high)
ranged low high out line field p None f e = absurd (let z : ◌≡◌ {A = ℕ} 0 1 = cc in omega arith)
ranged low high out line field p (Some v) (word q) e = absurd (let z : ◌≡◌ {A = ℕ} 0 1 = grind (arith, nat_tests) in omega arith)
ranged low high out line field p (Some v) (number w q) e = let is : v ≡ w = grind (arith, nat_tests) in let l : low ≤ w = grind (arith, nat_tests) in let h : w ≤ high = grind (arith, nat_tests) in (ap (λ x. Some x) is, l, h)
ranged low high out line field p (Some v) (clocks ms q) e = absurd (let z : ◌≡◌ {A = ℕ} 0 1 = grind (arith, nat_tests) in omega arith)
ranged low high out line field p (Some v) (bounds b q) e = absurd (let z : ◌≡◌ {A = ℕ} 0 1 = grind (arith, nat_tests) in omega arith)

field_there : (low high : ℕ) (out : Refusal) (line field : ℕ) (p : Place) (f : Shown) → high < 2 ^ 62 → Ok f ≡ number_field low high out line field p → (low ≤ number_in f) × (number_in f ≤ high) × (p.bytes ≡ decimal (number_in f))
field_there low high out line field p f small e =
    let r = ranged low high out line field p (number_to (high + 1) p.bytes) f e in
    (r.1, r.2, number_there (high + 1) (number_in f) p.bytes (omega arith) (omega (arith, r.2)) (sym r.0))

boxed_there : (line field : ℕ) (p : Place) (r : Result (List Side) Refusal) (f : Shown) → Ok f ≡ boxed line field p r → (sides : List Side) × (box_in f ≡ record { sides = sides }) × (Ok sides ≡ r)
boxed_there line field p (Ok b) f e = let is : f ≡ bounds (record { sides = b }) p = cc in (b, ap box_in is, refl)
boxed_there line field p (Err g) f e = absurd (let z : ◌≡◌ {A = ℕ} 0 1 = cc in omega arith)

-- a box that was read, as it is written
record BoxThere (n : ℕ) (p : Place) (f : Shown) : Type 0 where
  marks : List BoundText
  spelt : p.bytes ≡ spell_box marks
  fine : All (FineBound n) marks
  is : box_in f ≡ box_by marks

box_there : (n line field : ℕ) (p : Place) (f : Shown) → n ≤ 8 → Ok f ≡ box_field n line field p → BoxThere n p f
box_there n line field p f few e =
    let r = boxed_there line field p (box_of n p) f e in
    let w = box_only n p r.0 few r.2 in
    record { marks = w.marks; spelt = w.spelt; fine = w.fine; is = r.1 ∙ ap (λ (x : List Side). record { sides = x }) w.box }

listed_there : (line field : ℕ) (p : Place) (r : Result (List Bool) Refusal) (f : Shown) → Ok f ≡ listed line field p r → Ok (clocks_in f) ≡ r
listed_there line field p (Ok ms) f e = let is : f ≡ clocks ms p = cc in ap (λ x. Ok (clocks_in x)) is
listed_there line field p (Err g) f e = absurd (let z : ◌≡◌ {A = ℕ} 0 1 = cc in omega arith)

word_there : (b : Bool) (x k : Shown) (line : ℕ) (p : Place) → Ok k ≡ cond b (Ok x) (refused Line (spots.Line line) p) → (b ≡ true) × (k ≡ x)
word_there true x k line p e = let is : k ≡ x = cc in (refl, is)
word_there false x k line p e = absurd (let z : ◌≡◌ {A = ℕ} 0 1 = cc in omega arith)

either_kind : (h c : Bool) (bs : List ℕ) → (h ≡ true → bs ≡ hand) → (c ≡ true → bs ≡ cycle) → (h || c) ≡ true → bs ≡ kind (cond h Hand Cycle)
either_kind true c bs f g e = f refl
either_kind false c bs f g e = g e

kind_there : (line : ℕ) (p a : Place) (k : Shown) → Ok k ≡ kind_field line p a → a.bytes ≡ kind (time_in k)
kind_there line p a k e =
    let r = word_there (bytes_eq a.bytes hand || bytes_eq a.bytes cycle) (word a) k line p e in
    either_kind (bytes_eq a.bytes hand) (bytes_eq a.bytes cycle) a.bytes (bytes_eq-Decides a.bytes hand).0 (bytes_eq-Decides a.bytes cycle).0 r.0
    ∙ ap (λ (x : Shown). kind (time_in x)) (sym r.1)

pub settled_there : (s : State) (u : Unit {0}) → Ok u ≡ settled s → summed (bare s) ≡ true
settled_there s u e = elim (unsummed s) as (λ t. Ok u ≡ cond t (refused Chance (spots.Line s.opened) s.opening) (Ok tt) → not t ≡ true) [ true ↦ λ e. absurd (let z : ◌≡◌ {A = ℕ} 0 1 = cc in omega arith) | false ↦ λ e. refl ] e

-- the letter's byte
abbrev byte_of : Letter → ℕ
byte_of letters.Time = 84
byte_of letters.Position = 80
byte_of letters.Move = 77
byte_of letters.Outcome = 79
byte_of letters.Goal = 71
byte_of letters.Unknown = 0

letter_byte : (x : ℕ) → (letter_of (x ∷ []) ≡ letters.Unknown) ⊎ (x ≡ byte_of (letter_of (x ∷ [])))
letter_byte x =
    elim (eqb x 84) as (λ t. (t ≡ true → x ≡ 84) → (cond t letters.Time (cond (eqb x 80) letters.Position (cond (eqb x 77) letters.Move (cond (eqb x 79) letters.Outcome (cond (eqb x 71) letters.Goal letters.Unknown)))) ≡ letters.Unknown) ⊎ (x ≡ byte_of (cond t letters.Time (cond (eqb x 80) letters.Position (cond (eqb x 77) letters.Move (cond (eqb x 79) letters.Outcome (cond (eqb x 71) letters.Goal letters.Unknown))))))) [
      | true ↦ λ h. inr (h refl)
      | false ↦ λ _. elim (eqb x 80) as (λ t. (t ≡ true → x ≡ 80) → (cond t letters.Position (cond (eqb x 77) letters.Move (cond (eqb x 79) letters.Outcome (cond (eqb x 71) letters.Goal letters.Unknown))) ≡ letters.Unknown) ⊎ (x ≡ byte_of (cond t letters.Position (cond (eqb x 77) letters.Move (cond (eqb x 79) letters.Outcome (cond (eqb x 71) letters.Goal letters.Unknown)))))) [
        | true ↦ λ h. inr (h refl)
        | false ↦ λ _. elim (eqb x 77) as (λ t. (t ≡ true → x ≡ 77) → (cond t letters.Move (cond (eqb x 79) letters.Outcome (cond (eqb x 71) letters.Goal letters.Unknown)) ≡ letters.Unknown) ⊎ (x ≡ byte_of (cond t letters.Move (cond (eqb x 79) letters.Outcome (cond (eqb x 71) letters.Goal letters.Unknown))))) [
          | true ↦ λ h. inr (h refl)
          | false ↦ λ _. elim (eqb x 79) as (λ t. (t ≡ true → x ≡ 79) → (cond t letters.Outcome (cond (eqb x 71) letters.Goal letters.Unknown) ≡ letters.Unknown) ⊎ (x ≡ byte_of (cond t letters.Outcome (cond (eqb x 71) letters.Goal letters.Unknown)))) [
            | true ↦ λ h. inr (h refl)
            | false ↦ λ _. elim (eqb x 71) as (λ t. (t ≡ true → x ≡ 71) → (cond t letters.Goal letters.Unknown ≡ letters.Unknown) ⊎ (x ≡ byte_of (cond t letters.Goal letters.Unknown))) [
              | true ↦ λ h. inr (h refl)
              | false ↦ λ _. inl refl
            ] (λ t. grind (arith, nat_tests))
          ] (λ t. grind (arith, nat_tests))
        ] (λ t. grind (arith, nat_tests))
      ] (λ t. grind (arith, nat_tests))
    ] (λ t. grind (arith, nat_tests))

letter_there : (bs : List ℕ) (l : Letter) → letter_of bs ≡ l → (l ≡ letters.Unknown → ⊥) → bs ≡ byte_of l ∷ []
letter_there [] l e ne = absurd (ne (sym e))
letter_there (x ∷ []) l e ne = ⊎_elim (λ u. absurd (ne (sym e ∙ u))) (λ h. ap (λ y. y ∷ []) (h ∙ ap byte_of e)) (letter_byte x)
letter_there (x ∷ (y ∷ ys)) l e ne = absurd (ne (sym e ∙ long)) where
  long : letter_of (x ∷ (y ∷ ys)) ≡ letters.Unknown
  long = grind (arith, nat_tests)

-- the line that was read
pub record Said (s t : State) (line : ℕ) (p : Place) : Type 0 where
  pub item : LineText
  pub spelt : p.bytes ≡ spell item
  pub stands : Stands (bare s) item
  pub leads : t ≡ next s line p item

known : (s : State) → Sound s → s.rows.positions.used < 2 ^ 62
known s h = omega (arith, h.few)

-- the bytes of a line from its fields
bytes_one : (p first a : Place) → fields_of p ≡ first ∷ a ∷ [] → p.bytes ≡ first.bytes ++ (9 ∷ a.bytes)
bytes_one p first a e = sym (joins_parted 9 p.at p.bytes) ∙ ap (joins 9) e

bytes_two : (p first a b : Place) → fields_of p ≡ first ∷ a ∷ b ∷ [] → p.bytes ≡ first.bytes ++ (9 ∷ (a.bytes ++ (9 ∷ b.bytes)))
bytes_two p first a b e = sym (joins_parted 9 p.at p.bytes) ∙ ap (joins 9) e

bytes_three : (p first a b c : Place) → fields_of p ≡ first ∷ a ∷ b ∷ c ∷ [] → p.bytes ≡ first.bytes ++ (9 ∷ (a.bytes ++ (9 ∷ (b.bytes ++ (9 ∷ c.bytes)))))
bytes_three p first a b c e = sym (joins_parted 9 p.at p.bytes) ∙ ap (joins 9) e

shape_one : (line : ℕ) (p a : Place) (u : Unit {0}) (ps : List Place) → Ok a ≡ field_next line p ps → Ok u ≡ no_field line p (tail_places ps) → ps ≡ a ∷ []
shape_one line p a u ps e f = next_field line p a ps e ∙ ap (λ l. a ∷ l) (last_field line p u (tail_places ps) f)

shape_two : (line : ℕ) (p a b : Place) (u : Unit {0}) (ps : List Place) → Ok a ≡ field_next line p ps → Ok b ≡ field_next line p (tail_places ps) → Ok u ≡ no_field line p (tail_places (tail_places ps)) → ps ≡ a ∷ b ∷ []
shape_two line p a b u ps e f g = next_field line p a ps e ∙ ap (λ l. a ∷ l) (shape_one line p b u (tail_places ps) f g)

shape_three : (line : ℕ) (p a b c : Place) (u : Unit {0}) (ps : List Place) → Ok a ≡ field_next line p ps → Ok b ≡ field_next line p (tail_places ps) → Ok c ≡ field_next line p (tail_places (tail_places ps)) → Ok u ≡ no_field line p (tail_places (tail_places (tail_places ps))) → ps ≡ a ∷ b ∷ c ∷ []
shape_three line p a b c u ps e f g h = next_field line p a ps e ∙ ap (λ l. a ∷ l) (shape_two line p b c u (tail_places ps) f g h)

module _ (s t : State) (line : ℕ) (p first : Place) (sound : Sound s) (all : fields_of p ≡ first ∷ tail_places (fields_of p)) where
  position_said : first.bytes ≡ 80 ∷ [] → summed (bare s) ≡ true → Ok t ≡ position_line s line p (tail_places (fields_of p)) → Said s t line p
  position_said byte sum e =
      let ps = tail_places (fields_of p) in
      let r = on_ok {X = Position} (position_read (stands_at letters.Position s.phase s.rows.positions.used) s.clocks line p ps) _ t e in
      let a = on_ok {X = Place} (field_next line p ps) _ r.0 r.1 in
      let b = on_ok {X = Unit {0}} (no_field line p (tail_places ps)) _ r.0 a.2 in
      let c = on_ok {X = Unit {0}} (demanded (stands_at letters.Position s.phase s.rows.positions.used) Order line p) _ r.0 b.2 in
      let d = on_ok {X = Shown} (box_field s.clocks line 2 a.0) _ r.0 c.2 in
      let f = on_ok {X = Unit {0}} (demanded (has_room 64 s.rows.positions) Rows line p) _ t r.2 in
      let w = box_there s.clocks line 2 a.0 d.0 sound.counted d.1 in
      let shape = all ∙ ap (λ l. first ∷ l) (shape_one line p a.0 b.0 ps a.1 b.1) in
      record {
        item = position w.marks;
        spelt = bytes_one p first a.0 shape ∙ (λ i. byte i ++ (9 ∷ w.spelt i));
        stands = record { order = demanded_true _ Order line p c.1; chances = λ _. sum; range = w.fine; room = demanded_true _ Rows line p f.1 };
        leads = ok_same t (with_rows s (with_position s.rows r.0)) f.2 ∙ ap (λ (x : Position). with_rows s (with_position s.rows x)) (ok_same r.0 (record { invariant = box_in d.0 }) d.2 ∙ ap (λ (b : ClockBox). record { invariant = b }) w.is);
      }

  move_said : first.bytes ≡ 77 ∷ [] → summed (bare s) ≡ true → Ok t ≡ move_line s line p (tail_places (fields_of p)) → Said s t line p
  move_said byte sum e =
      let ps = tail_places (fields_of p) in
      let r = on_ok {X = Move} (move_read (stands_at letters.Move s.phase s.rows.positions.used) s.rows.positions.used s.clocks line p ps) _ t e in
      let a = on_ok {X = Place} (field_next line p ps) _ r.0 r.1 in
      let a' = on_ok {X = Place} (field_next line p (tail_places ps)) _ r.0 a.2 in
      let b = on_ok {X = Unit {0}} (no_field line p (tail_places (tail_places ps))) _ r.0 a'.2 in
      let c = on_ok {X = Unit {0}} (demanded (stands_at letters.Move s.phase s.rows.positions.used) Order line p) _ r.0 b.2 in
      let d = on_ok {X = Shown} (number_field 1 s.rows.positions.used Name line 2 a.0) _ r.0 c.2 in
      let g = on_ok {X = Shown} (box_field s.clocks line 3 a'.0) _ r.0 d.2 in
      let f = on_ok {X = Unit {0}} (demanded (has_room 256 s.rows.moves) Rows line p) _ t r.2 in
      let n = field_there 1 s.rows.positions.used Name line 2 a.0 d.0 (known s sound) d.1 in
      let w = box_there s.clocks line 3 a'.0 g.0 sound.counted g.1 in
      let shape = all ∙ ap (λ l. first ∷ l) (shape_two line p a.0 a'.0 b.0 ps a.1 a'.1 b.1) in
      record {
        item = move (number_in d.0) w.marks;
        spelt = bytes_two p first a.0 a'.0 shape ∙ (λ i. byte i ++ (9 ∷ (n.2 i ++ (9 ∷ w.spelt i))));
        stands = record { order = demanded_true _ Order line p c.1; chances = λ _. sum; range = (record { low = n.0; high = n.1 }, w.fine); room = demanded_true _ Rows line p f.1 };
        leads = ok_same t (moved r.0) f.2 ∙ ap moved (ok_same r.0 (record { source = number_in d.0; guard = box_in g.0; sum = 0 }) g.2 ∙ ap (λ (b : ClockBox). record { source = number_in d.0; guard = b; sum = 0 }) w.is);
      } where
        moved : Move → State
        moved x = record { phase = phases.Moves; time = s.time; clocks = s.clocks; opened = line; opening = p; rows = with_move s.rows x }

  goal_said : first.bytes ≡ 71 ∷ [] → summed (bare s) ≡ true → Ok t ≡ goal_line s line p (tail_places (fields_of p)) → Said s t line p
  goal_said byte sum e =
      let ps = tail_places (fields_of p) in
      let r = on_ok {X = Goal} (goal_read (stands_at letters.Goal s.phase s.rows.positions.used) s.rows.positions.used s.clocks line p ps) _ t e in
      let a = on_ok {X = Place} (field_next line p ps) _ r.0 r.1 in
      let a' = on_ok {X = Place} (field_next line p (tail_places ps)) _ r.0 a.2 in
      let b = on_ok {X = Unit {0}} (no_field line p (tail_places (tail_places ps))) _ r.0 a'.2 in
      let c = on_ok {X = Unit {0}} (demanded (stands_at letters.Goal s.phase s.rows.positions.used) Order line p) _ r.0 b.2 in
      let d = on_ok {X = Shown} (number_field 1 s.rows.positions.used Name line 2 a.0) _ r.0 c.2 in
      let g = on_ok {X = Shown} (box_field s.clocks line 3 a'.0) _ r.0 d.2 in
      let f = on_ok {X = Unit {0}} (demanded (has_room 64 s.rows.goals) Rows line p) _ t r.2 in
      let n = field_there 1 s.rows.positions.used Name line 2 a.0 d.0 (known s sound) d.1 in
      let w = box_there s.clocks line 3 a'.0 g.0 sound.counted g.1 in
      let shape = all ∙ ap (λ l. first ∷ l) (shape_two line p a.0 a'.0 b.0 ps a.1 a'.1 b.1) in
      record {
        item = goal (record { position = number_in d.0; area = w.marks });
        spelt = bytes_two p first a.0 a'.0 shape ∙ (λ i. byte i ++ (9 ∷ (n.2 i ++ (9 ∷ w.spelt i))));
        stands = record { order = demanded_true _ Order line p c.1; chances = λ _. sum; range = record { position = record { low = n.0; high = n.1 }; area = w.fine }; room = demanded_true _ Rows line p f.1 };
        leads = ok_same t (aimed r.0) f.2 ∙ ap aimed (ok_same r.0 (record { position = number_in d.0; area = box_in g.0 }) g.2 ∙ ap (λ (b : ClockBox). record { position = number_in d.0; area = b }) w.is);
      } where
        aimed : Goal → State
        aimed x = record { phase = phases.Goals; time = s.time; clocks = s.clocks; opened = s.opened; opening = s.opening; rows = with_goal s.rows x }

  outcome_said : first.bytes ≡ 79 ∷ [] → Ok t ≡ outcome_line s line p (tail_places (fields_of p)) → Said s t line p
  outcome_said byte e =
      let ps = tail_places (fields_of p) in
      let r = on_ok {X = Outcome} (outcome_read (stands_at letters.Outcome s.phase s.rows.positions.used) s.rows.moves.used s.rows.positions.used s.clocks line p ps) _ t e in
      let a = on_ok {X = Place} (field_next line p ps) _ r.0 r.1 in
      let b = on_ok {X = Place} (field_next line p (tail_places ps)) _ r.0 a.2 in
      let b' = on_ok {X = Place} (field_next line p (tail_places (tail_places ps))) _ r.0 b.2 in
      let c = on_ok {X = Unit {0}} (no_field line p (tail_places (tail_places (tail_places ps)))) _ r.0 b'.2 in
      let d = on_ok {X = Unit {0}} (demanded (stands_at letters.Outcome s.phase s.rows.positions.used) Order line p) _ r.0 c.2 in
      let f = on_ok {X = Shown} (number_field 0 1000 Number line 2 a.0) _ r.0 d.2 in
      let g = on_ok {X = Shown} (number_field 1 s.rows.positions.used Name line 3 b.0) _ r.0 f.2 in
      let k = on_ok {X = Shown} (clocks_field s.clocks line 4 b'.0) _ r.0 g.2 in
      let h = on_ok {X = Unit {0}} (demanded (has_room 512 s.rows.outcomes) Rows line p) _ t r.2 in
      let n = field_there 0 1000 Number line 2 a.0 f.0 (lit< tt) f.1 in
      let m = field_there 1 s.rows.positions.used Name line 3 b.0 g.0 (known s sound) g.1 in
      let w = clocks_only s.clocks b'.0 (clocks_in k.0) sound.counted (listed_there line 4 b'.0 (clock_list s.clocks b'.0) k.0 k.1) in
      let shape = all ∙ ap (λ l. first ∷ l) (shape_three line p a.0 b.0 b'.0 c.0 ps a.1 b.1 b'.1 c.1) in
      record {
        item = outcome (record { chance = number_in f.0; target = number_in g.0; clocks = w.clocks });
        spelt = bytes_three p first a.0 b.0 b'.0 shape ∙ (λ i. byte i ++ (9 ∷ (n.2 i ++ (9 ∷ (m.2 i ++ (9 ∷ w.spelt i))))));
        stands = record { order = demanded_true _ Order line p d.1; chances = λ w. absurd (true≢false w); range = record { chance = n.1; target = record { low = m.0; high = m.1 }; clocks = w.fine }; room = demanded_true _ Rows line p h.1 };
        leads = ok_same t (came r.0) h.2 ∙ ap came (ok_same r.0 (record { cause = s.rows.moves.used; chance = number_in f.0; target = number_in g.0; resets = clocks_in k.0 }) k.2 ∙ ap (λ (rs : List Bool). record { cause = s.rows.moves.used; chance = number_in f.0; target = number_in g.0; resets = rs }) w.marks);
      } where
        came : Outcome → State
        came x = with_rows s (with_outcome s.rows x)

  time_said : first.bytes ≡ 84 ∷ [] → summed (bare s) ≡ true → Ok t ≡ time_line s line p (tail_places (fields_of p)) → Said s t line p
  time_said byte sum e =
      let ps = tail_places (fields_of p) in
      let a = on_ok {X = Place} (field_next line p ps) _ t e in
      let b = on_ok {X = Place} (field_next line p (tail_places ps)) _ t a.2 in
      let c = on_ok {X = Unit {0}} (no_field line p (tail_places (tail_places ps))) _ t b.2 in
      let d = on_ok {X = Shown} (kind_field line p a.0) _ t c.2 in
      let f = on_ok {X = Unit {0}} (demanded (stands_at letters.Time s.phase s.rows.positions.used) Order line p) _ t d.2 in
      let g = on_ok {X = Shown} (number_field 1 8 Number line 3 b.0) _ t f.2 in
      let k = kind_there line p a.0 d.0 d.1 in
      let n = field_there 1 8 Number line 3 b.0 g.0 (lit< tt) g.1 in
      let shape = all ∙ ap (λ l. first ∷ l) (shape_two line p a.0 b.0 c.0 ps a.1 b.1 c.1) in
      record {
        item = time (time_in d.0) (number_in g.0);
        spelt = bytes_two p first a.0 b.0 shape ∙ (λ i. byte i ++ (9 ∷ (k i ++ (9 ∷ n.2 i))));
        stands = record { order = demanded_true _ Order line p f.1; chances = λ _. sum; range = record { low = n.0; high = n.1 }; room = refl };
        leads = ok_same t _ g.2;
      }

  line_said : (l : Letter) → letter_of first.bytes ≡ l → (u : Unit {0}) → Ok u ≡ settled_by l s → Ok t ≡ line_of l s line p (tail_places (fields_of p)) → Said s t line p
  line_said letters.Time is u q e = time_said (letter_there first.bytes letters.Time is (λ x. let z : ◌≡◌ {A = ℕ} 0 1 = cc in omega arith)) (settled_there s u q) e
  line_said letters.Position is u q e = position_said (letter_there first.bytes letters.Position is (λ x. let z : ◌≡◌ {A = ℕ} 0 1 = cc in omega arith)) (settled_there s u q) e
  line_said letters.Move is u q e = move_said (letter_there first.bytes letters.Move is (λ x. let z : ◌≡◌ {A = ℕ} 0 1 = cc in omega arith)) (settled_there s u q) e
  line_said letters.Outcome is u q e = outcome_said (letter_there first.bytes letters.Outcome is (λ x. let z : ◌≡◌ {A = ℕ} 0 1 = cc in omega arith)) e
  line_said letters.Goal is u q e = goal_said (letter_there first.bytes letters.Goal is (λ x. let z : ◌≡◌ {A = ℕ} 0 1 = cc in omega arith)) (settled_there s u q) e
  line_said letters.Unknown is u q e = absurd (let z : ◌≡◌ {A = ℕ} 0 1 = cc in omega arith)

-- an accepted line says an item that may stand there, and leads to the plan with it
pub step_said : (s t : State) (line : ℕ) (p : Place) → Sound s → Ok t ≡ stepped s line p → Said s t line p
step_said s t line p sound e =
    let a = on_ok {X = Place} (field_next line p (fields_of p)) _ t e in
    let b = on_ok {X = Unit {0}} (settled_by (letter_of a.0.bytes) s) _ t a.2 in
    line_said s t line p a.0 sound (next_field line p a.0 (fields_of p) a.1) (letter_of a.0.bytes) refl b.0 b.1 b.2
