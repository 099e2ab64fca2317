-- A line that says something is read as saying it.
use Rattle.std.proofs.Common.{◌≡◌, ℕ, suc, ◌+◌, ◌^◌, ◌<◌, ◌≤◌, Bool, true, cond, leb, List, [], ◌∷◌, ◌++◌, length, Ok, decimal, Result, refl, ap, ◌∙◌, arith, lit<, le-leb}
use Rattle.std.proofs.lemmas.Bool.{not-true, and_from}
use Rattle.bounds.specs.declared.refusal.Refusal.{Refusal}
use Rattle.bounds.specs.declared.refusal.Refusal.TheVariants.{Order, Number, Name, Chance, Rows}
use Rattle.bounds.specs.declared.time.PlanTime.{PlanTime}
use Rattle.bounds.specs.declared.time.PlanTime.TheVariants.{Cycle, Hand}
use Rattle.byte_text.specs.Parts.{Place, parted, tail_places}
use Rattle.byte_text.proofs.Spelling.{number_back, lacks, lacks_decimal, parted_mark, parted_end}
use Rattle.texts.specs.declared.words.Letter.TheVariants as letters
use Rattle.texts.specs.declared.words.Phase.TheVariants as phases
use Rattle.texts.specs.declared.spot.Spot.TheVariants as spots
use Rattle.texts.specs.Faults.{Fault, refused, on, field_next, demanded}
use Rattle.texts.specs.Fields.{number, clocks, bounds, number_field, in_range, clocks_field, listed}
use Rattle.texts.specs.BoxFields.{box_field, boxed}
use Rattle.texts.specs.Words.{letter_of, stands_at}
use Rattle.texts.specs.PlanRows.{has_room}
use Rattle.texts.specs.RowReads.{position_read, move_read, outcome_read, goal_read}
use Rattle.plans.specs.declared.rows.Position.{Position}
use Rattle.plans.specs.declared.rows.Move.{Move}
use Rattle.plans.specs.declared.rows.Outcome.{Outcome}
use Rattle.plans.specs.declared.rows.Goal.{Goal}
use Rattle.texts.specs.States.{State, Sound}
use Rattle.texts.specs.Lines.{settled, settled_by, unsummed, line_of, stepped, with_position, with_move, with_outcome, with_goal, with_rows}
use Rattle.grammar.specs.BoxesWritten.{BoundText, spell_box, spell_clocks, OneOf, FineBound, All, box_by, resets_by}
use Rattle.grammar.specs.Written.{LineText, time, position, move, outcome, goal, OutcomeText, GoalText, kind, spell, position_row, outcome_row, goal_row}
use Rattle.grammar.proofs.Standing.{Part, summed, Stands, with}
use Rattle.grammar.proofs.BoxSpelling.{box_all, lacks_box}
use Rattle.grammar.proofs.ClockSpelling.{clocks_all, lacks_clocks}

-- what a state says of the plan
abbrev pub bare : State → Part
bare s = record { phase = s.phase; time = s.time; clocks = s.clocks; rows = s.rows }

-- the state after a line
abbrev pub next : State → ℕ → Place → LineText → State
next s line p (time k n) = record { phase = phases.Positions; time = k; clocks = n; opened = s.opened; opening = s.opening; rows = s.rows }
next s line p (position ms) = with_rows s (with_position s.rows (position_row ms))
next s line p (move f ms) = record { phase = phases.Moves; time = s.time; clocks = s.clocks; opened = line; opening = p; rows = with_move s.rows (record { source = f; guard = box_by ms; sum = 0 }) }
next s line p (outcome o) = with_rows s (with_outcome s.rows (outcome_row s.rows.moves.used o))
next s line p (goal g) = record { phase = phases.Goals; time = s.time; clocks = s.clocks; opened = s.opened; opening = s.opening; rows = with_goal s.rows (goal_row g) }

pub next_bare : (s : State) (line : ℕ) (p : Place) (i : LineText) → bare (next s line p i) ≡ with (bare s) i
next_bare s line p (time k n) = refl
next_bare s line p (position ms) = refl
next_bare s line p (move f ms) = refl
next_bare s line p (outcome o) = refl
next_bare s line p (goal g) = refl

pub on_to : {X Y : Type 0} (r : Result X Fault) (f : X → Result Y Fault) (x : X) (y : Result Y Fault) → r ≡ Ok x → f x ≡ y → on r f ≡ y
on_to r f x y e g = ap (λ q. on q f) e ∙ g

pub demanded_ok : (b : Bool) (r : Refusal) (line : ℕ) (p : Place) → b ≡ true → demanded b r line p ≡ Ok tt
demanded_ok b r line p e = ap (λ t. demanded t r line p) e

pub settled_ok : (s : State) → summed (bare s) ≡ true → settled s ≡ Ok tt
settled_ok s e = let f = not-true (unsummed s) e in ap (λ t. cond t (refused Chance (spots.Line s.opened) s.opening) (Ok tt)) f

field_back : (low high : ℕ) (out : Refusal) (line field at v : ℕ) → high < 2 ^ 62 → low ≤ v → v ≤ high → number_field low high out line field (record { bytes = decimal v; at = at }) ≡ Ok (number v (record { bytes = decimal v; at = at }))
field_back low high out line field at v small a b =
    let p : Place = record { bytes = decimal v; at = at } in
    ap (in_range low high out line field p) (number_back (high + 1) v (omega arith) (omega arith))
    ∙ ap (λ t. cond t (Ok (number v p)) (refused out (spots.Field line field) p)) (and_from (leb low v) (leb v high) (le-leb low v a) (le-leb v high b))

box_back : (n line field at : ℕ) (ms : List BoundText) → n ≤ 8 → All (FineBound n) ms → box_field n line field (record { bytes = spell_box ms; at = at }) ≡ Ok (bounds (box_by ms) (record { bytes = spell_box ms; at = at }))
box_back n line field at ms few f = ap (boxed line field (record { bytes = spell_box ms; at = at })) (box_all n at ms few f)

clocks_back : (n line field at : ℕ) (cs : List ℕ) → n ≤ 8 → All (OneOf n) cs → clocks_field n line field (record { bytes = spell_clocks cs; at = at }) ≡ Ok (clocks (resets_by cs) (record { bytes = spell_clocks cs; at = at }))
clocks_back n line field at cs few f = ap (listed line field (record { bytes = spell_clocks cs; at = at })) (clocks_all n at cs few f)

-- the fields of a line with one field after the letter, with two and with three
one_field : (x at : ℕ) (ds : List ℕ) → lacks 9 (x ∷ []) ≡ true → lacks 9 ds ≡ true → parted 9 at (x ∷ 9 ∷ ds) ≡ record { bytes = x ∷ []; at = at } ∷ record { bytes = ds; at = at + 2 } ∷ []
one_field x at ds a b = parted_mark 9 at (x ∷ []) ds a ∙ ap (λ l. record { bytes = x ∷ []; at = at } ∷ l) (parted_end 9 (at + 2) ds b)

two_fields : (x at : ℕ) (ds es : List ℕ) → lacks 9 (x ∷ []) ≡ true → lacks 9 ds ≡ true → lacks 9 es ≡ true → parted 9 at (x ∷ 9 ∷ (ds ++ (9 ∷ es))) ≡ record { bytes = x ∷ []; at = at } ∷ record { bytes = ds; at = at + 2 } ∷ record { bytes = es; at = at + 2 + suc (length ds) } ∷ []
two_fields x at ds es a b c = parted_mark 9 at (x ∷ []) (ds ++ (9 ∷ es)) a ∙ ap (λ l. record { bytes = x ∷ []; at = at } ∷ l) (parted_mark 9 (at + 2) ds es b ∙ ap (λ l. record { bytes = ds; at = at + 2 } ∷ l) (parted_end 9 (at + 2 + suc (length ds)) es c))

three_fields : (x at : ℕ) (ds es fs : List ℕ) → lacks 9 (x ∷ []) ≡ true → lacks 9 ds ≡ true → lacks 9 es ≡ true → lacks 9 fs ≡ true → parted 9 at (x ∷ 9 ∷ (ds ++ (9 ∷ (es ++ (9 ∷ fs))))) ≡ record { bytes = x ∷ []; at = at } ∷ record { bytes = ds; at = at + 2 } ∷ record { bytes = es; at = at + 2 + suc (length ds) } ∷ record { bytes = fs; at = at + 2 + suc (length ds) + suc (length es) } ∷ []
three_fields x at ds es fs a b c d =
    parted_mark 9 at (x ∷ []) (ds ++ (9 ∷ (es ++ (9 ∷ fs)))) a
    ∙ ap (λ l. record { bytes = x ∷ []; at = at } ∷ l) (parted_mark 9 (at + 2) ds (es ++ (9 ∷ fs)) b
    ∙ ap (λ l. record { bytes = ds; at = at + 2 } ∷ l) (parted_mark 9 (at + 2 + suc (length ds)) es fs c
    ∙ ap (λ l. record { bytes = es; at = at + 2 + suc (length ds) } ∷ l) (parted_end 9 (at + 2 + suc (length ds) + suc (length es)) fs d)))

-- a line by its fields
abbrev step_by : State → ℕ → Place → List Place → Result State Fault
step_by s line p ps = on (field_next line p ps) (λ first. on (settled_by (letter_of first.bytes) s) (λ _. line_of (letter_of first.bytes) s line p (tail_places ps)))

module _ (s : State) (line at : ℕ) (sound : Sound s) where
  few : s.rows.positions.used < 2 ^ 62
  few = omega (arith, sound.few)

  position_back : (ms : List BoundText) → Stands (bare s) (position ms) → stepped s line (record { bytes = spell (position ms); at = at }) ≡ Ok (next s line (record { bytes = spell (position ms); at = at }) (position ms))
  position_back ms h =
      let p : Place = record { bytes = spell (position ms); at = at } in
      let d = lacks_box 9 s.clocks ms (lit< tt) sound.counted h.range in
      let a : Place = record { bytes = spell_box ms; at = at + 2 } in
      let read : position_read (stands_at letters.Position s.phase s.rows.positions.used) s.clocks line p (a ∷ []) ≡ Ok (position_row ms) =
      on_to (demanded (stands_at letters.Position s.phase s.rows.positions.used) Order line p) _ tt _ (demanded_ok _ Order line p h.order)
      (on_to (box_field s.clocks line 2 a) _ (bounds (box_by ms) a) _ (box_back s.clocks line 2 (at + 2) ms sound.counted h.range) refl) in
      ap (step_by s line p) (one_field 80 at (spell_box ms) refl d)
      ∙ on_to (settled s) _ tt _ (settled_ok s (h.chances refl))
      (on_to {X = Position} (position_read (stands_at letters.Position s.phase s.rows.positions.used) s.clocks line p (a ∷ [])) _ (position_row ms) _ read
      (on_to (demanded (has_room 64 s.rows.positions) Rows line p) _ tt _ (demanded_ok _ Rows line p h.room) refl))

  move_back : (v : ℕ) (ms : List BoundText) → Stands (bare s) (move v ms) → stepped s line (record { bytes = spell (move v ms); at = at }) ≡ Ok (next s line (record { bytes = spell (move v ms); at = at }) (move v ms))
  move_back v ms h =
      let p : Place = record { bytes = spell (move v ms); at = at } in
      let range = h.range in
      let d = lacks_decimal 9 v (lit< tt) (omega (arith, few, range.0.high)) in
      let e = lacks_box 9 s.clocks ms (lit< tt) sound.counted range.1 in
      let a : Place = record { bytes = decimal v; at = at + 2 } in
      let b : Place = record { bytes = spell_box ms; at = at + 2 + suc (length (decimal v)) } in
      let read : move_read (stands_at letters.Move s.phase s.rows.positions.used) s.rows.positions.used s.clocks line p (a ∷ b ∷ []) ≡ Ok (record { source = v; guard = box_by ms; sum = 0 }) =
      on_to (demanded (stands_at letters.Move s.phase s.rows.positions.used) Order line p) _ tt _ (demanded_ok _ Order line p h.order)
      (on_to (number_field 1 s.rows.positions.used Name line 2 a) _ (number v a) _ (field_back 1 s.rows.positions.used Name line 2 (at + 2) v few range.0.low range.0.high)
      (on_to (box_field s.clocks line 3 b) _ (bounds (box_by ms) b) _ (box_back s.clocks line 3 (at + 2 + suc (length (decimal v))) ms sound.counted range.1) refl)) in
      ap (step_by s line p) (two_fields 77 at (decimal v) (spell_box ms) refl d e)
      ∙ on_to (settled s) _ tt _ (settled_ok s (h.chances refl))
      (on_to {X = Move} (move_read (stands_at letters.Move s.phase s.rows.positions.used) s.rows.positions.used s.clocks line p (a ∷ b ∷ [])) _ (record { source = v; guard = box_by ms; sum = 0 }) _ read
      (on_to (demanded (has_room 256 s.rows.moves) Rows line p) _ tt _ (demanded_ok _ Rows line p h.room) refl))

  goal_back : (g : GoalText) → Stands (bare s) (goal g) → stepped s line (record { bytes = spell (goal g); at = at }) ≡ Ok (next s line (record { bytes = spell (goal g); at = at }) (goal g))
  goal_back g h =
      let p : Place = record { bytes = spell (goal g); at = at } in
      let range = h.range in
      let d = lacks_decimal 9 g.position (lit< tt) (omega (arith, few, range.position.high)) in
      let e = lacks_box 9 s.clocks g.area (lit< tt) sound.counted range.area in
      let a : Place = record { bytes = decimal g.position; at = at + 2 } in
      let b : Place = record { bytes = spell_box g.area; at = at + 2 + suc (length (decimal g.position)) } in
      let read : goal_read (stands_at letters.Goal s.phase s.rows.positions.used) s.rows.positions.used s.clocks line p (a ∷ b ∷ []) ≡ Ok (goal_row g) =
      on_to (demanded (stands_at letters.Goal s.phase s.rows.positions.used) Order line p) _ tt _ (demanded_ok _ Order line p h.order)
      (on_to (number_field 1 s.rows.positions.used Name line 2 a) _ (number g.position a) _ (field_back 1 s.rows.positions.used Name line 2 (at + 2) g.position few range.position.low range.position.high)
      (on_to (box_field s.clocks line 3 b) _ (bounds (box_by g.area) b) _ (box_back s.clocks line 3 (at + 2 + suc (length (decimal g.position))) g.area sound.counted range.area) refl)) in
      ap (step_by s line p) (two_fields 71 at (decimal g.position) (spell_box g.area) refl d e)
      ∙ on_to (settled s) _ tt _ (settled_ok s (h.chances refl))
      (on_to {X = Goal} (goal_read (stands_at letters.Goal s.phase s.rows.positions.used) s.rows.positions.used s.clocks line p (a ∷ b ∷ [])) _ (goal_row g) _ read
      (on_to (demanded (has_room 64 s.rows.goals) Rows line p) _ tt _ (demanded_ok _ Rows line p h.room) refl))

  outcome_back : (o : OutcomeText) → Stands (bare s) (outcome o) → stepped s line (record { bytes = spell (outcome o); at = at }) ≡ Ok (next s line (record { bytes = spell (outcome o); at = at }) (outcome o))
  outcome_back o h =
      let p : Place = record { bytes = spell (outcome o); at = at } in
      let range = h.range in
      let d = lacks_decimal 9 o.chance (lit< tt) (omega (arith, range.chance)) in
      let e = lacks_decimal 9 o.target (lit< tt) (omega (arith, few, range.target.high)) in
      let f = lacks_clocks 9 s.clocks o.clocks (lit< tt) sound.counted range.clocks in
      let a : Place = record { bytes = decimal o.chance; at = at + 2 } in
      let b : Place = record { bytes = decimal o.target; at = at + 2 + suc (length (decimal o.chance)) } in
      let c : Place = record { bytes = spell_clocks o.clocks; at = at + 2 + suc (length (decimal o.chance)) + suc (length (decimal o.target)) } in
      let read : outcome_read (stands_at letters.Outcome s.phase s.rows.positions.used) s.rows.moves.used s.rows.positions.used s.clocks line p (a ∷ b ∷ c ∷ []) ≡ Ok (outcome_row s.rows.moves.used o) =
      on_to (demanded (stands_at letters.Outcome s.phase s.rows.positions.used) Order line p) _ tt _ (demanded_ok _ Order line p h.order)
      (on_to (number_field 0 1000 Number line 2 a) _ (number o.chance a) _ (field_back 0 1000 Number line 2 (at + 2) o.chance (lit< tt) (omega arith) range.chance)
      (on_to (number_field 1 s.rows.positions.used Name line 3 b) _ (number o.target b) _ (field_back 1 s.rows.positions.used Name line 3 (at + 2 + suc (length (decimal o.chance))) o.target few range.target.low range.target.high)
      (on_to (clocks_field s.clocks line 4 c) _ (clocks (resets_by o.clocks) c) _ (clocks_back s.clocks line 4 (at + 2 + suc (length (decimal o.chance)) + suc (length (decimal o.target))) o.clocks sound.counted range.clocks) refl))) in
      ap (step_by s line p) (three_fields 79 at (decimal o.chance) (decimal o.target) (spell_clocks o.clocks) refl d e f)
      ∙ on_to {X = Outcome} (outcome_read (stands_at letters.Outcome s.phase s.rows.positions.used) s.rows.moves.used s.rows.positions.used s.clocks line p (a ∷ b ∷ c ∷ [])) _ (outcome_row s.rows.moves.used o) _ read
      (on_to (demanded (has_room 512 s.rows.outcomes) Rows line p) _ tt _ (demanded_ok _ Rows line p h.room) refl)

  time_back : (k : PlanTime) (n : ℕ) → Stands (bare s) (time k n) → stepped s line (record { bytes = spell (time k n); at = at }) ≡ Ok (next s line (record { bytes = spell (time k n); at = at }) (time k n))
  time_back Hand n h =
      let p : Place = record { bytes = spell (time Hand n); at = at } in
      let range = h.range in
      let e = lacks_decimal 9 n (lit< tt) (omega (arith, range.high)) in
      let b : Place = record { bytes = decimal n; at = at + 2 + 5 } in
      ap (step_by s line p) (two_fields 84 at (kind Hand) (decimal n) refl refl e)
      ∙ on_to (settled s) _ tt _ (settled_ok s (h.chances refl))
      (on_to (demanded (stands_at letters.Time s.phase s.rows.positions.used) Order line p) _ tt _ (demanded_ok _ Order line p h.order)
      (on_to (number_field 1 8 Number line 3 b) _ (number n b) _ (field_back 1 8 Number line 3 (at + 2 + 5) n (lit< tt) range.low range.high) refl))
  time_back Cycle n h =
      let p : Place = record { bytes = spell (time Cycle n); at = at } in
      let range = h.range in
      let e = lacks_decimal 9 n (lit< tt) (omega (arith, range.high)) in
      let b : Place = record { bytes = decimal n; at = at + 2 + 6 } in
      ap (step_by s line p) (two_fields 84 at (kind Cycle) (decimal n) refl refl e)
      ∙ on_to (settled s) _ tt _ (settled_ok s (h.chances refl))
      (on_to (demanded (stands_at letters.Time s.phase s.rows.positions.used) Order line p) _ tt _ (demanded_ok _ Order line p h.order)
      (on_to (number_field 1 8 Number line 3 b) _ (number n b) _ (field_back 1 8 Number line 3 (at + 2 + 6) n (lit< tt) range.low range.high) refl))

  -- a line that says i, where i may stand, is accepted as i
  pub item_back : (i : LineText) → Stands (bare s) i → stepped s line (record { bytes = spell i; at = at }) ≡ Ok (next s line (record { bytes = spell i; at = at }) i)
  item_back (time k n) h = time_back k n h
  item_back (position ms) h = position_back ms h
  item_back (move v ms) h = move_back v ms h
  item_back (outcome o) h = outcome_back o h
  item_back (goal g) h = goal_back g h
