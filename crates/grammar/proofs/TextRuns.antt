-- A text is accepted just where its lines lead to a plan, line after line.
use Rattle.std.proofs.Common.{◌≡◌, ℕ, suc, ◌+◌, ◌≤◌, true, false, cond, leb, List, [], ◌∷◌, ◌++◌, length, Ok, Err, decimal, Result, sym, refl, ap, ◌∙◌, subst, arith, lit<, le-leb}
use Rattle.std.proofs.lemmas.Bool.{leb-true}
use Rattle.bounds.specs.declared.refusal.Refusal.TheVariants.{Line, Order, Rows}
use Rattle.bounds.specs.declared.time.PlanTime.TheVariants.{Cycle, Hand}
use Rattle.byte_text.specs.Parts.{Place, parted}
use Rattle.byte_text.proofs.Spelling.{lacks, lacks_decimal, lacks_append, parted_mark, joins, joins_parted}
use Rattle.texts.specs.declared.words.Letter.TheVariants as letters
use Rattle.texts.specs.declared.spot.Spot.TheVariants as spots
use Rattle.texts.specs.Faults.{Fault, refused, field_next, demanded, fields_of}
use Rattle.texts.specs.Words.{letter_of, stands_at}
use Rattle.texts.specs.PlanRows.{Tables, none_taken}
use Rattle.texts.specs.States.{State, Sound}
use Rattle.texts.specs.Lines.{settled, settled_by, step, stepped, torn_line, finished, header_of}
use Rattle.grammar.specs.BoxesWritten.{spell_box, spell_clocks}
use Rattle.grammar.specs.Written.{spelled, LineText, time, position, move, outcome, goal, spell}
use Rattle.grammar.proofs.Standing.{Part, InRange, Leads, Whole, empty, head, accepted}
use Rattle.texts.specs.declared.header.Header.{Header}
use Rattle.texts.specs.Texts.{Ending, run, after, stopped, ending, start, read_text}
use Rattle.texts.proofs.LineFacts.{demanded_true}
use Rattle.texts.proofs.LineWalks.{empty_not, parted_some}
use Rattle.texts.proofs.StateFacts.{on_ok, ok_same, step_sound}
use Rattle.grammar.proofs.BoxSpelling.{lacks_box}
use Rattle.grammar.proofs.ClockSpelling.{lacks_clocks}
use Rattle.grammar.proofs.Back.{bare, next, next_bare, item_back, on_to, demanded_ok, settled_ok}
use Rattle.grammar.proofs.Forth.{Said, step_said, settled_there}

abbrev pub good : Header → Tables → Ending
good h r = record { answer = Ok h; rows = r }

-- the plan that the rest of a text writes down
record Ends (bs : List ℕ) (s : State) (h : Header) (r : Tables) : Type 0 where
  items : List LineText
  plan : Part
  lines : bs ≡ spelled items
  leads : Leads (bare s) items plan
  whole : Whole plan
  head : h ≡ head plan
  rows : r ≡ plan.rows

answer_of : (x y : Ending) → x ≡ y → x.answer ≡ y.answer
answer_of x y e = ap (λ (z : Ending). z.answer) e

finished_said : (s : State) (line : ℕ) (p : Place) (h : Header) (r : Tables) → stopped (finished s line p) s ≡ good h r → Ends [] s h r
unfolding spelled
finished_said s line p h r e =
    let f : Ok h ≡ finished s line p = sym (ap (λ (z : Ending). z.answer) e) in
    let a = on_ok {X = Unit {0}} (settled s) _ h f in
    let b = on_ok {X = Unit {0}} (demanded (stands_at letters.Goal s.phase s.rows.positions.used) Order line p) _ h a.2 in
    record {
      items = [];
      plan = bare s;
      lines = refl;
      leads = refl;
      whole = record { some = demanded_true _ Order line p b.1; chances = settled_there s a.0 a.1 };
      head = ok_same h (header_of s) b.2;
      rows = sym (ap (λ (z : Ending). z.rows) e);
    }

torn_never : (s : State) (line : ℕ) (p : Place) (h : Header) → Ok h ≡ torn_line s line p → ⊥
torn_never s line p h e =
    let a = on_ok {X = Place} (field_next line p (fields_of p)) _ h e in
    let b = on_ok {X = Unit {0}} (settled_by (letter_of a.0.bytes) s) _ h a.2 in
    never b.2 where
      never : ◌≡◌ {A = Result Header Fault} (Ok h) (refused Line (spots.Line line) p) → ⊥
      never q = let z : ◌≡◌ {A = ℕ} 0 1 = cc in omega arith

ending_said : (bs : List ℕ) (at : ℕ) (s : State) (line : ℕ) (h : Header) (r : Tables) → ending (record { bytes = bs; at = at }) s line ≡ good h r → Ends bs s h r
ending_said [] at s line h r e = finished_said s (line + 1) (record { bytes = []; at = at }) h r e
ending_said (b ∷ bs) at s line h r e = absurd (torn_never s (line + 1) (record { bytes = b ∷ bs; at = at }) h (sym (ap (λ (z : Ending). z.answer) e)))

refused_never : (f : Fault) (s : State) (h : Header) (r : Tables) → stopped (Err f) s ≡ good h r → ⊥
refused_never f s h r e = let q : ◌≡◌ {A = Result Header Fault} (Err f) (Ok h) = ap (λ (z : Ending). z.answer) e in let z : ◌≡◌ {A = ℕ} 0 1 = cc in omega arith

said_more : (s t : State) (line : ℕ) (p : Place) (rest : List ℕ) (h : Header) (r : Tables) → Said s t line p → Ends rest t h r → Ends (p.bytes ++ (10 ∷ rest)) s h r
unfolding spelled
said_more s t line p rest h r d k = record {
  items = d.item ∷ k.items;
  plan = k.plan;
  lines = (λ i. d.spelt i ++ (10 ∷ k.lines i));
  leads = (d.stands, subst (λ (b : Part). Leads b k.items k.plan) (ap bare d.leads ∙ next_bare s line p d.item) k.leads);
  whole = k.whole;
  head = k.head;
  rows = k.rows;
}

run_said : (ps : List Place) (s : State) (line : ℕ) (h : Header) (r : Tables) → Sound s → run ps s line ≡ good h r → Ends (joins 10 ps) s h r
unfolding run step
run_said [] s line h r sound e = ending_said [] 0 s line h r e
run_said (p ∷ []) s line h r sound e = ending_said p.bytes p.at s line h r e
run_said (p ∷ (q ∷ qs)) s line h r sound e =
    elim (stepped s (line + 1) p) as (λ x. x ≡ stepped s (line + 1) p → after x s (λ t. run (q ∷ qs) t (line + 1)) ≡ good h r → Ends (p.bytes ++ (10 ∷ joins 10 (q ∷ qs))) s h r) [
      | Ok t ↦ λ is k. said_more s t (line + 1) p (joins 10 (q ∷ qs)) h r (step_said s t (line + 1) p sound is) (run_said (q ∷ qs) t (line + 1) h r (step_sound s t (line + 1) p sound is) k)
      | Err f ↦ λ is k. absurd (refused_never f s h r k)
    ] refl e

-- no line of a plan has byte 10 inside
lacks_spell : (s : State) (i : LineText) → Sound s → InRange (bare s) i → lacks 10 (spell i) ≡ true
lacks_spell s (time Hand n) h k = lacks_decimal 10 n (lit< tt) (omega (arith, k.high))
lacks_spell s (time Cycle n) h k = lacks_decimal 10 n (lit< tt) (omega (arith, k.high))
lacks_spell s (position ms) h k = lacks_box 10 s.clocks ms (lit< tt) h.counted k
lacks_spell s (move f ms) h k = lacks_append 10 (decimal f) (9 ∷ spell_box ms) (lacks_decimal 10 f (lit< tt) (omega (arith, h.few, k.0.high))) (lacks_box 10 s.clocks ms (lit< tt) h.counted k.1)
lacks_spell s (outcome o) h k =
    lacks_append 10 (decimal o.chance) (9 ∷ (decimal o.target ++ (9 ∷ spell_clocks o.clocks))) (lacks_decimal 10 o.chance (lit< tt) (omega (arith, k.chance)))
    (lacks_append 10 (decimal o.target) (9 ∷ spell_clocks o.clocks) (lacks_decimal 10 o.target (lit< tt) (omega (arith, h.few, k.target.high))) (lacks_clocks 10 s.clocks o.clocks (lit< tt) h.counted k.clocks))
lacks_spell s (goal g) h k = lacks_append 10 (decimal g.position) (9 ∷ spell_box g.area) (lacks_decimal 10 g.position (lit< tt) (omega (arith, h.few, k.position.high))) (lacks_box 10 s.clocks g.area (lit< tt) h.counted k.area)

finished_back : (s : State) (line : ℕ) (p : Place) → Whole (bare s) → stopped (finished s line p) s ≡ accepted (bare s)
finished_back s line p w =
    ap (λ x. stopped x s) (on_to (settled s) _ tt _ (settled_ok s w.chances) (on_to (demanded (stands_at letters.Goal s.phase s.rows.positions.used) Order line p) _ tt _ (demanded_ok _ Order line p w.some) refl))

step_same : (s : State) (line : ℕ) (p : Place) → step s line p ≡ stepped s line p
unfolding step
step_same s line p = refl

run_back : (items : List LineText) (s : State) (line at : ℕ) (b : Part) → Sound s → Leads (bare s) items b → Whole b → run (parted 10 at (spelled items)) s line ≡ accepted b
unfolding run spelled
run_back [] s line at b sound leads w = finished_back s (line + 1) (record { bytes = []; at = at }) (subst Whole (sym leads) w) ∙ ap accepted leads
run_back (i ∷ is) s line at b sound leads w =
    let p : Place = record { bytes = spell i; at = at } in
    let ps = parted 10 (at + suc (length (spell i))) (spelled is) in
    let t = next s (line + 1) p i in
    let more = empty_not (parted 10 (at + suc (length (spell i))) (spelled is)) (parted_some 10 (at + suc (length (spell i))) (spelled is)) in
    let back = item_back s (line + 1) at sound i leads.0 in
    let safe = step_sound s t (line + 1) p sound (sym back) in
    let onward : Leads (bare t) is b = subst (λ (x : Part). Leads x is b) (sym (next_bare s (line + 1) p i)) leads.1 in
    ap (λ l. run l s line) (parted_mark 10 at (spell i) (spelled is) (lacks_spell s i sound leads.0.range))
    ∙ (ap (λ x. cond x (ending p s line) (after (step s (line + 1) p) s (λ u. run ps u (line + 1)))) more
    ∙ (ap (λ x. after x s (λ u. run ps u (line + 1))) (step_same s (line + 1) p ∙ back)
    ∙ run_back is t (line + 1) (at + suc (length (spell i))) b safe onward w))

start_sound : (t : Tables) → Sound (start (none_taken t))
start_sound t = record { few = omega arith; counted = omega arith; outcomes = omega arith; some = λ m. absurd (let z : ◌≡◌ {A = ℕ} 0 1 = cc in omega arith); fits = omega arith; sums = λ m. absurd (let z : ◌≡◌ {A = ℕ} 0 1 = cc in omega arith) }

-- what the lines of a text lead to
pub record Led (text : List ℕ) (t : Tables) (h : Header) (r : Tables) : Type 0 where
  pub items : List LineText
  pub plan : Part
  pub short : length text ≤ 16384
  pub lines : text ≡ spelled items
  pub leads : Leads (empty (none_taken t)) items plan
  pub whole : Whole plan

pub only_led : (text : List ℕ) (t : Tables) (h : Header) (r : Tables) → read_text text t ≡ good h r → Led text t h r
only_led text t h r e =
    elim (leb (length text) 16384) as (λ x. (x ≡ true → length text ≤ 16384) → cond x (run (parted 10 0 text) (start (none_taken t)) 0) (stopped (refused Rows spots.Text (record { bytes = text; at = 0 })) (start t)) ≡ good h r → Led text t h r) [
      | true ↦ λ le k. let d = run_said (parted 10 0 text) (start (none_taken t)) 0 h r (start_sound t) k in
          record { items = d.items; plan = d.plan; short = le refl; lines = sym (joins_parted 10 0 text) ∙ d.lines; leads = d.leads; whole = d.whole }
      | false ↦ λ _ k. absurd (refused_never (record { refusal = Rows; spot = spots.Text; part = record { bytes = text; at = 0 } }) (start t) h r k)
    ] (leb-true (length text) 16384) e

pub all_led : (items : List LineText) (text : List ℕ) (t : Tables) (b : Part) → length text ≤ 16384 → text ≡ spelled items → Leads (empty (none_taken t)) items b → Whole b → read_text text t ≡ accepted b
all_led items text t b short lines leads whole =
    ap (λ x. cond x (run (parted 10 0 text) (start (none_taken t)) 0) (stopped (refused Rows spots.Text (record { bytes = text; at = 0 })) (start t))) (le-leb (length text) 16384 short)
    ∙ (ap (λ x. run (parted 10 0 x) (start (none_taken t)) 0) lines
    ∙ run_back items (start (none_taken t)) 0 0 b (start_sound t) leads whole)
