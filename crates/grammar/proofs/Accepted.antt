-- The reader keeps to the grammar.
use Rattle.std.proofs.Common.{◌≡◌, ℕ, ◌+◌, ◌≤◌, List, [], ◌∷◌, map, length, replicate, Ok, Err, Result, sym, refl, ap, ◌∙◌, subst, arith, length-append}
use lib.ListN.{length-replicate}
use Rattle.plans.specs.Meaning.{no_position, no_outcome, no_goal}
use Rattle.plans.specs.RowLists.{Kept, taken, emptied, no_move}
use Rattle.texts.specs.declared.header.Header.{Header}
use Rattle.texts.specs.Faults.{Fault}
use Rattle.texts.specs.PlanRows.{Tables}
use Rattle.texts.specs.Texts.{Ending, read_text}
use Rattle.grammar.specs.Written.{PlanText, MoveText, FinePlan, Writes, lines_of, spelled, outcome_count, position_row, move_row, outcome_row, outcome_rows, goal_row}
use Rattle.grammar.specs.Grammar.{Supplied, Gives, Written, KeepsTo, OnePlan}
use Rattle.grammar.proofs.Standing.{head, accepted}
use Rattle.grammar.proofs.RowsPut.{puts, taken_puts, length_map}
use Rattle.grammar.proofs.TextRuns.{good, only_led, all_led}
use Rattle.grammar.proofs.ShapeLeads.{filled, plan_leads}
use Rattle.grammar.proofs.ShapeFound.{plan_shape}

pub count_rows : (k : ℕ) (ms : List MoveText) → length (outcome_rows k ms) ≡ outcome_count ms
count_rows k [] = refl
count_rows k (m ∷ ms) = omega (arith, length-append (map (outcome_row k) m.outcomes) (outcome_rows (k + 1) ms), length_map (outcome_row k) m.outcomes, count_rows (k + 1) ms)

given : {R : Type 0} (k : Kept R) (xs : List R) → length xs ≤ length k.rows → taken (puts (emptied k) xs) ≡ xs
given k xs h = taken_puts (emptied k) xs (omega arith)

pub gives : (t : Tables) (w : PlanText) → Supplied t w → Gives w (head (filled t w)) (filled t w).rows
gives t w s = record {
  header = refl;
  positions = given t.positions (map position_row w.positions) (omega (arith, length_map position_row w.positions, s.positions));
  moves = given t.moves (map move_row w.moves) (omega (arith, length_map move_row w.moves, s.moves));
  outcomes = given t.outcomes (outcome_rows 1 w.moves) (omega (arith, count_rows 1 w.moves, s.outcomes));
  goals = given t.goals (map goal_row w.goals) (omega (arith, length_map goal_row w.goals, s.goals));
}

-- a text that writes down a plan that there are rows for is accepted
pub read_all : (text : List ℕ) (t : Tables) (w : PlanText) → Writes text w → Supplied t w → read_text text t ≡ accepted (filled t w)
read_all text t w h s =
    let l = plan_leads t w h.fine s in
    all_led (lines_of w) text t (filled t w) h.short h.lines l.leads l.whole

-- an accepted text writes one down
pub read_only : (text : List ℕ) (t : Tables) (h : Header) (r : Tables) → read_text text t ≡ good h r → Written text t
read_only text t h r e =
    let d = only_led text t h r e in
    let p = plan_shape t d.items d.plan d.leads d.whole in
    record { plan = p.plan; writes = record { short = d.short; lines = d.lines ∙ ap spelled p.is; fine = p.fine }; supplied = p.supplied }

ok_head : (h h' : Header) → ◌≡◌ {A = Result Header Fault} (Ok h) (Ok h') → h ≡ h'
ok_head h h' e = cc

pub keeps_to : (text : List ℕ) (t : Tables) (x : Result Header Fault) (r : Tables) → record { answer = x; rows = r } ≡ read_text text t → KeepsTo text t x r
keeps_to text t (Ok h) r e =
    let w = read_only text t h r (sym e) in
    let all = e ∙ read_all text t w.plan w.writes w.supplied in
    let g = gives t w.plan w.supplied in
    let hh = ok_head h (head (filled t w.plan)) (ap (λ (z : Ending). z.answer) all) in
    let rr = ap (λ (z : Ending). z.rows) all in
    (w, subst (λ (y : Tables). Gives w.plan h y) (sym rr) (subst (λ (y : Header). Gives w.plan y (filled t w.plan).rows) (sym hh) g))
keeps_to text t (Err f) r e = λ w.
    let all = e ∙ read_all text t w.plan w.writes w.supplied in
    never (ap (λ (z : Ending). z.answer) all) where
      never : {h : Header} → ◌≡◌ {A = Result Header Fault} (Err f) (Ok h) → ⊥
      never q = let z : ◌≡◌ {A = ℕ} 0 1 = cc in omega arith

-- rows for any plan
abbrev wide : Tables
wide = record {
  positions = record { rows = replicate 64 no_position; used = 0 };
  moves = record { rows = replicate 256 no_move; used = 0 };
  outcomes = record { rows = replicate 512 no_outcome; used = 0 };
  goals = record { rows = replicate 64 no_goal; used = 0 };
}

wide_supplied : (w : PlanText) → FinePlan w → Supplied wide w
wide_supplied w f = record {
  positions = omega (arith, f.count.high, length-replicate 64 no_position);
  moves = omega (arith, f.few_moves, length-replicate 256 no_move);
  outcomes = omega (arith, f.few_outcomes, length-replicate 512 no_outcome);
  goals = omega (arith, f.few_goals, length-replicate 64 no_goal);
}

pub one_plan : OnePlan
one_plan text w w' a b =
    let s = wide_supplied w a.fine in
    let s' = wide_supplied w' b.fine in
    let same = sym (read_all text wide w a s) ∙ read_all text wide w' b s' in
    let h = ok_head (head (filled wide w)) (head (filled wide w')) (ap (λ (z : Ending). z.answer) same) in
    let r = ap (λ (z : Ending). z.rows) same in
    let g = gives wide w s in
    let g' = gives wide w' s' in
    record {
      time = ap (λ (x : Header). x.time) h;
      clocks = ap (λ (x : Header). x.clocks) h;
      positions = sym g.positions ∙ (ap (λ (x : Tables). taken x.positions) r ∙ g'.positions);
      moves = sym g.moves ∙ (ap (λ (x : Tables). taken x.moves) r ∙ g'.moves);
      outcomes = sym g.outcomes ∙ (ap (λ (x : Tables). taken x.outcomes) r ∙ g'.outcomes);
      goals = sym g.goals ∙ (ap (λ (x : Tables). taken x.goals) r ∙ g'.goals);
    }
