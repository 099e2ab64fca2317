-- The lines of a plan, in their order, lead to it.
use Rattle.std.proofs.Common.{◌≡◌, ℕ, ◌+◌, ◌<◌, ◌≤◌, true, not, eqb, List, [], ◌∷◌, ◌++◌, map, length, sym, refl, ap, ◌∙◌, subst, arith, length-set, lt-ltb}
use Rattle.std.proofs.lemmas.Bool.{and_from, true≢false}
use Rattle.bounds.specs.declared.time.PlanTime.{PlanTime}
use Rattle.plans.specs.declared.rows.Position.{Position}
use Rattle.plans.specs.declared.rows.Move.{Move}
use Rattle.plans.specs.declared.rows.Outcome.{Outcome}
use Rattle.plans.specs.declared.rows.Goal.{Goal}
use Rattle.plans.specs.RowLists.{Kept, put, emptied, raised}
use Rattle.texts.specs.declared.words.Letter.TheVariants as letters
use Rattle.texts.specs.declared.words.Phase.{Phase}
use Rattle.texts.specs.declared.words.Phase.TheVariants as phases
use Rattle.texts.specs.Words.{stands_at}
use Rattle.texts.specs.PlanRows.{Tables, has_room, open_sum, none_taken}
use Rattle.texts.proofs.StateFacts.{opens}
use Rattle.grammar.specs.BoxesWritten.{BoundText, FineBound, All, box_by}
use Rattle.grammar.specs.Written.{LineText, position, outcome, goal, OutcomeText, MoveText, GoalText, PlanText, move_lines, lines_of, position_row, move_row, outcome_row, outcome_rows, outcome_count, goal_row, sum_of, FineOutcome, FineMove, FineGoal, FinePlan}
use Rattle.grammar.specs.Grammar.{Supplied}
use Rattle.grammar.proofs.Standing.{Part, summed, with, Leads, Whole, empty}
use Rattle.grammar.proofs.RowsPut.{puts, puts_more, puts_used, puts_length, length_map, raise_put, raised_twice, raised_none}

-- a plan as far as it is written down, by its parts
abbrev pub at : Phase → PlanTime → ℕ → Kept Position → Kept Move → Kept Outcome → Kept Goal → Part
at ph k n P M O G = record { phase = ph; time = k; clocks = n; rows = record { positions = P; moves = M; outcomes = O; goals = G } }

leads_more : (a b c : Part) (xs ys : List LineText) → Leads a xs b → Leads b ys c → Leads a (xs ++ ys) c
leads_more a b c [] ys f g = subst (λ (x : Part). Leads x ys c) (sym f) g
leads_more a b c (x ∷ xs) ys f g = (f.0, leads_more (with a x) b c xs ys f.1 g)

pub room : {R : Type 0} (limit : ℕ) (k : Kept R) → k.used < limit → k.used < length k.rows → has_room limit k ≡ true
room limit k a b = and_from _ _ (lt-ltb k.used limit a) (lt-ltb k.used (length k.rows) b)

module _ (k : PlanTime) (n : ℕ) where
  leads_positions : (P : Kept Position) (M : Kept Move) (O : Kept Outcome) (G : Kept Goal) (ps : List (List BoundText)) → All (All (FineBound n)) ps → P.used + length ps ≤ 64 → P.used + length ps ≤ length P.rows → Leads (at phases.Positions k n P M O G) (map position ps) (at phases.Positions k n (puts P (map position_row ps)) M O G)
  leads_positions P M O G [] f a b = refl
  leads_positions P M O G (m ∷ ms) f a b = (
    record { order = refl; chances = λ _. refl; range = f.0; room = room 64 P (omega arith) (omega arith) },
    leads_positions (put P (position_row m)) M O G ms f.1 (omega arith) (omega (arith, length-set P.rows P.used (position_row m))),
  )

  leads_outcomes : (P : Kept Position) (l : Kept Move) (row : Move) (O : Kept Outcome) (G : Kept Goal) (os : List OutcomeText) → l.used < length l.rows → All (FineOutcome n P.used) os → O.used + length os ≤ 512 → O.used + length os ≤ length O.rows
      → Leads (at phases.Moves k n P (put l row) O G) (map outcome os) (at phases.Moves k n P (put l (raised row (sum_of os))) (puts O (map (outcome_row (l.used + 1)) os)) G)
  leads_outcomes P l row O G [] lt f a b = ap (λ (r : Move). at phases.Moves k n P (put l r) O G) (raised_none row)
  leads_outcomes P l row O G (o ∷ os) lt f a b =
      let x = outcome_row (l.used + 1) o in
      let O' = put O (outcome_row (l.used + 1) o) in
      let more = leads_outcomes P l (raised row o.chance) O' G os lt f.1 (omega arith) (omega (arith, length-set O.rows O.used (outcome_row (l.used + 1) o))) in
      let front = subst (λ (M : Kept Move). Leads (at phases.Moves k n P M O' G) (map outcome os) (at phases.Moves k n P (put l (raised (raised row o.chance) (sum_of os))) (puts O' (map (outcome_row (l.used + 1)) os)) G)) (sym (raise_put o.chance l row lt)) more in (
        record { order = refl; chances = λ w. absurd (true≢false w); range = f.0; room = room 512 O (omega arith) (omega arith) },
        subst (λ (r : Move). Leads (with (at phases.Moves k n P (put l row) O G) (outcome o)) (map outcome os) (at phases.Moves k n P (put l r) (puts O' (map (outcome_row (l.used + 1)) os)) G)) (raised_twice row o.chance (sum_of os)) front,
      )

  -- the phase after moves, and after goals
  abbrev pub past_moves : Phase → List MoveText → Phase
  past_moves ph [] = ph
  past_moves ph (m ∷ ms) = phases.Moves

  abbrev pub past_goals : Phase → List GoalText → Phase
  past_goals ph [] = ph
  past_goals ph (g ∷ gs) = phases.Goals

  -- where a move or a goal may follow
  record Open (b : Part) : Type 0 where
    move : stands_at letters.Move b.phase b.rows.positions.used ≡ true
    goal : stands_at letters.Goal b.phase b.rows.positions.used ≡ true
    sum : summed b ≡ true

  settled_move : (P : Kept Position) (M : Kept Move) (row : Move) (O : Kept Outcome) (G : Kept Goal) → M.used < length M.rows → row.sum ≡ 1000 → Open (at phases.Moves k n P (put M row) O G)
  settled_move P M row O G lt e =
      let s : open_sum (put M row) ≡ 1000 = opens M row lt ∙ e in
      record { move = refl; goal = refl; sum = ap (λ (x : ℕ). not (not (eqb x 1000))) s }

  record MovesLead (ph : Phase) (P : Kept Position) (M : Kept Move) (O : Kept Outcome) (G : Kept Goal) (ms : List MoveText) : Type 0 where
    leads : Leads (at ph k n P M O G) (move_lines ms) (at (past_moves ph ms) k n P (puts M (map move_row ms)) (puts O (outcome_rows (M.used + 1) ms)) G)
    after : Open (at (past_moves ph ms) k n P (puts M (map move_row ms)) (puts O (outcome_rows (M.used + 1) ms)) G)

  past_once : (ms : List MoveText) → past_moves phases.Moves ms ≡ phases.Moves
  past_once [] = refl
  past_once (m ∷ ms) = refl

  leads_moves : (ph : Phase) (P : Kept Position) (M : Kept Move) (O : Kept Outcome) (G : Kept Goal) (ms : List MoveText) → Open (at ph k n P M O G) → All (FineMove n P.used) ms → M.used + length ms ≤ 256 → M.used + length ms ≤ length M.rows → O.used + outcome_count ms ≤ 512 → O.used + outcome_count ms ≤ length O.rows → MovesLead ph P M O G ms
  leads_moves ph P M O G [] may f a b c d = record { leads = refl; after = may }
  leads_moves ph P M O G (m ∷ ms) may f a b c d =
      let row : Move = record { source = m.source; guard = box_by m.guard; sum = 0 } in
      let lt : M.used < length M.rows = omega arith in
      let os = map (outcome_row (M.used + 1)) m.outcomes in
      let long : length (map (outcome_row (M.used + 1)) m.outcomes) ≡ length m.outcomes = length_map (outcome_row (M.used + 1)) m.outcomes in
      let O' = puts O (map (outcome_row (M.used + 1)) m.outcomes) in
      let outs = leads_outcomes P M row O G m.outcomes lt f.0.outcomes (omega arith) (omega arith) in
      let sum : 0 + sum_of m.outcomes ≡ 1000 = omega (arith, f.0.sum) in
      let full : raised row (sum_of m.outcomes) ≡ move_row m = ap (λ (s : ℕ). record { source = m.source; guard = box_by m.guard; sum = s }) sum in
      let outs' = subst (λ (r : Move). Leads (at phases.Moves k n P (put M row) O G) (map outcome m.outcomes) (at phases.Moves k n P (put M r) O' G)) full outs in
      let M' = put M (move_row m) in
      let rest = leads_moves phases.Moves P M' O' G ms (settled_move P M (move_row m) O' G lt refl) f.1 (omega arith) (omega (arith, length-set M.rows M.used (move_row m))) (omega (arith, puts_used O os)) (omega (arith, puts_used O os, puts_length O os)) in
      let end = at phases.Moves k n P (puts M' (map move_row ms)) (puts O (outcome_rows (M.used + 1) (m ∷ ms))) G in
      let same : at (past_moves phases.Moves ms) k n P (puts M' (map move_row ms)) (puts O' (outcome_rows (M.used + 1 + 1) ms)) G ≡ at phases.Moves k n P (puts M' (map move_row ms)) (puts O (outcome_rows (M.used + 1) (m ∷ ms))) G = (λ i. at (past_once ms i) k n P (puts M' (map move_row ms)) (sym (puts_more O os (outcome_rows (M.used + 1 + 1) ms)) i) G) in
      record {
        leads = (
          record { order = may.move; chances = λ _. may.sum; range = (f.0.source, f.0.guard); room = room 256 M (omega arith) lt },
          leads_more _ _ _ (map outcome m.outcomes) (move_lines ms) outs' (subst (λ (e : Part). Leads (at phases.Moves k n P M' O' G) (move_lines ms) e) same rest.leads),
        );
        after = subst Open same rest.after;
      }

  record GoalsLead (ph : Phase) (P : Kept Position) (M : Kept Move) (O : Kept Outcome) (G : Kept Goal) (gs : List GoalText) : Type 0 where
    leads : Leads (at ph k n P M O G) (map goal gs) (at (past_goals ph gs) k n P M O (puts G (map goal_row gs)))
    whole : Whole (at (past_goals ph gs) k n P M O (puts G (map goal_row gs)))

  past_last : (gs : List GoalText) → past_goals phases.Goals gs ≡ phases.Goals
  past_last [] = refl
  past_last (g ∷ gs) = refl

  leads_goals : (ph : Phase) (P : Kept Position) (M : Kept Move) (O : Kept Outcome) (G : Kept Goal) (gs : List GoalText) → stands_at letters.Goal ph P.used ≡ true → summed (at ph k n P M O G) ≡ true → All (FineGoal n P.used) gs → G.used + length gs ≤ 64 → G.used + length gs ≤ length G.rows → GoalsLead ph P M O G gs
  leads_goals ph P M O G [] order sum f a b = record { leads = refl; whole = record { some = order; chances = sum } }
  leads_goals ph P M O G (g ∷ gs) order sum f a b =
      let G' = put G (goal_row g) in
      let rest = leads_goals phases.Goals P M O G' gs refl refl f.1 (omega arith) (omega (arith, length-set G.rows G.used (goal_row g))) in
      let same = ap (λ (ph : Phase). at ph k n P M O (puts G' (map goal_row gs))) (past_last gs) in
      record {
        leads = (record { order = order; chances = λ _. sum; range = f.0; room = room 64 G (omega arith) (omega arith) }, subst (λ (e : Part). Leads (at phases.Goals k n P M O G') (map goal gs) e) same rest.leads);
        whole = subst Whole same rest.whole;
      }

-- what the whole plan leads to
abbrev pub filled : Tables → PlanText → Part
filled t w =
    at (past_goals w.time w.clocks (past_moves w.time w.clocks phases.Positions w.moves) w.goals) w.time w.clocks
    (puts (emptied t.positions) (map position_row w.positions))
    (puts (emptied t.moves) (map move_row w.moves))
    (puts (emptied t.outcomes) (outcome_rows 1 w.moves))
    (puts (emptied t.goals) (map goal_row w.goals))

pub record PlanLeads (t : Tables) (w : PlanText) : Type 0 where
  pub leads : Leads (empty (none_taken t)) (lines_of w) (filled t w)
  pub whole : Whole (filled t w)

pub plan_leads : (t : Tables) (w : PlanText) → FinePlan w → Supplied t w → PlanLeads t w
plan_leads t w f s =
    let k = w.time in
    let n = w.clocks in
    let ps = map position_row w.positions in
    let P = puts (emptied t.positions) (map position_row w.positions) in
    let M = emptied t.moves in
    let O = emptied t.outcomes in
    let G = emptied t.goals in
    let used : (puts (emptied t.positions) (map position_row w.positions)).used ≡ length w.positions = omega (arith, puts_used (emptied t.positions) (map position_row w.positions), length_map position_row w.positions) in
    let some : stands_at letters.Goal phases.Positions (puts (emptied t.positions) (map position_row w.positions)).used ≡ true = lt-ltb 0 _ (omega (arith, used, f.count.low)) in
    let one = leads_positions k n (emptied t.positions) M O G w.positions f.positions (omega (arith, f.count.high)) (omega (arith, s.positions)) in
    let two = leads_moves k n phases.Positions P M O G w.moves (record { move = some; goal = some; sum = refl }) (subst (λ (p : ℕ). All (FineMove n p) w.moves) (sym used) f.moves) (omega (arith, f.few_moves)) (omega (arith, s.moves)) (omega (arith, f.few_outcomes)) (omega (arith, s.outcomes)) in
    let three = leads_goals k n (past_moves k n phases.Positions w.moves) P (puts M (map move_row w.moves)) (puts O (outcome_rows 1 w.moves)) G w.goals two.after.goal two.after.sum (subst (λ (p : ℕ). All (FineGoal n p) w.goals) (sym used) f.goals) (omega (arith, f.few_goals)) (omega (arith, s.goals)) in
    record {
      leads = (
        record { order = refl; chances = λ _. refl; range = f.clocks; room = refl },
        leads_more _ _ _ (map position w.positions) (move_lines w.moves ++ map goal w.goals) one (leads_more _ _ _ (move_lines w.moves) (map goal w.goals) two.leads three.leads),
      );
      whole = three.whole;
    }
