-- Lines that lead to a whole plan are the lines of a plan, in their order.
use Rattle.std.proofs.Common.{◌≡◌, ℕ, suc, ◌+◌, ◌-◌, ◌<◌, ◌≤◌, true, false, not, eqb, List, [], ◌∷◌, ◌++◌, map, length, sym, refl, ap, ◌∙◌, subst, append_assoc, arith, length-set}
use Rattle.std.proofs.lemmas.Bool.Decides.{nat_tests}
use Rattle.std.proofs.lemmas.Bool.{ltb-true}
use Rattle.bounds.specs.declared.time.PlanTime.{PlanTime}
use Rattle.plans.specs.declared.rows.Position.{Position}
use Rattle.plans.specs.declared.rows.Move.{Move}
use Rattle.plans.specs.declared.rows.Outcome.{Outcome}
use Rattle.plans.specs.declared.rows.Goal.{Goal}
use Rattle.plans.specs.RowLists.{Kept, put, emptied, raised}
use Rattle.plans.specs.RowLists.{move_row as held-row}
use Rattle.texts.specs.declared.words.Phase.TheVariants as phases
use Rattle.texts.specs.PlanRows.{Tables, open_sum, raised_open, none_taken}
use Rattle.texts.proofs.StateFacts.{opens, raises, room_parts}
use Rattle.grammar.specs.BoxesWritten.{BoundText, FineBound, All, box_by}
use Rattle.grammar.specs.Written.{LineText, time, position, move, outcome, goal, OutcomeText, MoveText, GoalText, PlanText, move_lines, lines_of, position_row, outcome_row, outcome_count, goal_row, sum_of, FineOutcome, FineMove, FineGoal, FinePlan}
use Rattle.grammar.specs.Grammar.{Supplied}
use Rattle.grammar.proofs.Standing.{Part, summed, Leads, Whole, empty}
use Rattle.grammar.proofs.ShapeLeads.{at}

-- one more row fits, and then so many
record Fits {R : Type 0} (limit : ℕ) (k : Kept R) (more : ℕ) : Type 0 where
  few : k.used + more ≤ limit
  there : k.used + more ≤ length k.rows

fits_one : {R : Type 0} (limit : ℕ) (k : Kept R) (x : R) (more : ℕ) → Fits limit (put k x) more → Fits limit k (suc more)
fits_one limit k x more f = record { few = omega (arith, f.few); there = omega (arith, f.there, length-set k.rows k.used x) }

fits_put : {R : Type 0} (limit : ℕ) (k : Kept R) (x : R) → (k.used < limit) × (k.used < length k.rows) → Fits limit (put k x) 0
fits_put limit k x h = record { few = omega (arith, h.0); there = omega (arith, h.1, length-set k.rows k.used x) }

false_never : {X : Type 0} → false ≡ true → X
false_never e = absurd (let z : ◌≡◌ {A = ℕ} 0 1 = cc in omega arith)

-- ---- goals
record GoalsShape (n p : ℕ) (G : Kept Goal) (items : List LineText) : Type 0 where
  goals : List GoalText
  is : items ≡ map goal goals
  fine : All (FineGoal n p) goals
  fits : Fits 64 G (length goals)

goals_shape : (k : PlanTime) (n : ℕ) (P : Kept Position) (M : Kept Move) (O : Kept Outcome) (G : Kept Goal) (items : List LineText) (e : Part) → Fits 64 G 0 → Leads (at phases.Goals k n P M O G) items e → GoalsShape n P.used G items
goals_shape k n P M O G [] e h l = record { goals = []; is = refl; fine = tt; fits = h }
goals_shape k n P M O G (time k' n' ∷ is) e h l = false_never l.0.order
goals_shape k n P M O G (position ms ∷ is) e h l = false_never l.0.order
goals_shape k n P M O G (move f ms ∷ is) e h l = false_never l.0.order
goals_shape k n P M O G (outcome o ∷ is) e h l = false_never l.0.order
goals_shape k n P M O G (goal g ∷ is) e h l =
    let rest = goals_shape k n P M O (put G (goal_row g)) is e (fits_put 64 G (goal_row g) (room_parts 64 G l.0.room)) l.1 in
    record { goals = g ∷ rest.goals; is = ap (λ xs. goal g ∷ xs) rest.is; fine = (l.0.range, rest.fine); fits = fits_one 64 G (goal_row g) (length rest.goals) rest.fits }

-- ---- moves
record MovesShape (n p : ℕ) (M : Kept Move) (O : Kept Outcome) (G : Kept Goal) (items : List LineText) : Type 0 where
  outcomes : List OutcomeText
  moves : List MoveText
  goals : List GoalText
  is : items ≡ map outcome outcomes ++ (move_lines moves ++ map goal goals)
  fine_outcomes : All (FineOutcome n p) outcomes
  fine_moves : All (FineMove n p) moves
  fine_goals : All (FineGoal n p) goals
  sum : open_sum M + sum_of outcomes ≡ 1000
  fits_moves : Fits 256 M (length moves)
  fits_outcomes : Fits 512 O (length outcomes + outcome_count moves)
  fits_goals : Fits 64 G (length goals)

-- the open move's chances add up
summed_there : (k : PlanTime) (n : ℕ) (P : Kept Position) (M : Kept Move) (O : Kept Outcome) (G : Kept Goal) → summed (at phases.Moves k n P M O G) ≡ true → open_sum M + 0 ≡ 1000
summed_there k n P M O G e = equal (open_sum M) e where
  equal : (x : ℕ) → not (not (eqb x 1000)) ≡ true → x + 0 ≡ 1000
  equal x h = grind (arith, nat_tests)

moves_shape : (k : PlanTime) (n : ℕ) (P : Kept Position) (M : Kept Move) (O : Kept Outcome) (G : Kept Goal) (items : List LineText) (e : Part) → 1 ≤ M.used → Fits 256 M 0 → Fits 512 O 0 → Fits 64 G 0 → Leads (at phases.Moves k n P M O G) items e → Whole e → MovesShape n P.used M O G items
moves_shape k n P M O G [] e one m o g l w =
    record {
      outcomes = [];
      moves = [];
      goals = [];
      is = refl;
      fine_outcomes = tt;
      fine_moves = tt;
      fine_goals = tt;
      sum = summed_there k n P M O G (subst Whole (sym l) w).chances;
      fits_moves = m;
      fits_outcomes = o;
      fits_goals = g;
    }
moves_shape k n P M O G (time k' n' ∷ is) e one m o g l w = false_never l.0.order
moves_shape k n P M O G (position ms ∷ is) e one m o g l w = false_never l.0.order
moves_shape k n P M O G (goal x ∷ is) e one m o g l w =
    let rest = goals_shape k n P M O (put G (goal_row x)) is e (fits_put 64 G (goal_row x) (room_parts 64 G l.0.room)) l.1 in
    record {
      outcomes = [];
      moves = [];
      goals = x ∷ rest.goals;
      is = ap (λ xs. goal x ∷ xs) rest.is;
      fine_outcomes = tt;
      fine_moves = tt;
      fine_goals = (l.0.range, rest.fine);
      sum = summed_there k n P M O G (l.0.chances refl);
      fits_moves = m;
      fits_outcomes = o;
      fits_goals = fits_one 64 G (goal_row x) (length rest.goals) rest.fits;
    }
moves_shape k n P M O G (outcome x ∷ is) e one m o g l w =
    let row = outcome_row M.used x in
    let rest = moves_shape k n P (raised_open x.chance M) (put O (outcome_row M.used x)) G is e one (record { few = m.few; there = omega (arith, m.there, length-set M.rows (M.used - 1) (raised (held-row M M.used) x.chance)) }) (fits_put 512 O (outcome_row M.used x) (room_parts 512 O l.0.room)) g l.1 w in
    record {
      outcomes = x ∷ rest.outcomes;
      moves = rest.moves;
      goals = rest.goals;
      is = ap (λ xs. outcome x ∷ xs) rest.is;
      fine_outcomes = (l.0.range, rest.fine_outcomes);
      fine_moves = rest.fine_moves;
      fine_goals = rest.fine_goals;
      sum = omega (arith, rest.sum, raises x.chance M one (omega (arith, m.there)));
      fits_moves = record { few = rest.fits_moves.few; there = omega (arith, rest.fits_moves.there, length-set M.rows (M.used - 1) (raised (held-row M M.used) x.chance)) };
      fits_outcomes =
          let f = fits_one 512 O (outcome_row M.used x) (length rest.outcomes + outcome_count rest.moves) rest.fits_outcomes in
          record { few = omega (arith, f.few); there = omega (arith, f.there) };
      fits_goals = rest.fits_goals;
    }
moves_shape k n P M O G (move f ms ∷ is) e one m o g l w =
    let row : Move = record { source = f; guard = box_by ms; sum = 0 } in
    let space = room_parts 256 M l.0.room in
    let rest = moves_shape k n P (put M row) O G is e (omega arith) (fits_put 256 M row space) o g l.1 w in
    let x : MoveText = record { source = f; guard = ms; outcomes = rest.outcomes } in
    record {
      outcomes = [];
      moves = record { source = f; guard = ms; outcomes = rest.outcomes } ∷ rest.moves;
      goals = rest.goals;
      is = ap (λ xs. move f ms ∷ xs) (rest.is ∙ sym (append_assoc (map outcome rest.outcomes) (move_lines rest.moves) (map goal rest.goals)));
      fine_outcomes = tt;
      fine_moves = (record { source = l.0.range.0; guard = l.0.range.1; outcomes = rest.fine_outcomes; sum = omega (arith, rest.sum, opens M row space.1) }, rest.fine_moves);
      fine_goals = rest.fine_goals;
      sum = summed_there k n P M O G (l.0.chances refl);
      fits_moves = fits_one 256 M row (length rest.moves) rest.fits_moves;
      fits_outcomes = record { few = omega (arith, rest.fits_outcomes.few); there = omega (arith, rest.fits_outcomes.there) };
      fits_goals = rest.fits_goals;
    }

-- ---- positions
record PositionsShape (n : ℕ) (P : Kept Position) (M : Kept Move) (O : Kept Outcome) (G : Kept Goal) (items : List LineText) : Type 0 where
  positions : List (List BoundText)
  moves : List MoveText
  goals : List GoalText
  is : items ≡ map position positions ++ (move_lines moves ++ map goal goals)
  some : 1 ≤ P.used + length positions
  fine_positions : All (All (FineBound n)) positions
  fine_moves : All (FineMove n (P.used + length positions)) moves
  fine_goals : All (FineGoal n (P.used + length positions)) goals
  fits_positions : Fits 64 P (length positions)
  fits_moves : Fits 256 M (length moves)
  fits_outcomes : Fits 512 O (outcome_count moves)
  fits_goals : Fits 64 G (length goals)

positions_shape : (k : PlanTime) (n : ℕ) (P : Kept Position) (M : Kept Move) (O : Kept Outcome) (G : Kept Goal) (items : List LineText) (e : Part) → Fits 64 P 0 → Fits 256 M 0 → Fits 512 O 0 → Fits 64 G 0 → Leads (at phases.Positions k n P M O G) items e → Whole e → PositionsShape n P M O G items
positions_shape k n P M O G [] e p m o g l w =
    record {
      positions = [];
      moves = [];
      goals = [];
      is = refl;
      some = omega (arith, ltb-true 0 P.used (subst Whole (sym l) w).some);
      fine_positions = tt;
      fine_moves = tt;
      fine_goals = tt;
      fits_positions = p;
      fits_moves = m;
      fits_outcomes = o;
      fits_goals = g;
    }
positions_shape k n P M O G (time k' n' ∷ is) e p m o g l w = false_never l.0.order
positions_shape k n P M O G (outcome x ∷ is) e p m o g l w = false_never l.0.order
positions_shape k n P M O G (position ms ∷ is) e p m o g l w =
    let rest = positions_shape k n (put P (position_row ms)) M O G is e (fits_put 64 P (position_row ms) (room_parts 64 P l.0.room)) m o g l.1 w in
    let same : P.used + 1 + length rest.positions ≡ P.used + suc (length rest.positions) = omega arith in
    record {
      positions = ms ∷ rest.positions;
      moves = rest.moves;
      goals = rest.goals;
      is = ap (λ xs. position ms ∷ xs) rest.is;
      some = omega arith;
      fine_positions = (l.0.range, rest.fine_positions);
      fine_moves = subst (λ (c : ℕ). All (FineMove n c) rest.moves) same rest.fine_moves;
      fine_goals = subst (λ (c : ℕ). All (FineGoal n c) rest.goals) same rest.fine_goals;
      fits_positions = fits_one 64 P (position_row ms) (length rest.positions) rest.fits_positions;
      fits_moves = rest.fits_moves;
      fits_outcomes = rest.fits_outcomes;
      fits_goals = rest.fits_goals;
    }
positions_shape k n P M O G (goal x ∷ is) e p m o g l w =
    let rest = goals_shape k n P M O (put G (goal_row x)) is e (fits_put 64 G (goal_row x) (room_parts 64 G l.0.room)) l.1 in
    let same : P.used ≡ P.used + 0 = omega arith in
    record {
      positions = [];
      moves = [];
      goals = x ∷ rest.goals;
      is = ap (λ xs. goal x ∷ xs) rest.is;
      some = omega (arith, ltb-true 0 P.used l.0.order);
      fine_positions = tt;
      fine_moves = tt;
      fine_goals = subst (λ (c : ℕ). All (FineGoal n c) (x ∷ rest.goals)) same (l.0.range, rest.fine);
      fits_positions = p;
      fits_moves = m;
      fits_outcomes = o;
      fits_goals = fits_one 64 G (goal_row x) (length rest.goals) rest.fits;
    }
positions_shape k n P M O G (move f ms ∷ is) e p m o g l w =
    let row : Move = record { source = f; guard = box_by ms; sum = 0 } in
    let space = room_parts 256 M l.0.room in
    let rest = moves_shape k n P (put M row) O G is e (omega arith) (fits_put 256 M row space) o g l.1 w in
    let same : P.used ≡ P.used + 0 = omega arith in
    let x : MoveText = record { source = f; guard = ms; outcomes = rest.outcomes } in
    record {
      positions = [];
      moves = record { source = f; guard = ms; outcomes = rest.outcomes } ∷ rest.moves;
      goals = rest.goals;
      is = ap (λ xs. move f ms ∷ xs) (rest.is ∙ sym (append_assoc (map outcome rest.outcomes) (move_lines rest.moves) (map goal rest.goals)));
      some = omega (arith, ltb-true 0 P.used l.0.order);
      fine_positions = tt;
      fine_moves = subst (λ (c : ℕ). All (FineMove n c) (record { source = f; guard = ms; outcomes = rest.outcomes } ∷ rest.moves)) same (record { source = l.0.range.0; guard = l.0.range.1; outcomes = rest.fine_outcomes; sum = omega (arith, rest.sum, opens M row space.1) }, rest.fine_moves);
      fine_goals = subst (λ (c : ℕ). All (FineGoal n c) rest.goals) same rest.fine_goals;
      fits_positions = p;
      fits_moves = fits_one 256 M row (length rest.moves) rest.fits_moves;
      fits_outcomes = record { few = omega (arith, rest.fits_outcomes.few); there = omega (arith, rest.fits_outcomes.there) };
      fits_goals = rest.fits_goals;
    }

-- ---- the whole text
pub record PlanShape (t : Tables) (items : List LineText) : Type 0 where
  pub plan : PlanText
  pub is : items ≡ lines_of plan
  pub fine : FinePlan plan
  pub supplied : Supplied t plan

none_yet : {R : Type 0} (limit : ℕ) (k : Kept R) → Fits limit (emptied k) 0
none_yet limit k = record { few = omega arith; there = omega arith }

pub plan_shape : (t : Tables) (items : List LineText) (e : Part) → Leads (empty (none_taken t)) items e → Whole e → PlanShape t items
plan_shape t [] e l w = false_never (subst Whole (sym l) w).some
plan_shape t (position ms ∷ is) e l w = false_never l.0.order
plan_shape t (move f ms ∷ is) e l w = false_never l.0.order
plan_shape t (outcome x ∷ is) e l w = false_never l.0.order
plan_shape t (goal x ∷ is) e l w = false_never l.0.order
plan_shape t (time k n ∷ is) e l w =
    let rest = positions_shape k n (emptied t.positions) (emptied t.moves) (emptied t.outcomes) (emptied t.goals) is e (none_yet 64 t.positions) (none_yet 256 t.moves) (none_yet 512 t.outcomes) (none_yet 64 t.goals) l.1 w in
    let same : 0 + length rest.positions ≡ length rest.positions = omega arith in
    record {
      plan = record { time = k; clocks = n; positions = rest.positions; moves = rest.moves; goals = rest.goals };
      is = ap (λ xs. time k n ∷ xs) rest.is;
      fine = record {
        clocks = l.0.range;
        count = record { low = omega (arith, rest.some); high = omega (arith, rest.fits_positions.few) };
        few_moves = omega (arith, rest.fits_moves.few);
        few_outcomes = omega (arith, rest.fits_outcomes.few);
        few_goals = omega (arith, rest.fits_goals.few);
        positions = rest.fine_positions;
        moves = subst (λ (c : ℕ). All (FineMove n c) rest.moves) same rest.fine_moves;
        goals = subst (λ (c : ℕ). All (FineGoal n c) rest.goals) same rest.fine_goals;
      };
      supplied = record { positions = omega (arith, rest.fits_positions.there); moves = omega (arith, rest.fits_moves.there); outcomes = omega (arith, rest.fits_outcomes.there); goals = omega (arith, rest.fits_goals.there) };
    }
