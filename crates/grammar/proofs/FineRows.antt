-- The rows that a plan text writes pass the row check.
use Rattle.std.proofs.Common.{◌≡◌, ℕ, zero, suc, ◌+◌, ◌-◌, ◌<◌, ◌≤◌, Bool, true, false, cond, eqb, ◌≢◌, List, [], ◌∷◌, ◌++◌, map, length, get_or, set, replicate, Some, None, Ok, Err, Option, Result, sym, refl, ap, ◌∙◌, subst, arith, length-set, get_or-set_other, get_or-set_same, eq-eqb, ne_eqb}
use Rattle.std.proofs.lemmas.Int.{ints}
use Rattle.std.proofs.lemmas.Bool.{cond-true, cond-false, eqb-true}
use Rattle.bounds.specs.declared.bound.Bound.{Bound}
use Rattle.zones.specs.declared.boxes.Side.{Side}
use Rattle.zones.specs.Boxes.{no_side}
use Rattle.plans.specs.declared.rows.Position.{Position}
use Rattle.plans.specs.declared.rows.Move.{Move}
use Rattle.plans.specs.declared.rows.Outcome.{Outcome}
use Rattle.plans.specs.declared.rows.Goal.{Goal}
use Rattle.plans.specs.Boxes.{BoxOf, InRange, blank}
use Rattle.plans.specs.Items.{Names}
use Rattle.plans.specs.Meaning.{OutcomeOf, chances, no_position, no_outcome, no_goal}
use Rattle.plans.specs.RowLists.{no_move, taken}
use Rattle.texts.specs.declared.header.Header.{Header}
use Rattle.texts.specs.Faults.{Fault}
use Rattle.texts.specs.PlanRows.{Tables}
use Rattle.grammar.specs.Grammar.{KeepsTo}
use Rattle.grammar.specs.Tables.{PassesCheck}
use Rattle.plans.specs.RowChecks.{RowsFine}
use Rattle.texts.specs.BoxFields.{tighter, tightest, side_with, no_sides, tightened}
use Rattle.grammar.specs.BoxesWritten.{BoundText, OneOf, FineBound, All, held, tightened_by, box_by, marked_by}
use Rattle.grammar.specs.Written.{OutcomeText, MoveText, PlanText, position_row, move_row, outcome_row, outcome_rows, goal_row, sum_of, FineOutcome, FineMove, FineGoal, FinePlan}
use Rattle.grammar.proofs.RowsPut.{length_map}
use Rattle.grammar.proofs.Accepted.{count_rows}

-- ---- lists
pub at_place : {R : Type 0} (Q : R → Type 0) (d : R) (xs : List R) → All Q xs → (j : ℕ) → j < length xs → Q (get_or xs j d)
at_place Q d [] h j lt = absurd (omega arith)
at_place Q d (x ∷ xs) h zero lt = h.0
at_place Q d (x ∷ xs) h (suc j) lt = at_place Q d xs h.1 j (omega arith)

all_map : {X R : Type 0} (f : X → R) (P : X → Type 0) (Q : R → Type 0) → ((x : X) → P x → Q (f x)) → (xs : List X) → All P xs → All Q (map f xs)
all_map f P Q g [] h = tt
all_map f P Q g (x ∷ xs) h = (g x h.0, all_map f P Q g xs h.1)

all_more : {R : Type 0} (Q : R → Type 0) (xs ys : List R) → All Q xs → All Q ys → All Q (xs ++ ys)
all_more Q [] ys f g = g
all_more Q (x ∷ xs) ys f g = (f.0, all_more Q xs ys f.1 g)

-- what stands at i once x is put at k
set_at : {R : Type 0} (Q : R → Type 0) (xs : List R) (k : ℕ) (x d : R) (i : ℕ) → k < length xs → Q x → Q (get_or xs i d) → Q (get_or (set xs k x) i d)
set_at Q xs k x d i lt new old =
    elim (eqb i k) as (λ t. eqb i k ≡ t → Q (get_or (set xs k x) i d)) [
      | true ↦ λ e. let is : k ≡ i = sym (eqb-true i k e) in subst (λ (j : ℕ). Q (get_or (set xs k x) j d)) is (subst Q (sym (get_or-set_same xs k x d lt)) new)
      | false ↦ λ e. let ne : i ≢ k = λ q. let y = eq-eqb i k q in let z : ◌≡◌ {A = ℕ} 0 1 = cc in omega arith in subst Q (sym (get_or-set_other xs k i x d ne)) old
    ] refl

-- ---- boxes
tightest_range : (u : Bool) (o : Option Bound) (b : Bound) → InRange o → InRange (Some b) → InRange (tightest u o b)
tightest_range u None b f g = g
tightest_range u (Some a) b f g = elim (tighter u b a) as (λ t. InRange (cond t (Some b) (Some a))) [ true ↦ g | false ↦ f ]

record GoodSide (s : Side) : Type 0 where
  low : InRange s.lower
  high : InRange s.upper

good_with : (s : Side) (u : Bool) (b : Bound) → GoodSide s → InRange (Some b) → GoodSide (side_with s u b)
good_with s true b g r = record { low = g.low; high = tightest_range true s.upper b g.high r }
good_with s false b g r = record { low = tightest_range false s.lower b g.low r; high = g.high }

record GoodSides (n : ℕ) (sides : List Side) : Type 0 where
  eight : length sides ≡ 8
  free : (i : ℕ) → n ≤ i → blank (get_or sides i no_side) ≡ true
  good : (i : ℕ) → GoodSide (get_or sides i no_side)

in_range : (m : BoundText) → m.number ≤ 1000000 → InRange (Some (held m).bound)
in_range m h = (omega (arith, ints), omega (arith, ints))

good_more : (n : ℕ) (sides : List Side) (m : BoundText) → n ≤ 8 → GoodSides n sides → FineBound n m → GoodSides n (tightened sides (held m))
unfolding tightened
good_more n sides m few g f =
    let k = m.clock - 1 in
    let lt : m.clock - 1 < length sides = omega (arith, g.eight, f.clock.low, f.clock.high) in
    let x = side_with (get_or sides (m.clock - 1) no_side) m.upper (held m).bound in
    record {
      eight = length-set sides (m.clock - 1) (side_with (get_or sides (m.clock - 1) no_side) m.upper (held m).bound) ∙ g.eight;
      free = λ i le. let ne : i ≢ m.clock - 1 = λ q. omega (arith, f.clock.low, f.clock.high) in ap blank (get_or-set_other sides (m.clock - 1) i (side_with (get_or sides (m.clock - 1) no_side) m.upper (held m).bound) no_side ne) ∙ g.free i le;
      good = λ i. set_at GoodSide sides (m.clock - 1) (side_with (get_or sides (m.clock - 1) no_side) m.upper (held m).bound) no_side i lt (good_with (get_or sides (m.clock - 1) no_side) m.upper (held m).bound (g.good (m.clock - 1)) (in_range m f.number)) (g.good i);
    }

good_by : (n : ℕ) (sides : List Side) (ms : List BoundText) → n ≤ 8 → GoodSides n sides → All (FineBound n) ms → GoodSides n (tightened_by sides ms)
unfolding tightened_by
good_by n sides [] few g f = g
good_by n sides (m ∷ ms) few g f = good_by n (tightened sides (held m)) ms few (good_more n sides m few g f.0) f.1

pub same_place : {R : Type 0} (c : ℕ) (x : R) (i : ℕ) → get_or (replicate c x) i x ≡ x
same_place zero x i = refl
same_place (suc c) x zero = refl
same_place (suc c) x (suc i) = same_place c x i

none_good : (n : ℕ) → GoodSides n no_sides
none_good n = record {
  eight = refl;
  free = λ i le. ap blank (same_place 8 no_side i);
  good = λ i. subst GoodSide (sym (same_place 8 no_side i)) (record { low = tt; high = tt });
}

pub fine_box : (n : ℕ) (ms : List BoundText) → n ≤ 8 → All (FineBound n) ms → BoxOf n (box_by ms)
fine_box n ms few f =
    let g = good_by n no_sides ms few (none_good n) f in
    record { eight = g.eight; free = g.free; low = λ i lt. (g.good i).low; high = λ i lt. (g.good i).high }

-- ---- clock lists
fine_marks : (n : ℕ) (ms : List Bool) (cs : List ℕ) → n ≤ 8 → ((i : ℕ) → n ≤ i → get_or ms i false ≡ false) → All (OneOf n) cs → (i : ℕ) → n ≤ i → get_or (marked_by ms cs) i false ≡ false
unfolding marked_by
fine_marks n ms [] few h f i le = h i le
fine_marks n ms (c ∷ cs) few h f i le =
    fine_marks n (set ms (c - 1) true) cs few
    (λ j lj. let ne : j ≢ c - 1 = λ q. omega (arith, f.0.low, f.0.high) in get_or-set_other ms (c - 1) j true false ne ∙ h j lj)
    f.1 i le

-- ---- outcomes and their chances
fine_outcome : (n p total k : ℕ) (o : OutcomeText) → n ≤ 8 → Names total k → FineOutcome n p o → OutcomeOf n p total (outcome_row k o)
fine_outcome n p total k o few h f = record {
  cause = h;
  chance = f.chance;
  target = (f.target.low, f.target.high);
  resets = fine_marks n (replicate 8 false) o.clocks few (λ i le. same_place 8 false i) f.clocks;
}

fine_outcomes : (n p total k : ℕ) (ms : List MoveText) → n ≤ 8 → 1 ≤ k → k + length ms ≤ total + 1 → All (FineMove n p) ms → All (OutcomeOf n p total) (outcome_rows k ms)
fine_outcomes n p total k [] few one h f = tt
fine_outcomes n p total k (m ∷ ms) few one h f =
    all_more (OutcomeOf n p total) (map (outcome_row k) m.outcomes) (outcome_rows (k + 1) ms)
    (all_map (outcome_row k) (FineOutcome n p) (OutcomeOf n p total) (λ o g. fine_outcome n p total k o few (one, omega arith) g) m.outcomes f.0.outcomes)
    (fine_outcomes n p total (k + 1) ms few (omega arith) (omega arith) f.1)

chances_more : (j : ℕ) (xs ys : List Outcome) → chances j (xs ++ ys) ≡ chances j xs + chances j ys
chances_more j [] ys = omega arith
chances_more j (x ∷ xs) ys = omega (arith, chances_more j xs ys)

chances_own : (k : ℕ) (os : List OutcomeText) → chances k (map (outcome_row k) os) ≡ sum_of os
chances_own k [] = refl
chances_own k (o ∷ os) = let e = cond-true (eqb k k) o.chance 0 (eq-eqb k k refl) in omega (arith, e, chances_own k os)

chances_other : (j k : ℕ) (os : List OutcomeText) → (k ≡ j → ⊥) → chances j (map (outcome_row k) os) ≡ 0
chances_other j k [] ne = refl
chances_other j k (o ∷ os) ne = let e = cond-false (eqb k j) o.chance 0 (ne_eqb k j ne) in omega (arith, e, chances_other j k os ne)

chances_later : (j k : ℕ) (ms : List MoveText) → j < k → chances j (outcome_rows k ms) ≡ 0
chances_later j k [] lt = refl
chances_later j k (m ∷ ms) lt = omega (arith, chances_more j (map (outcome_row k) m.outcomes) (outcome_rows (k + 1) ms), chances_other j k m.outcomes (λ q. omega arith), chances_later j (k + 1) ms (omega arith))

chances_all : (n p j k : ℕ) (ms : List MoveText) → k ≤ j → j < k + length ms → All (FineMove n p) ms → chances j (outcome_rows k ms) ≡ 1000
chances_all n p j k [] le lt f = absurd (omega arith)
chances_all n p j k (m ∷ ms) le lt f =
    let more = chances_more j (map (outcome_row k) m.outcomes) (outcome_rows (k + 1) ms) in
    elim (eqb k j) as (λ t. eqb k j ≡ t → chances j (map (outcome_row k) m.outcomes ++ outcome_rows (k + 1) ms) ≡ 1000) [
      | true ↦ λ e.
          let is : k ≡ j = eqb-true k j e in
          let own : chances j (map (outcome_row k) m.outcomes) ≡ sum_of m.outcomes = ap (λ (x : ℕ). chances x (map (outcome_row k) m.outcomes)) (sym is) ∙ chances_own k m.outcomes in
          omega (arith, more, own, f.0.sum, chances_later j (k + 1) ms (omega arith))
      | false ↦ λ e.
          let ne : k ≡ j → ⊥ = λ q. let y = eq-eqb k j q in let z : ◌≡◌ {A = ℕ} 0 1 = cc in omega arith in
          omega (arith, more, chances_other j k m.outcomes ne, chances_all n p j (k + 1) ms (omega arith) (omega arith) f.1)
    ] refl

-- ---- the whole plan
pub rows_fine : (w : PlanText) → FinePlan w → RowsFine w.clocks (map position_row w.positions) (map move_row w.moves) (outcome_rows 1 w.moves) (map goal_row w.goals)
rows_fine w f =
    let n = w.clocks in
    let few = f.clocks.high in
    let p = length_map position_row w.positions in
    let v = length_map move_row w.moves in
    record {
      sized = record {
        clocks = (f.clocks.low, f.clocks.high);
        rows = record {
          positions = (omega (arith, p, f.count.low), omega (arith, p, f.count.high));
          moves = omega (arith, v, f.few_moves);
          outcomes = omega (arith, count_rows 1 w.moves, f.few_outcomes);
          goals = omega (arith, length_map goal_row w.goals, f.few_goals);
        };
      };
      positions = at_place (λ r. BoxOf w.clocks r.invariant) no_position (map position_row w.positions) (all_map position_row (All (FineBound w.clocks)) (λ r. BoxOf w.clocks r.invariant) (λ ms h. fine_box w.clocks ms few h) w.positions f.positions);
      moves = at_place (λ r. Names (length (map position_row w.positions)) r.source × BoxOf w.clocks r.guard) no_move (map move_row w.moves) (all_map move_row (FineMove w.clocks (length w.positions)) (λ r. Names (length (map position_row w.positions)) r.source × BoxOf w.clocks r.guard) (λ m h. ((h.source.low, omega (arith, p, h.source.high)), fine_box w.clocks m.guard few h.guard)) w.moves f.moves);
      outcomes = at_place (OutcomeOf w.clocks (length (map position_row w.positions)) (length (map move_row w.moves))) no_outcome (outcome_rows 1 w.moves) (fine_outcomes w.clocks (length (map position_row w.positions)) (length (map move_row w.moves)) 1 w.moves few (omega arith) (omega (arith, v)) (subst (λ (c : ℕ). All (FineMove w.clocks c) w.moves) (sym p) f.moves));
      goals = at_place (λ r. Names (length (map position_row w.positions)) r.position × BoxOf w.clocks r.area) no_goal (map goal_row w.goals) (all_map goal_row (FineGoal w.clocks (length w.positions)) (λ r. Names (length (map position_row w.positions)) r.position × BoxOf w.clocks r.area) (λ g h. ((h.position.low, omega (arith, p, h.position.high)), fine_box w.clocks g.area few h.area)) w.goals f.goals);
      sums = λ j one le. chances_all w.clocks (length w.positions) j 1 w.moves one (omega (arith, v)) f.moves;
    }

pub passes_check : (text : List ℕ) (t : Tables) (x : Result Header Fault) (r : Tables) → KeepsTo text t x r → PassesCheck x r
passes_check text t (Err f) r k = tt
passes_check text t (Ok h) r k =
    let w = k.0.plan in
    let g = k.1 in
    let fine = rows_fine k.0.plan k.0.writes.fine in
    let n : h.clocks ≡ k.0.plan.clocks = ap (λ (x : Header). x.clocks) g.header in
    subst (λ (c : ℕ). RowsFine c (taken r.positions) (taken r.moves) (taken r.outcomes) (taken r.goals)) (sym n)
    (subst (λ (ps : List Position). RowsFine k.0.plan.clocks ps (taken r.moves) (taken r.outcomes) (taken r.goals)) (sym g.positions)
    (subst (λ (vs : List Move). RowsFine k.0.plan.clocks (map position_row k.0.plan.positions) vs (taken r.outcomes) (taken r.goals)) (sym g.moves)
    (subst (λ (os : List Outcome). RowsFine k.0.plan.clocks (map position_row k.0.plan.positions) (map move_row k.0.plan.moves) os (taken r.goals)) (sym g.outcomes)
    (subst (λ (gs : List Goal). RowsFine k.0.plan.clocks (map position_row k.0.plan.positions) (map move_row k.0.plan.moves) (outcome_rows 1 k.0.plan.moves) gs) (sym g.goals) fine))))
