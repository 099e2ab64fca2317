-- The zones that a round starts from are the plan's
use Rattle.std.proofs.Common.{◌≡◌, ℕ, zero, suc, ◌-◌, ◌<◌, List, [], ◌∷◌, length, get_or, Ok, Option, Result, sym, refl, ap, ◌∙◌, subst, arith}
use Rattle.bounds.specs.declared.refusal.Refusal.{Refusal}
use Rattle.bounds.specs.Bounds.{UpperBound}
use Rattle.zones.specs.declared.codes.Code.{Code}
use Rattle.zones.specs.declared.boxes.ClockBox.{ClockBox}
use Rattle.zones.specs.declared.zone.Zone.{Zone}
use Rattle.zones.specs.Boxes.{Plain}
use Rattle.plans.specs.declared.rows.Position.{Position}
use Rattle.plans.specs.declared.rows.Move.{Move}
use Rattle.plans.specs.declared.rows.Outcome.{Outcome}
use Rattle.plans.specs.declared.rows.Goal.{Goal}
use Rattle.plans.specs.Items.{Names, Item}
use Rattle.plans.specs.Meaning.{PlanMeaning, WellFormed, invariant_of, no_position}
use Rattle.rounds.specs.Rounds.{move_of, taken_back, goal_zone, step_zone}
use Rattle.rounds.proofs.Laws.{box_fair}
use Rattle.starts.specs.Told.{Tells}
use Rattle.starts.specs.Starts.{GoalWay, goal_way, StepWay, step_way, InvariantTells, StepOf, GoalTells, StepTells}

-- an item is there whatever stands for those that are not
pub item_at : {A : Type 0} (xs : List A) (i : ℕ) (d e : A) → i < length xs → get_or xs i d ≡ get_or xs i e
item_at [] i d e h = absurd (omega arith)
item_at (x ∷ xs) zero d e h = refl
item_at (x ∷ xs) (suc i) d e h = item_at xs i d e (omega arith)

pub item_is : {A : Type 0} (xs : List A) (k : ℕ) (x d : A) → Item xs k (Ok x) → x ≡ get_or xs (k - 1) d
item_is xs k x d i = i.2 ∙ item_at xs (k - 1) x d (omega (arith, i.0, i.1))

ok_same : {A B : Type 0} (x y : A) → ◌≡◌ {A = Result A B} (Ok x) (Ok y) → x ≡ y
ok_same x y e = cc

pub invariant_is : (M : PlanMeaning) (p : ℕ) (row : Position) → Item M.positions p (Ok row) → InvariantTells M p (Ok row.invariant)
invariant_is M p row i n = ap (λ (x : Position). Ok x.invariant) (item_is M.positions p row no_position i)

module _ (M : PlanMeaning) (formed : WellFormed M) where
  plain_at : (p : ℕ) → Names (length M.positions) p → Plain (invariant_of M p).sides
  plain_at p n = (box_fair M.clocks (invariant_of M p) (formed.positions (p - 1) (omega (arith, n.0, n.1)))).plain

  goal_is : (g : Goal) → goal_zone M g ≡ goal_way M.normal (invariant_of M g.position).sides g.area.sides
  unfolding goal_zone taken_back
  goal_is g = refl

  pub goal_tells : (normal : UpperBound → UpperBound) → normal ≡ M.normal → (g : Goal) (inv : ClockBox) (r : Result (Option Zone) Refusal) → InvariantTells M g.position (Ok inv) → GoalWay normal inv.sides g.area.sides r → GoalTells M g r
  goal_tells normal en g inv r i w o =
      let e : inv ≡ invariant_of M g.position = ok_same inv (invariant_of M g.position) (i o.position) in
      let w1 : GoalWay M.normal (invariant_of M g.position).sides g.area.sides r
      = subst (λ (b : ClockBox). GoalWay M.normal b.sides g.area.sides r) e (subst (λ n. GoalWay n inv.sides g.area.sides r) en w) in
      subst (λ x. Tells x r) (sym (goal_is g)) (w1 (plain_at g.position o.position) (box_fair M.clocks g.area o.area).plain)

  step_is : (z : List Code) (o : Outcome) → step_zone M z o ≡ step_way M.normal o.resets (move_of M o).guard.sides (invariant_of M (move_of M o).source).sides z
  unfolding step_zone taken_back
  step_is z o = refl

  source_of : (m : Move) (o : Outcome) → StepOf M m o → Names (length M.positions) m.source
  source_of m o s = subst (λ (x : Move). Names (length M.positions) x.source) (sym s.cause)
      (formed.moves (o.cause - 1) (omega (arith, s.outcome.cause.0, s.outcome.cause.1))).0

  pub step_tells : (normal : UpperBound → UpperBound) → normal ≡ M.normal → (m : Move) (o : Outcome) (inv : ClockBox) (z : List Code) (r : Result (Option Zone) Refusal) → InvariantTells M m.source (Ok inv)
      → StepWay normal o.resets m.guard.sides inv.sides z r → StepTells M m o z r
  step_tells normal en m o inv z r i w s of =
      let n = source_of m o s in
      let e : inv ≡ invariant_of M m.source = ok_same inv (invariant_of M m.source) (i n) in
      let w1 : StepWay M.normal o.resets m.guard.sides (invariant_of M m.source).sides z r
      = subst (λ (b : ClockBox). StepWay M.normal o.resets m.guard.sides b.sides z r) e (subst (λ x. StepWay x o.resets m.guard.sides inv.sides z r) en w) in
      let w2 : StepWay M.normal o.resets (move_of M o).guard.sides (invariant_of M (move_of M o).source).sides z r
      = subst (λ (x : Move). StepWay M.normal o.resets x.guard.sides (invariant_of M x.source).sides z r) s.cause w1 in
      subst (λ x. Tells x r) (sym (step_is z o))
      (w2 (box_fair M.clocks (move_of M o).guard (formed.moves (o.cause - 1) (omega (arith, s.outcome.cause.0, s.outcome.cause.1))).1).plain
      (plain_at (move_of M o).source (subst (λ (x : Move). Names (length M.positions) x.source) s.cause n)) of)
