-- What the zones that a round tries stand for.
use Rattle.std.proofs.Common.{◌≡◌, ℕ, suc, ◌+◌, ◌*◌, ◌<◌, ◌≤◌, true, List, length, sym, refl, ap, ◌∙◌, subst, mul_assoc}
use mathlib.Core.Logic.{∥∥₁_elim, ∥∥₁_map, ∥∥₁_prop}
use Rattle.zones.specs.declared.codes.Code.{Code}
use Rattle.plans.specs.declared.rows.Outcome.{Outcome}
use Rattle.plans.specs.declared.rows.Goal.{Goal}
use Rattle.plans.specs.Boxes.{InBox, later, reset, scaled}
use Rattle.plans.specs.Meaning.{PlanMeaning, invariant_of, outcome_at, goal_at}
use Rattle.plans.specs.Routes.{Run, Route}
use Rattle.rounds.specs.Codes.{Remains, then, whole, back_zone, undo_zone}
use Rattle.rounds.specs.Held.{Held, Scale, Fits, Earlier, Exact}
use Rattle.rounds.specs.Rounds.{Entry, resets_of, move_of, cut_by, taken_back, goal_zone, step_zone}
use Rattle.rounds.specs.Stands.{Real}
use Rattle.plans.specs.Routes.Run.{last, first}
use Rattle.rounds.proofs.Readings.{scaled_scaled, scaled_later, scaled_reset, times_some, box_up}
use Rattle.rounds.proofs.Laws.{Laws}
use Rattle.rounds.proofs.Exacts.{times_scale, exact_map, exact_cut, exact_back}

-- the states that arrive in goal g after a delay
abbrev pub Arriving : PlanMeaning → Goal → ℕ → (ℕ → ℕ) → Type 0
Arriving M g D v = Earlier M (λ E u. InBox (invariant_of M g.position) E u × InBox g.area E u) D v × InBox (invariant_of M g.position) D v

-- the states that cross by o into z after a delay
abbrev pub Crossing : PlanMeaning → List Code → Outcome → ℕ → (ℕ → ℕ) → Type 0
Crossing M z o D v = Earlier M (λ E u. (Held z E (reset o.resets u) × InBox (move_of M o).guard E u) × InBox (invariant_of M (move_of M o).source) E u) D v × InBox (invariant_of M (move_of M o).source) D v

pub back_exact : (M : PlanMeaning) → Laws M → (p : ℕ) (S : ℕ → (ℕ → ℕ) → Type 0) (o : Remains) → Exact M S o
    → Exact M (λ D v. Earlier M S D v × InBox (invariant_of M p) D v) (taken_back M p o)
unfolding taken_back
back_exact M L p S o e = exact_cut M L (invariant_of M p) (L.invariants_fair p) (Earlier M S) (then o back_zone) (exact_back M L S o e)

pub goal_exact : (M : PlanMeaning) → Laws M → (j : ℕ) → j < length M.goals → Exact M (Arriving M (goal_at M j)) (goal_zone M (goal_at M j))
unfolding goal_zone
goal_exact M L j h =
    let g = goal_at M j in
    let i = invariant_of M g.position in
    back_exact M L g.position (λ D v. InBox i D v × InBox g.area D v) (then (cut_by M i whole) (cut_by M g.area))
    (exact_cut M L g.area (L.goals_fair j h) (λ D v. InBox i D v) (cut_by M i whole)
    (exact_map M (λ D v. Held whole D v × InBox i D v) (λ D v. InBox i D v) (λ D v s. (λ x. x.1, λ x. (L.whole_held D v, x)))
    (cut_by M i whole) (L.cut_exact i whole (L.invariants_fair g.position) L.whole_fits)))

pub step_exact : (M : PlanMeaning) → Laws M → (z : List Code) → Fits M z → (j : ℕ) → j < length M.outcomes → Exact M (Crossing M z (outcome_at M j)) (step_zone M z (outcome_at M j))
unfolding step_zone
step_exact M L z fit j h =
    let o = outcome_at M j in
    let i = invariant_of M (move_of M o).source in
    let g = (move_of M o).guard in
    back_exact M L (move_of M o).source (λ D v. (Held z D (reset o.resets v) × InBox g D v) × InBox i D v) (then (then (undo_zone (resets_of o.resets) z) (cut_by M g)) (cut_by M i))
    (exact_cut M L i (L.invariants_fair (move_of M o).source) (λ D v. Held z D (reset o.resets v) × InBox g D v) (then (undo_zone (resets_of o.resets) z) (cut_by M g))
    (exact_cut M L g (L.guards_fair j h) (λ D v. Held z D (reset o.resets v)) (undo_zone (resets_of o.resets) z) (L.undo_exact o.resets z (L.resets_named j h) fit)))

-- a run begins in the invariant of its position
pub run_begins : (M : PlanMeaning) (D : ℕ) {p : ℕ} {v : ℕ → ℕ} {k t : ℕ} → Run M D p v k t → InBox (invariant_of M p) D v
run_begins M D (last w g s r) = s.0
run_begins M D (first w o s c r) = s.0

pub goal_route : (M : PlanMeaning) → Laws M → (j : ℕ) → j < length M.goals → (D : ℕ) (v : ℕ → ℕ) → Arriving M (goal_at M j) D v → ∥ Route M D (goal_at M j).position v 0 ∥₁
goal_route M L j h D v a = ∥∥₁_map a.0 (λ t. record {
  multiple = t.0;
  some = t.2;
  allowed = t.3;
  lasts = t.1;
  run = last t.1 j (box_up t.0 D t.2 (invariant_of M (goal_at M j).position) v a.1, t.4.0) (record { exists = h; here = refl; inside = t.4.1 });
})

pub step_route : (M : PlanMeaning) → Laws M → (j : ℕ) → j < length M.outcomes → 1 ≤ (outcome_at M j).chance → (e : Entry) → (outcome_at M j).target ≡ e.position → Real M e
    → (D : ℕ) (v : ℕ → ℕ) → Scale M D → Crossing M e.zone (outcome_at M j) D v → ∥ Route M D (move_of M (outcome_at M j)).source v (suc e.round) ∥₁
step_route M L j h chance e to real D v s a =
    ∥∥₁_elim a.0 ∥∥₁_prop (λ t.
    ∥∥₁_map (real (t.0 * D) (reset (outcome_at M j).resets (later t.1 (scaled t.0 v))) (times_scale M t.0 D t.2 s t.3) t.4.0.0)
    (λ r. joined t.0 t.1 t.2 t.4.1 t.4.0.1 r))
  where
    o : Outcome
    o = outcome_at M j

    joined : (m w : ℕ) → 1 ≤ m → InBox (invariant_of M (move_of M o).source) (m * D) (later w (scaled m v)) → InBox (move_of M o).guard (m * D) (later w (scaled m v))
        → Route M (m * D) e.position (reset o.resets (later w (scaled m v))) e.round → Route M D (move_of M o).source v (suc e.round)
    joined m w some hi hg r =
        let n = r.multiple in
        let x : n * (m * D) ≡ (n * m) * D = sym (mul_assoc n m D) in
        let d : scaled n (later w (scaled m v)) ≡ later (n * w) (scaled n (scaled m v)) = scaled_later n w (scaled m v) in
        let q : scaled n (reset o.resets (later w (scaled m v))) ≡ reset o.resets (later (n * w) (scaled n (scaled m v))) = scaled_reset n o.resets (later w (scaled m v)) ∙ ap (reset o.resets) d in
        let i = invariant_of M (move_of M o).source in
        let rest : Run M (n * (m * D)) o.target (reset o.resets (later (n * w) (scaled n (scaled m v)))) e.round r.lasts
        = subst (λ p. Run M (n * (m * D)) p (reset o.resets (later (n * w) (scaled n (scaled m v)))) e.round r.lasts) (sym to)
        (subst (λ u. Run M (n * (m * D)) e.position u e.round r.lasts) q r.run) in
        let whole : Run M (n * (m * D)) (move_of M o).source (scaled n (scaled m v)) (suc e.round) (n * w + r.lasts)
        = first (n * w) j (
          box_up n (m * D) r.some i (scaled m v) (box_up m D some i v a.1),
          subst (λ u. InBox i (n * (m * D)) u) d (box_up n (m * D) r.some i (later w (scaled m v)) hi),
        )
        (record {
          exists = h;
          likely = chance;
          from = refl;
          guarded = subst (λ u. InBox (move_of M o).guard (n * (m * D)) u) d (box_up n (m * D) r.some (move_of M o).guard (later w (scaled m v)) hg);
          arrives = run_begins M (n * (m * D)) rest;
        })
        rest in
        record {
          multiple = n * m;
          some = times_some n m r.some some;
          lasts = n * w + r.lasts;
          allowed = subst (λ y. M.allows y ≡ true) x r.allowed;
          run = subst (λ y. Run M y (move_of M o).source (scaled (n * m) v) (suc e.round) (n * w + r.lasts)) x
              (subst (λ u. Run M (n * (m * D)) (move_of M o).source u (suc e.round) (n * w + r.lasts)) (scaled_scaled n m v) whole);
        }
