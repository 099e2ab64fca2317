-- The zone calls of a plan keep exactly the states that they should
use Rattle.std.proofs.Common.{◌≡◌, ℕ, zero, suc, ◌-◌, ◌*◌, ◌<◌, ◌≤◌, Bool, true, false, List, [], length, ℤ, pos, negsuc, ◌≤ℤ◌, Some, None, Option, sym, refl, ap, ◌∙◌, subst, arith}
use mathlib.Core.Logic.{∥∥₁_elim}
use mathlib.Core.Bool.{Bool-discrete}
use mathlib.Core.HLevel.{hedberg}
use native.Mathlib.Decide.{dec_lt}
use borrow.Author.Differences.{ints}
use lib.ListN.{get_or-eq_default}
use Rattle.std.proofs.lemmas.Bool.{and_parts, false≢true}
use Rattle.bounds.specs.declared.bound.Bound.{Bound}
use Rattle.bounds.specs.Bounds.{none}
use Rattle.bounds.specs.Sums.{bound_of}
use Rattle.bounds.specs.Domains.{Lawful, scales}
use Rattle.bounds.proofs.ScaleLaws.{ScaleLaws, scale_laws, scale_is, scale_allowed}
use Rattle.bounds.proofs.Apart.{normal_none}
use Rattle.zones.specs.declared.codes.Code.{Code}
use Rattle.zones.specs.declared.boxes.ClockBox.{ClockBox}
use Rattle.zones.specs.Codes.{at}
use Rattle.zones.specs.Matrices.{all_at, later as zone-later, zeroed, back_at}
use Rattle.zones.specs.Boxes.{Ordinary, Plain, side_of, boxed, BoxSays}
use Rattle.zones.specs.Calls.{Leads, BackDone}
use Rattle.plans.specs.Boxes.{InBox, later, reset, scaled, absent, InRange, BoxOf}
use Rattle.plans.specs.Meaning.{PlanMeaning, WellFormed, OutcomeOf, invariant_of, outcome_at, goal_at, no_position}
use Rattle.plans.specs.Items.{Names}
use Rattle.rounds.specs.Codes.{Remains, whole, back_zone, undo_zone, within_zone, holds_zone}
use Rattle.rounds.specs.Codes.Remains.{kept, empty, beyond}
use Rattle.rounds.specs.Answers.{answered, left, ZoneCodes, Valid}
use Rattle.rounds.specs.Calls.{Undoes}
use Rattle.rounds.specs.Held.{clock, Held, Scale, Fits, Earlier, Exact}
use Rattle.rounds.specs.Rounds.{resets_of, cut_by, move_of}
use Rattle.rounds.proofs.Cutting.{box_fine}
use Rattle.rounds.proofs.Calling.{whole_codes, whole_is, whole_holds, whole_domain, back_fine, undo_fine, within_inside, holds_yes, yes_holds}
use Rattle.rounds.proofs.Unasking.{UptoClocks, unasked_same, all_unasked, back_unasked, boxed_unasked}
use Rattle.rounds.proofs.Readings.{times_some, clock_readings, clock_later, clock_reset, holds_same, box_sides, sides_box}

-- a box that cuts, and that asks nothing of a clock above n
pub record Fair (n : ℕ) (b : ClockBox) : Type 0 where
  pub plain : Plain b.sides
  pub only : UptoClocks n b.sides

-- clocks from 1 to n
pub record Named (n : ℕ) (rs : List Bool) : Type 0 where
  pub off : (j : ℕ) → n < j → resets_of rs j ≡ false

-- what the theory of rounds asks of the zones and boxes of a plan
pub record Laws (M : PlanMeaning) : Type 0 where
  pub whole_fits : Fits M whole
  pub whole_held : (D : ℕ) (v : ℕ → ℕ) → Held whole D v
  pub cut_exact : (b : ClockBox) (z : List Code) → Fair M.clocks b → Fits M z → Exact M (λ D v. Held z D v × InBox b D v) (cut_by M b z)
  pub back_exact : (z : List Code) → Fits M z → Exact M (Earlier M (Held z)) (back_zone z)
  pub undo_exact : (rs : List Bool) (z : List Code) → Named M.clocks rs → Fits M z → Exact M (λ D v. Held z D (reset rs v)) (undo_zone (resets_of rs) z)
  pub within_exact : (a b : List Code) → Fits M a → Fits M b → within_zone a b ≡ true → (D : ℕ) (v : ℕ → ℕ) → Scale M D → Held a D v → Held b D v
  pub invariants_fair : (p : ℕ) → Fair M.clocks (invariant_of M p)
  pub guards_fair : (j : ℕ) → j < length M.outcomes → Fair M.clocks (move_of M (outcome_at M j)).guard
  pub sources_named : (j : ℕ) → j < length M.outcomes → Names (length M.positions) (move_of M (outcome_at M j)).source
  pub resets_named : (j : ℕ) → j < length M.outcomes → Named M.clocks (outcome_at M j).resets
  pub goals_fair : (j : ℕ) → j < length M.goals → Fair M.clocks (goal_at M j).area
  pub goals_named : (j : ℕ) → j < length M.goals → Names (length M.positions) (goal_at M j).position

-- ---- boxes of a plan
in_range : (o : Option Bound) → InRange o → Ordinary (bound_of o)
unfolding Ordinary
in_range None h = tt
in_range (Some b) h = h

no_bound : (o : Option Bound) → absent o ≡ true → bound_of o ≡ none
no_bound None e = refl
no_bound (Some b) e = absurd (false≢true e)

pub box_fair : (n : ℕ) (b : ClockBox) → BoxOf n b → Fair n b
box_fair n b f = record {
  plain = λ k h. (in_range (side_of b.sides k).lower (f.low k h), in_range (side_of b.sides k).upper (f.high k h));
  only = record {
    lower = λ k h l. no_bound (side_of b.sides k).lower (and_parts (absent (side_of b.sides k).lower) (absent (side_of b.sides k).upper) (f.free k l)).0;
    upper = λ k h l. no_bound (side_of b.sides k).upper (and_parts (absent (side_of b.sides k).lower) (absent (side_of b.sides k).upper) (f.free k l)).1;
  };
}

-- the box that is not there asks nothing
none_fair : (n : ℕ) → Fair n (record { sides = [] })
unfolding Ordinary
none_fair n = record { plain = λ k h. (tt, tt); only = record { lower = λ k h l. refl; upper = λ k h l. refl } }

-- a delay is a natural number
natural : (w : ℤ) → pos 0 ≤ℤ w → (n : ℕ) × (w ≡ pos n)
natural (pos n) h = (n, refl)
natural (negsuc n) h = absurd (omega (arith, ints))

module _ (M : PlanMeaning) (K : Lawful M.allows M.normal) where
  laws_at : ScaleLaws (scales M.allows) M.normal
  laws_at = scale_laws M.allows M.normal K

  on : (D : ℕ) → Scale M D → scales M.allows D ≡ true
  on D s = scale_is M.allows D s.0 s.1

  whole_fits : Fits M whole
  whole_fits = record { codes = whole_codes; of_domain = whole_domain laws_at; unasked = unasked_same M.clocks (at whole) all_at whole_is (all_unasked M.clocks) }

  cut_kept : (b : ClockBox) (z : List Code) → Fair M.clocks b → Fits M z → (o : Remains)
      → BoxSays (scales M.allows) M.normal b.sides z (left z o) (answered o) × Valid o → Exact M (λ D v. Held z D v × InBox b D v) o
  cut_kept b z fair fits (kept ys) f = (
    record {
      codes = f.1;
      of_domain = f.0.of_domain;
      unasked = unasked_same M.clocks (at ys) (boxed M.normal b.sides (at z) 16) f.0.bounds
          (boxed_unasked M.clocks M.normal (normal_none laws_at) b.sides fair.only (at z) fits.unasked 16 (omega arith));
    },
    λ D v s. (λ h. let r = (f.0.states D (clock v) (on D s)).0 h in (r.0, sides_box b D v r.1), λ h. (f.0.states D (clock v) (on D s)).1 (h.0, box_sides b D v h.1)),
  )
  cut_kept b z fair fits empty f = λ D v s h. f.0.gone D (clock v) (on D s) h.0 (box_sides b D v h.1)
  cut_kept b z fair fits beyond f = tt

  leads_earlier : (z : List Code) (D : ℕ) (v : ℕ → ℕ) → Leads (scales M.allows) z D (clock v) → Earlier M (Held z) D v
  leads_earlier z D v l =
      let m = l.0 in
      let n = natural l.1.0 l.1.1.2 in
      ∣ (
        l.0,
        n.0,
        l.1.1.0,
        scale_allowed M.allows (l.0 * D) l.1.1.1,
        holds_same (at z) (l.0 * D) (zone-later l.0 l.1.0 (clock v)) (clock (later n.0 (scaled l.0 v)))
            (λ i. ap (λ w. zone-later l.0 w (clock v) i) n.1 ∙ sym (clock_later l.0 n.0 v i)) l.1.1.3,
      ) ∣₁

  earlier_leads : (z : List Code) (D : ℕ) (v : ℕ → ℕ) → 1 ≤ D
      → ((m : ℕ) × (w : ℕ) × (1 ≤ m) × (M.allows (m * D) ≡ true) × Held z (m * D) (later w (scaled m v))) → Leads (scales M.allows) z D (clock v)
  earlier_leads z D v h t = (
    t.0,
    (
      pos t.1,
      (
        t.2,
        scale_is M.allows (t.0 * D) (times_some t.0 D t.2 h) t.3,
        omega (arith, ints),
        holds_same (at z) (t.0 * D) (clock (later t.1 (scaled t.0 v))) (zone-later t.0 (pos t.1) (clock v)) (clock_later t.0 t.1 v) t.4,
      ),
    ),
  )

  back_kept : (z ys : List Code) → Fits M z → ZoneCodes ys → BackDone (scales M.allows) M.normal z ys → Exact M (Earlier M (Held z)) (kept ys)
  back_kept z ys fits c b = (
    record {
      codes = c;
      of_domain = b.of_domain;
      unasked = unasked_same M.clocks (at ys) (back_at (at z)) b.bounds (back_unasked M.clocks (at z) fits.codes.sound.canon fits.unasked);
    },
    λ D v s. (
      λ h. leads_earlier z D v ((b.states D (clock v) (on D s) (clock_readings v)).0 h),
      λ h. holds_yes ys D (clock v) (∥∥₁_elim h (hedberg Bool-discrete (holds_zone ys D (clock v)) true)
          (λ t. yes_holds ys D (clock v) ((b.states D (clock v) (on D s) (clock_readings v)).1 (earlier_leads z D v s.0 t)))),
    ),
  )

  back_is : (z : List Code) → Fits M z → Exact M (Earlier M (Held z)) (back_zone z)
  back_is z fits =
      let b = back_fine laws_at z fits.codes fits.of_domain in
      subst (Exact M (Earlier M (Held z))) (sym b.1) (back_kept z b.0 fits b.2 b.3)

  undo_kept : (rs : List Bool) (z : List Code) → Named M.clocks rs → Fits M z → (o : Remains) → Undoes (scales M.allows) M.normal (resets_of rs) z o → Exact M (λ D v. Held z D (reset rs v)) o
  undo_kept rs z named fits (kept ys) u = (
    record { codes = u.codes; of_domain = u.of_domain; unasked = u.unasked M.clocks named.off fits.unasked },
    λ D v s. (
      λ h. holds_same (at z) D (λ k. clock v (zeroed (resets_of rs) k)) (clock (reset rs v)) (λ i. sym (clock_reset rs v i)) ((u.states D (clock v) (on D s) (clock_readings v)).0 h),
      λ h. (u.states D (clock v) (on D s) (clock_readings v)).1 (holds_same (at z) D (clock (reset rs v)) (λ k. clock v (zeroed (resets_of rs) k)) (clock_reset rs v) h),
    ),
  )
  undo_kept rs z named fits empty u = λ D v s h. u D (clock v) (on D s) (clock_readings v) (holds_same (at z) D (clock (reset rs v)) (λ k. clock v (zeroed (resets_of rs) k)) (clock_reset rs v) h)
  undo_kept rs z named fits beyond u = tt

  invariant_fair : WellFormed M → (p : ℕ) → Fair M.clocks (invariant_of M p)
  invariant_fair f p = elim (dec_lt (p - 1) (length M.positions)) [
    | yes y ↦ box_fair M.clocks (invariant_of M p) (f.positions (p - 1) y)
    | no n ↦ subst (λ x. Fair M.clocks x.invariant) (sym (get_or-eq_default M.positions no_position {n = p - 1} (omega (arith, n)))) (none_fair M.clocks)
  ]

  move_there : (f : WellFormed M) (j : ℕ) → j < length M.outcomes → (outcome_at M j).cause - 1 < length M.moves
  move_there f j h = let c = (f.outcomes j h).cause in omega (arith, c.0, c.1)

  named_of : (j : ℕ) → OutcomeOf M.clocks (length M.positions) (length M.moves) (outcome_at M j) → Named M.clocks (outcome_at M j).resets
  named_of j o = record { off = each }
    where
      each : (i : ℕ) → M.clocks < i → resets_of (outcome_at M j).resets i ≡ false
      each zero h = refl
      each (suc i) h = o.resets i (omega arith)

  pub laws : WellFormed M → Laws M
  laws f = record {
    whole_fits = whole_fits;
    whole_held = λ D v. whole_holds D (clock v) (clock_readings v);
    cut_exact = λ b z fair fits. cut_kept b z fair fits (cut_by M b z) (box_fine laws_at b.sides fair.plain z fits.of_domain fits.codes);
    back_exact = back_is;
    undo_exact = λ rs z named fits. undo_kept rs z named fits (undo_zone (resets_of rs) z) (undo_fine laws_at (resets_of rs) refl z fits.codes fits.of_domain);
    within_exact = λ a b x y w D v s h. within_inside laws_at a b x.codes y.codes x.of_domain w D (clock v) (on D s) (clock_readings v) h;
    invariants_fair = invariant_fair f;
    guards_fair = λ j h. box_fair M.clocks (move_of M (outcome_at M j)).guard (f.moves ((outcome_at M j).cause - 1) (move_there f j h)).1;
    sources_named = λ j h. (f.moves ((outcome_at M j).cause - 1) (move_there f j h)).0;
    resets_named = λ j h. named_of j (f.outcomes j h);
    goals_fair = λ j h. box_fair M.clocks (goal_at M j).area (f.goals j h).1;
    goals_named = λ j h. (f.goals j h).0;
  }
