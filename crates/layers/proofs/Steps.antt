-- Steps of the loops and calls of a restriction
use Rattle.std.proofs.Common.{◌≡◌, ℕ, zero, suc, ◌+◌, ◌-◌, ◌<◌, ◌≤◌, Bool, true, false, cond, nat_lt, List, length, get_or, Ok, Err, sym, refl, ap, subst, ◌∙◌, ltb-true, ltb-false, arith}
use Rattle.std.specs.Array.{IsFromFnResultFrom, IsFromFnResult}
use Rattle.std.specs.Fn.{Called}
use denote.Param.Members.{Mut}
use native.Mathlib.Decide.{dec_lt}
use Rattle.std.proofs.lemmas.List.{ext_get_or, get_or_read, get_or_default}
use Rattle.bounds.specs.declared.refusal.Refusal.{Refusal}
use Rattle.zones.specs.declared.boxes.Side.{Side}
use Rattle.zones.specs.declared.boxes.ClockBox.{ClockBox}
use Rattle.plans.specs.declared.rows.Position.{Position}
use Rattle.zones.specs.Boxes.{no_side}
use Rattle.plans.specs.Items.{Item}
use Rattle.plans.specs.Meaning.{PlanMeaning, no_box, no_position}
use Rattle.layers.specs.Narrowing.{both, narrow_sides, narrow_box}
use Rattle.layers.specs.Restrictions.{narrowed, restricted}
use Rattle.layers.specs.LayersSound.{length_narrow, narrow_at, narrow_past, narrowed_at, length_narrowed}

-- what was made from each index in turn, by a call that changes nothing
module _ {F B : Type 0} (g : Mut F (ℕ × Unit {0}) B) (f : F) (P : ℕ → B → Type 0) (each : (i : ℕ) (y : B) (q : F) → Called g f (i, tt) y q → (q ≡ f) × P i y) where
  made_from : (ys : List B) (d : B) (i n : ℕ) → IsFromFnResultFrom g f ys i n → (k : ℕ) → i ≤ k → k < i + n → P k (get_or ys k d)
  made_from ys d i zero h k a b = absurd (omega arith)
  made_from ys d i (suc n) h k a b =
      let c = each i h.1 h.0 h.3 in
      elim (dec_lt i k) [
        | yes y ↦ made_from ys d (i + 1) n (subst (λ q. IsFromFnResultFrom g q ys (i + 1) n) c.0 h.4) k (omega arith) (omega arith)
        | no z ↦ subst (λ j. P j (get_or ys j d)) (omega (arith, z)) (subst (P i) (sym (h.2.1 d)) c.1)
      ]

  pub made_at : (ys : List B) (n : ℕ) → IsFromFnResult g f ys n → (k : ℕ) (d : B) → k < n → P k (get_or ys k d)
  made_at ys n h k d l = made_from ys d 0 n h.each k (omega arith) (omega arith)

-- the sides of a box, narrowed one by one
pub sides_narrowed : (n : ℕ) (bs ss ys : List Side) → length ys ≡ length ss → ((k : ℕ) → k < length ss → get_or ys k no_side ≡ cond (nat_lt k n) (both (get_or bs k no_side) (get_or ss k no_side)) (get_or ss k no_side)) → ys ≡ narrow_sides n bs ss
sides_narrowed n bs ss ys e at =
    ext_get_or no_side ys (narrow_sides n bs ss) (e ∙ sym (length_narrow n bs ss)) (λ k h. at k (omega arith) ∙ go (nat_lt k n) k refl (omega arith))
  where
    go : (q : Bool) → (k : ℕ) → nat_lt k n ≡ q → k < length ss → cond q (both (get_or bs k no_side) (get_or ss k no_side)) (get_or ss k no_side) ≡ get_or (narrow_sides n bs ss) k no_side
    go true k e h = sym (narrow_at n bs ss k (ltb-true k n e) h)
    go false k e h = sym (narrow_past n bs ss k (ltb-false k n e))

pub position_narrowed : (bs : List ClockBox) (m : PlanMeaning) (k n : ℕ) (p r : Position) → n ≡ m.clocks → r.invariant ≡ narrow_box n (get_or bs (k - 1) no_box) p.invariant → Item m.positions k (Ok p) → Item (restricted bs m).positions k (Ok r)
position_narrowed bs m k n p r e f it =
    let k< : k - 1 < length m.positions = omega (arith, it.0, it.1) in
    let same : length (narrowed m.clocks bs m.positions) ≡ length m.positions = length_narrowed m.clocks bs m.positions in
    let is : p ≡ get_or m.positions (k - 1) no_position = get_or_read m.positions (k - 1) p k< it.2 no_position in
    let at : r.invariant ≡ (get_or (narrowed m.clocks bs m.positions) (k - 1) no_position).invariant =
    f ∙ ap (λ x. narrow_box x (get_or bs (k - 1) no_box) p.invariant) e
    ∙ ap (λ (q : Position). narrow_box m.clocks (get_or bs (k - 1) no_box) q.invariant) is
    ∙ sym (narrowed_at m.clocks bs m.positions (k - 1)) in
    let whole : r ≡ get_or (narrowed m.clocks bs m.positions) (k - 1) no_position = ap {B = Position} (λ b. record { invariant = b }) at in
    (it.0, omega (arith, it.1, same), whole ∙ get_or_default (narrowed m.clocks bs m.positions) (k - 1) no_position r (omega (arith, k<, same)))

pub position_not : (bs : List ClockBox) (m : PlanMeaning) (k : ℕ) (e : Refusal) → Item m.positions k (Err e) → Item (restricted bs m).positions k (Err e)
position_not bs m k e it = (it.0, λ h. omega (arith, it.1 h, length_narrowed m.clocks bs m.positions))
