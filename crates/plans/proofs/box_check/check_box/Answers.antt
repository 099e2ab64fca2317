use Rattle.std.proofs.Common.{◌≡◌, ℕ, length, ap, arith, rules}
use native.Mathlib.Decide.{dec_lt}
use Rattle.std.proofs.lemmas.List.{get_or_past}
use Rattle.zones.specs.declared.boxes.ClockBox.{ClockBox}
use Rattle.zones.specs.Boxes.{no_side}
use Rattle.plans.specs.Boxes.{blank, BoxOf}
use Rattle.plans.specs.BoxChecks.{Numbers, Free}
use Rattle.plans.proofs.box_check.check_box.Goals as goal

box_of : (n : ℕ) (b : ClockBox) → length b.sides ≡ 8 → Numbers b.sides → Free n b.sides → BoxOf n b
box_of n b e h f = record {
  eight = e;
  free = λ i l. elim (dec_lt i (length b.sides)) [ yes y ↦ f i y l | no z ↦ ap blank (get_or_past b.sides i no_side (omega (arith, z))) ];
  low = λ i l. (h i (omega arith)).0;
  high = λ i l. (h i (omega arith)).1;
}

pub returns : goal.returns
returns c =
    let e : length c.args.b.now.sides ≡ 8 = search rules in
    box_of c.args.clocks c.args.b.now e (c.numbers_fit.ensures.0 c.if-not-numbers_fit.false) (c.clocks_fit.ensures.0 c.if-not-clocks_fit.false)
