use Rattle.std.proofs.Common.{◌≡◌, length, cond, nat_lt, get_or, sym, ap, ◌∙◌, arith, rules, tests}
use Rattle.zones.specs.declared.boxes.Side.{Side}
use Rattle.zones.specs.declared.boxes.ClockBox.{ClockBox}
use Rattle.zones.specs.Boxes.{no_side}
use Rattle.layers.specs.Narrowing.{both}
use Rattle.layers.proofs.Steps.{made_at, sides_narrowed}
use Rattle.layers.proofs.narrowing.narrow.Goals as goal

pub returns : goal.returns
returns c =
    let b = c.args.b.sides in
    let s = c.args.c.sides in
    let l : length s ≡ 8 = search rules in
    let at = made_at _ _ (λ i (y : Side). y ≡ cond (nat_lt i c.args.clocks) (both (get_or b i no_side) (get_or s i no_side)) (get_or s i no_side)) (λ i y q k. search (rules, tests)) c.from_fn.result 8 c.from_fn.ensures.items in
    ap {B = ClockBox} (λ ss. record { sides = ss }) (sides_narrowed c.args.clocks b s c.from_fn.result (c.from_fn.ensures.items.long ∙ sym l) (λ k h. at k no_side (omega arith)))
