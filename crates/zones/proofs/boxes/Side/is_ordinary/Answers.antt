use Rattle.std.proofs.Common.{rules}
use Rattle.bounds.specs.Sums.{bound_of}
use Rattle.zones.proofs.Limits.{ordinary_is}
use Rattle.zones.proofs.boxes.Side.is_ordinary.Goals as goal

pub returns-then-is_from_to : goal.returns-then-is_from_to
returns-then-is_from_to c =
    let l = ordinary_is (bound_of c.args.self.now.lower) in
    let u = ordinary_is (bound_of c.args.self.now.upper) in
    search rules

pub returns-else-is_from_to : goal.returns-else-is_from_to
returns-else-is_from_to c = (λ e. (cc), λ o. let e = c.is_from_to.ensures.1 ((ordinary_is _).1 o.0) in cc)
