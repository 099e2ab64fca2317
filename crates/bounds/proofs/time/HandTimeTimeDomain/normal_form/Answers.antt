use Rattle.std.proofs.Common.{refl}
use Rattle.bounds.proofs.time.HandTimeTimeDomain.normal_form.Goals as goal

pub returns-then-not-in_reach : goal.returns-then-not-in_reach
returns-then-not-in_reach c = (refl, c.in_reach.ensures.1 c.if-not-in_reach.true)
