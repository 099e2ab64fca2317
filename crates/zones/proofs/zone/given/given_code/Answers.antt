use Rattle.std.proofs.Common.{refl, ap, rules}
use Rattle.zones.proofs.Limits.{far_out}
use Rattle.zones.proofs.Givens.{given_is}
use Rattle.zones.proofs.zone.given.given_code.Goals as goal

pub returns-then-not-is_from_to : goal.returns-then-not-is_from_to
returns-then-not-is_from_to c = (refl, far_out _ (λ h. let e = c.is_from_to.ensures.1 h in cc))

pub returns : goal.returns
returns c = given_is c.args.bound c.map_or.result _ _ (c.is_from_to.ensures.0 c.if-not-is_from_to.false) (λ n. ap (λ x. x.0) n) (λ b k. search rules) c.map_or.ensures
