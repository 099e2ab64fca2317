use Rattle.std.proofs.Common.{rules}
use Rattle.zones.proofs.Limits.{none_or}
use Rattle.zones.proofs.numbers.is_from_to.Goals as goal

pub returns : goal.returns
returns c = none_or _ _ c.args.bound c.is_none_or.result _ (λ b k. search rules) c.is_none_or.ensures
