use Rattle.std.proofs.Common.{rules}
use Rattle.zones.proofs.zone.ways.in_range.Goals as goal

pub returns : goal.returns
returns c = (
  λ e p h. let k = c.every.ensures.0 e p h in search rules,
  λ e. let w = c.every.ensures.1 e in (w.0, w.1, let n = w.2 in search rules),
)
