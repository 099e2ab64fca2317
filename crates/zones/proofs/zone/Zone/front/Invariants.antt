use Rattle.std.proofs.Common.{◌≡◌, ◌-◌, ◌<◌}
use Rattle.zones.specs.Codes.{code_front}
use Rattle.zones.proofs.zone.Zone.front.Given as goal

abbrev pub invariant-loop-k : goal.invariant-loop-k
invariant-loop-k l = (0 < l.k) × (l.best.0 ≡ code_front l.self.codes (l.k - 1) l.j)
