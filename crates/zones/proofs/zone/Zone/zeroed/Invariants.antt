use Rattle.std.proofs.Common.{false, get_or}
use Rattle.zones.specs.Resets.{Zeroed}
use Rattle.zones.proofs.zone.Zone.zeroed.Given as goal

abbrev pub invariant-loop-k : goal.invariant-loop-k
invariant-loop-k l = Zeroed (λ i. get_or l.on i false) l.self.codes l.next.codes l.k
