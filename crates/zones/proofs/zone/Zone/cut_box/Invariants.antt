use Rattle.std.proofs.Common.{◌*◌}
use Rattle.bounds.specs.Domains.{scales}
use Rattle.zones.specs.Boxes.{Boxed}
use Rattle.zones.proofs.zone.Zone.cut_box.Given as goal

abbrev pub invariant-loop-k : goal.invariant-loop-k
invariant-loop-k g l = Boxed (scales (g.T.TimeDomain.allows l.time)) (g.T.TimeDomain.normal l.time) l.clock_box.sides l.self.codes l.next.codes (2 * l.k)
