use Rattle.std.proofs.Common.{◌∙◌}
use Rattle.distances.proofs.Covering.{within_tells}
use Rattle.distances.proofs.cover.lies_within.Goals as goal

pub returns : goal.returns
returns g c x y =
    let k = c.args.time.now in
    let t = g.T.TimeDomain in
    c.unwrap_or.ensures ∙ within_tells (t.allows k) (t.normal k) (t.lawful k) c.args.zone.now.codes c.args.other.now.codes c.within.result c.within.ensures x y
