use Rattle.std.proofs.Common.{◌∙◌}
use Rattle.distances.proofs.Finding.{hold_tells}
use Rattle.distances.proofs.find.has_state.Goals as goal

pub returns : goal.returns
returns g c z s =
    let k = c.args.time.now in
    c.unwrap_or.ensures ∙ hold_tells (g.T.TimeDomain.allows k) (g.T.TimeDomain.normal k) c.args.state.now.scale c.args.state.now.readings.now c.args.zone.now.codes c.holds.result c.holds.ensures z s
