use Rattle.std.proofs.Common.{refl}
use Rattle.layers.proofs.Narrowed.{restricted_runs, restricted_routes}
use Rattle.layers.proofs.restriction.Restriction.boxes.Goals as goal

pub returns : goal.returns
returns g c =
    let d = c.args.self.now in
    let m = g.P.Plan.meaning d.below in
    let ok = g.P.Plan.sound d.below in
    record { is = refl; runs = restricted_runs d.boxes.now m ok; routes = restricted_routes d.boxes.now m ok }
