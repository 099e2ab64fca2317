use Rattle.std.proofs.Common.{refl}
use Rattle.layers.proofs.Timed.{stacked_routes}
use Rattle.layers.proofs.deadline.ticks_of_both.Goals as goal

pub returns : goal.returns
returns g c =
    let d = c.args.d.now in
    let m = g.P.Plan.meaning d.below.below in
    record { is = (refl, refl); routes = stacked_routes d.ticks d.below.ticks m d.below.small (g.P.Plan.sound d.below.below) }
