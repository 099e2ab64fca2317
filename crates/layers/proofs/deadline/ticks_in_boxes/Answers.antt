use Rattle.std.proofs.Common.{refl}
use Rattle.layers.specs.LayersSound.{fine, restricted_sound}
use Rattle.layers.proofs.Mixed.{mixed_routes}
use Rattle.layers.proofs.deadline.ticks_in_boxes.Goals as goal

pub returns : goal.returns
returns g c =
    let d = c.args.d.now in
    let bs = d.below.boxes.now in
    let m = g.P.Plan.meaning d.below.below in
    let ok = g.P.Plan.sound d.below.below in
    record { is = refl; routes = mixed_routes d.ticks bs m ok (restricted_sound bs m (fine bs d.below.fits) ok) }
