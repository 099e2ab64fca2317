use Rattle.std.proofs.Common.{refl}
use Rattle.layers.proofs.Timed.{deadline_runs, deadline_routes, deadline_states}
use Rattle.layers.proofs.deadline.Deadline.ticks.Goals as goal

pub returns : goal.returns
returns g c =
    let d = c.args.self.now in
    let m = g.P.Plan.meaning d.below in
    let ok = g.P.Plan.sound d.below in
    record { is = refl; runs = deadline_runs d.ticks m ok; routes = deadline_routes d.ticks m ok; states = deadline_states d.ticks m ok }
