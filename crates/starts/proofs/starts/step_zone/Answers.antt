use Rattle.starts.proofs.Starting.{step_tells}
use Rattle.starts.proofs.starts.step_zone.Goals as goal

pub returns : goal.returns
returns g c =
    let p = c.args.plan.now in
    step_tells (g.P.Plan.meaning p) (g.P.Plan.sound p) _ c.time-time.ensures.normal c.args.cause.now c.args.outcome.now c.in_ok-invariant.invariant c.args.zone.codes c.into_zone.result c.in_ok-invariant.ensures c.into_zone.ensures
