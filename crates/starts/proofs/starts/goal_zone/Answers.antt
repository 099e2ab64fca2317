use Rattle.starts.proofs.Starting.{goal_tells}
use Rattle.starts.proofs.starts.goal_zone.Goals as goal

pub returns : goal.returns
returns g c =
    let p = c.args.plan.now in
    goal_tells (g.P.Plan.meaning p) (g.P.Plan.sound p) _ c.time-time.ensures.normal c.args.goal.now c.in_ok-invariant.invariant c.into_area.result c.in_ok-invariant.ensures c.into_area.ensures
