use Rattle.starts.proofs.Starting.{invariant_is}
use Rattle.starts.proofs.starts.invariant_at.Goals as goal

pub returns : goal.returns
returns g c = invariant_is (g.P.Plan.meaning c.args.plan.now) c.args.position c.in_ok-position.field-0 c.in_ok-position.ensures
