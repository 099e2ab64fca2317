use Rattle.std.proofs.Common.{rules}
use Rattle.layers.proofs.Steps.{position_narrowed, position_not}
use Rattle.layers.proofs.restriction.RestrictionPlan.position.Goals as goal

pub returns-in_err-p : goal.returns-in_err-p
returns-in_err-p g c = let h = position_not c.args.self.now.boxes.now (g.P.Plan.meaning c.args.self.now.below) _ _ c.in_err-p.ensures in search rules

pub returns : goal.returns
returns g c = position_narrowed _ (g.P.Plan.meaning c.args.self.now.below) _ _ _ _ c.clocks.ensures c.narrow_position.ensures c.in_ok-p.ensures
