use Rattle.plans.proofs.ZoneBoxes.{ordinary_side, side_in_range}
use Rattle.plans.proofs.box_check.side_in_range.Goals as goal

pub returns : goal.returns
returns c = (
  λ h. side_in_range c.args.side.now (c.is_ordinary.ensures.0 h),
  λ h. c.is_ordinary.ensures.1 (ordinary_side c.args.side.now h),
)
