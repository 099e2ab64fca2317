use Rattle.plans.specs.BoxChecks.{AllBoxes}
use Rattle.plans.proofs.box_check.check_boxes.Given as goal

abbrev pub invariant-loop-b : goal.invariant-loop-b
invariant-loop-b l = AllBoxes l.clocks l.boxes l.b-index
