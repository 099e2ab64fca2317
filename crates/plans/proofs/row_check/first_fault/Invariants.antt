use Rattle.plans.specs.FirstFaults.{Accepts}
use Rattle.plans.proofs.row_check.first_fault.Given as goal

abbrev pub invariant-loop-i : goal.invariant-loop-i
invariant-loop-i g l = Accepts g.F.Fn l.check l.rows l.i-counter
