use Rattle.std.proofs.Common.{◌≡◌, take}
use Rattle.plans.specs.Meaning.{chances}
use Rattle.plans.proofs.row_check.chances_of.Given as goal

abbrev pub invariant-loop-o : goal.invariant-loop-o
invariant-loop-o l = l.sum ≡ chances l.k (take l.o-index l.outcomes)
