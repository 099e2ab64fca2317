use Rattle.std.proofs.Common.{arith}
use Rattle.std.proofs.lemmas.Bool.Decides.{nat_tests}
use Rattle.zones.specs.Codes.{code_plus}
use Rattle.zones.proofs.codes.Code.plus.Goals as goal

pub returns-then-eq : goal.returns-then-eq
unfolding code_plus
returns-then-eq c = grind (arith, nat_tests)

pub returns : goal.returns
unfolding code_plus
returns c = grind (arith, nat_tests)
