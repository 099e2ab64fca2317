use Rattle.std.proofs.Common.{refl, subst, inr, arith}
use Rattle.plans.specs.BoxChecks.{FirstWrong}
use Rattle.layers.proofs.restriction.Restriction.new.Goals as goal

pub returns-in-Err : goal.returns-in-Err
returns-in-Err g c = (refl, inr (omega (arith, c.if-boxes-positions.false, c.positions.ensures), subst (λ n. FirstWrong n c.args.boxes.now c.in-Err.refusal) c.clocks.ensures c.in-Err.ensures))
