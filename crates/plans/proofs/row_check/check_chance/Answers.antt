use Rattle.std.proofs.Common.{refl, arith}
use Rattle.plans.proofs.Chances.{chances_are, chances_few}
use Rattle.plans.proofs.row_check.check_chance.Goals as goal

pub chances_of-requires : goal.chances_of-requires
chances_of-requires c =
    let os = c.args.outcomes.now in
    omega (arith, chances_are c.args.k os, chances_few c.args.k os c.requires.small, c.requires.few)

pub returns-then-chances_of-ne1000 : goal.returns-then-chances_of-ne1000
returns-then-chances_of-ne1000 c = (λ e. omega (arith, chances_are c.args.k c.args.outcomes.now), refl)

pub returns : goal.returns
returns c = omega (arith, chances_are c.args.k c.args.outcomes.now)
