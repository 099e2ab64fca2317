use Rattle.std.proofs.Common.{sym, ap, ◌∙◌, arith}
use borrow.Author.Differences.{ints}
use Rattle.bounds.specs.Bounds.{upto}
use Rattle.zones.proofs.Decoding.{code_closed, code_open}
use Rattle.zones.proofs.codes.Code.of.Goals as goal

pub returns-then-bound-clause-bound : goal.returns-then-bound-clause-bound
returns-then-bound-clause-bound c = code_closed _ c.args.bound.number (omega (arith, ints)) (omega (arith, ints)) ∙ ap (λ t. upto t c.args.bound.number) (sym c.if-bound.true)

pub returns-else-bound-clause-bound : goal.returns-else-bound-clause-bound
returns-else-bound-clause-bound c = code_open _ c.args.bound.number (omega (arith, ints)) (omega (arith, ints)) ∙ ap (λ t. upto t c.args.bound.number) (sym c.if-bound.false)
