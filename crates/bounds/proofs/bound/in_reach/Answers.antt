use Rattle.std.proofs.Common.{inl, inr, ⊎_elim, arith, w32, SFits, rules}
use borrow.Author.Differences.{ints}
use Rattle.bounds.specs.Sums.{OutOfReach, Vast}
use Rattle.bounds.proofs.bound.in_reach.Goals as goal

pub returns : goal.returns
unfolding Vast
returns c =
    let n = c.args.bound.number in
    let f : SFits w32 n = search rules in
    let e = c.from.ensures in (
      λ t. let r = c.reaches.ensures.0 t in ⊎_elim {C = ⊥} (λ h. omega (arith, ints)) (λ h. omega (arith, ints)),
      λ t. ⊎_elim {C = OutOfReach n} (λ h. inl (omega (arith, ints))) (λ h. inr (omega (arith, ints))) (c.reaches.ensures.1 t),
    )
