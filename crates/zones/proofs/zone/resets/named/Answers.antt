use Rattle.std.proofs.Common.{refl, arith, length-set, below_more}
use Rattle.zones.proofs.Lists.{none_among, among_more, reset_is}
use Rattle.zones.proofs.zone.resets.named.Goals as goal

pub loop-c-init : goal.loop-c-init
loop-c-init c = (refl, λ k h. absurd (omega arith), none_among c.args.clocks.now)

pub loop-c-preserved : goal.loop-c-preserved
loop-c-preserved c = (
  simp length-set c.loop-c.invariant.0,
  below_more _ _ c.loop-c.invariant.1 (omega arith),
  among_more c.args.clocks.now c.loop-c.c-index c.loop-c.on c.loop-c.invariant.0 (omega arith) c.loop-c.invariant.2,
)

pub returns : goal.returns
returns c = (
  λ k h. c.loop-c.invariant.1 k (omega arith),
  reset_is c.args.clocks.now c.loop-c.c-index c.loop-c.on c.loop-c.invariant.0 (omega arith) c.loop-c.invariant.2,
)
