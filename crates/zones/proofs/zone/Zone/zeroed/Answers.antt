use Rattle.std.proofs.Common.{◌+◌, false, get_or, MatchOption, sym, subst, arith}
use Rattle.zones.specs.Resets.{Stuck, Zeroed}
use Rattle.zones.specs.declared.zone.Zone.{Zone}
use Rattle.zones.proofs.Props.{sound}
use Rattle.zones.proofs.Zero.{zero_start, zero_cut, zero_kept, stuck}
use Rattle.zones.proofs.zone.Zone.zeroed.Goals as goal
use Rattle.zones.proofs.zone.Zone.zeroed.Goals.{then-reset+in_ok-next, else-reset}

pub loop-k-init : goal.loop-k-init
loop-k-init c = zero_start _ c.args.self.now.codes (sound _ c.args.self.now.ok)

pub returns-in_err-next : goal.returns-in_err-next
returns-in_err-next c =
    subst (λ o. MatchOption o (Stuck (λ i. get_or c.args.on.now i false) c.args.self.now.codes) (λ (z : Zone). Zeroed (λ i. get_or c.args.on.now i false) c.args.self.now.codes z.codes 9)) (sym c.from_residual.ensures)
    (stuck (λ i. get_or c.args.on.now i false) c.args.self.now.codes c.loop-k.next.codes c.loop-k.k (omega arith) c.loop-k.invariant c.if-reset.true c.in_err-next.ensures)

pub loop-k-preserved : goal.loop-k-preserved
loop-k-preserved c = elim c.if-reset.branch [
  | then-reset+in_ok-next w ↦ subst (λ (z : Zone). Zeroed (λ i. get_or c.args.on.now i false) c.args.self.now.codes z.codes (c.loop-k.k + 1)) (sym w.next-is)
      (zero_cut (λ i. get_or c.args.on.now i false) c.args.self.now.codes c.loop-k.next.codes c.loop-k.k (omega arith) c.loop-k.invariant _ w.if-reset.true w.in_ok-next.ensures.0 w.in_ok-next.ensures.1)
  | else-reset w ↦ subst (λ (z : Zone). Zeroed (λ i. get_or c.args.on.now i false) c.args.self.now.codes z.codes (c.loop-k.k + 1)) (sym w.next-is)
      (zero_kept (λ i. get_or c.args.on.now i false) c.args.self.now.codes c.loop-k.next.codes c.loop-k.k (omega arith) c.loop-k.invariant w.if-reset.false)
]
