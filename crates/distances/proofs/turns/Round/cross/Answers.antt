use Rattle.std.proofs.Common.{Ok, Err, refl}
use Rattle.std.proofs.lemmas.Result.{err_from_is_err_and}
use Rattle.distances.proofs.Turning.{none_offered, unlikely, elsewhere, crossed}
use Rattle.distances.proofs.turns.Round.cross.Goals as goal
use Rattle.distances.proofs.turns.Round.cross.Goals.{then-outcome-lt1-via-then-outcome-lt1, then-outcome-lt1-via-else-outcome-lt1+then-outcome-held}

pub returns-then-outcome-lt1 : goal.returns-then-outcome-lt1
returns-then-outcome-lt1 g c =
    let p = c.args.self.now.plan.now in
    let s = c.args.store.now in
    let n = g.S.Store.dimension s in
    let f = c.args.self.now.number in
    let e = c.args.held.now in
    let o = c.args.outcome.now in
    record {
      says = λ j i. elim c.then-outcome-lt1.branch [
        | then-outcome-lt1-via-then-outcome-lt1 w ↦ unlikely (g.P.Plan.meaning p) (g.P.Plan.sound p) n (g.S.Store.need n) (g.S.Store.entries s) (g.S.Store.room s) f e j o i w.if-outcome-lt1.true tt
        | then-outcome-lt1-via-else-outcome-lt1+then-outcome-held w ↦ elsewhere (g.P.Plan.meaning p) (g.P.Plan.sound p) n (g.S.Store.need n) (g.S.Store.entries s) (g.S.Store.room s) f e j o i w.if-outcome-held.true tt
      ];
      clocks = refl;
    }

pub returns-in_err-left : goal.returns-in_err-left
returns-in_err-left g c =
    let p = c.args.self.now.plan.now in
    let s = c.args.store.now in
    let n = g.S.Store.dimension s in
    let f = c.args.self.now.number in
    let e = c.in_err-left.field-0.0 in
    let q = err_from_is_err_and c.from_residual-in_err-left.result c.from_residual-in_err-left.ensures.1 in
    rw (q.1, q.2) (record {
      says = λ j i. crossed (g.P.Plan.meaning p) (g.P.Plan.sound p) n (g.S.Store.need n) (g.S.Store.entries s) (g.S.Store.room s) f c.args.held.now j c.args.outcome.now i
          c.if-outcome-lt1.false c.if-outcome-held.false c.in_ok-cause.cause c.in_ok-cause.ensures (Err e) (Err e) (g.S.Store.entries s) (g.S.Store.room s) c.in_err-left.ensures
          (none_offered (g.P.Plan.meaning p) (g.P.Plan.sound p) n (g.S.Store.need n) (g.S.Store.entries s) (g.S.Store.room s) f c.in_ok-cause.cause.source e);
      clocks = refl;
    })

pub returns : goal.returns
returns g c =
    let p = c.args.self.now.plan.now in
    let s = c.args.store.now in
    let n = g.S.Store.dimension s in
    let v = c.offer.new.store in
    record {
      says = λ j i. crossed (g.P.Plan.meaning p) (g.P.Plan.sound p) n (g.S.Store.need n) (g.S.Store.entries s) (g.S.Store.room s) c.args.self.now.number c.args.held.now j c.args.outcome.now i
          c.if-outcome-lt1.false c.if-outcome-held.false c.in_ok-cause.cause c.in_ok-cause.ensures (Ok c.in_ok-left.left) c.offer.result (g.S.Store.entries v) (g.S.Store.room v) c.in_ok-left.ensures c.offer.ensures.says;
      clocks = c.offer.ensures.clocks;
    }
