use Rattle.std.proofs.Common.{◌∙◌, arith}
use Rattle.std.proofs.lemmas.Result.{err_from_is_err_and}
use Rattle.distances.proofs.Turning.{across_begins, across_on, across_off, across_end}
use Rattle.distances.proofs.turns.Round.from_entry.Goals as goal

pub loop-k-init : goal.loop-k-init
loop-k-init g c =
    let s = c.args.store.now in
    across_begins (g.P.Plan.meaning c.args.self.now.plan.now) g.S.Store.need (g.S.Store.dimension s) (g.S.Store.entries s) (g.S.Store.room s) c.args.self.now.number c.args.held.now

pub loop-k-preserved : goal.loop-k-preserved
loop-k-preserved g c =
    let s = c.args.store.now in
    let t = c.loop-k.store in
    let v = c.cross.new.store in
    across_on (g.P.Plan.meaning c.args.self.now.plan.now) g.S.Store.need (g.S.Store.dimension s) (g.S.Store.entries s) (g.S.Store.room s) c.args.self.now.number c.args.held.now c.loop-k.k (g.S.Store.dimension t) (g.S.Store.entries t) (g.S.Store.room t) c.loop-k.invariant
    (omega (arith, c.outcomes-k-end.ensures)) (g.S.Store.dimension v) c.cross.ensures.clocks tt (g.S.Store.entries v) (g.S.Store.room v) (c.in_ok-cross.ensures.says c.loop-k.k c.in_ok-outcome.ensures)

pub returns-in_err-cross : goal.returns-in_err-cross
returns-in_err-cross g c =
    let s = c.args.store.now in
    let t = c.loop-k.store in
    let v = c.cross.new.store in
    let q = err_from_is_err_and c.from_residual-in_err-cross.result c.from_residual-in_err-cross.ensures.1 in
    rw (q.1, q.2) (record {
      says = across_off (g.P.Plan.meaning c.args.self.now.plan.now) g.S.Store.need (g.S.Store.dimension s) (g.S.Store.entries s) (g.S.Store.room s) c.args.self.now.number c.args.held.now c.loop-k.k (g.S.Store.dimension t) (g.S.Store.entries t) (g.S.Store.room t) c.loop-k.invariant
          (omega (arith, c.outcomes-k-end.ensures)) c.in_err-cross.field-0.0 (g.S.Store.entries v) (g.S.Store.room v) (c.in_err-cross.ensures.says c.loop-k.k c.in_ok-outcome.ensures);
      clocks = c.cross.ensures.clocks ∙ c.loop-k.invariant.clocks;
    })

pub returns : goal.returns
returns g c =
    let s = c.args.store.now in
    let t = c.loop-k.store in
    record {
      says = across_end (g.P.Plan.meaning c.args.self.now.plan.now) g.S.Store.need (g.S.Store.dimension s) (g.S.Store.entries s) (g.S.Store.room s) c.args.self.now.number c.args.held.now c.loop-k.k (g.S.Store.dimension t) (g.S.Store.entries t) (g.S.Store.room t) c.loop-k.invariant
          (omega (arith, c.outcomes-k-end.ensures)) tt;
      clocks = c.loop-k.invariant.clocks;
    }
