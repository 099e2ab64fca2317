use Rattle.std.proofs.Common.{◌-◌, ◌∙◌, arith}
use Rattle.std.proofs.lemmas.Result.{err_from_is_err_and}
use Rattle.distances.proofs.Turning.{next_begins, next_there, next_on, next_off, next_end}
use Rattle.distances.proofs.turns.Round.next.Goals as goal

pub loop-k-init : goal.loop-k-init
loop-k-init g c =
    let s = c.args.store.now in
    let f = c.args.self.now.number in
    next_begins (g.P.Plan.meaning c.args.self.now.plan.now) g.S.Store.need (g.S.Store.dimension s) (g.S.Store.entries s) (g.S.Store.room s) f (f - 1)

pub loop-k-preserved : goal.loop-k-preserved
loop-k-preserved g c =
    let s = c.args.store.now in
    let f = c.args.self.now.number in
    let t = c.loop-k.store in
    let v = c.from_last.new.store in
    next_on (g.P.Plan.meaning c.args.self.now.plan.now) g.S.Store.need (g.S.Store.dimension s) (g.S.Store.entries s) (g.S.Store.room s) f (f - 1) c.loop-k.k (g.S.Store.dimension t) (g.S.Store.entries t) (g.S.Store.room t) c.loop-k.invariant
    (omega (arith, c.count-k-end.ensures)) (g.S.Store.dimension v) c.from_last.ensures.clocks tt (g.S.Store.entries v) (g.S.Store.room v) (c.in_ok-from_last.ensures.says c.loop-k.k c.in_ok-entry.ensures)

pub returns-in_err-entry : goal.returns-in_err-entry
returns-in_err-entry g c =
    let s = c.args.store.now in
    let f = c.args.self.now.number in
    let t = c.loop-k.store in
    let q = err_from_is_err_and c.from_residual.result c.from_residual.ensures.1 in
    rw (q.1, q.2) (record {
      says = next_there (g.P.Plan.meaning c.args.self.now.plan.now) g.S.Store.need (g.S.Store.dimension s) (g.S.Store.entries s) (g.S.Store.room s) f (f - 1) c.loop-k.k (g.S.Store.dimension t) (g.S.Store.entries t) (g.S.Store.room t) c.loop-k.invariant
          (omega (arith, c.count-k-end.ensures)) c.in_err-entry.field-0.0 c.in_err-entry.ensures;
      clocks = c.loop-k.invariant.clocks;
    })

pub returns-in_err-from_last : goal.returns-in_err-from_last
returns-in_err-from_last g c =
    let s = c.args.store.now in
    let f = c.args.self.now.number in
    let t = c.loop-k.store in
    let v = c.from_last.new.store in
    let q = err_from_is_err_and c.from_residual-in_err-from_last.result c.from_residual-in_err-from_last.ensures.1 in
    rw (q.1, q.2) (record {
      says = next_off (g.P.Plan.meaning c.args.self.now.plan.now) g.S.Store.need (g.S.Store.dimension s) (g.S.Store.entries s) (g.S.Store.room s) f (f - 1) c.loop-k.k (g.S.Store.dimension t) (g.S.Store.entries t) (g.S.Store.room t) c.loop-k.invariant
          (omega (arith, c.count-k-end.ensures)) c.in_err-from_last.field-0.0 (g.S.Store.entries v) (g.S.Store.room v) (c.in_err-from_last.ensures.says c.loop-k.k c.in_ok-entry.ensures) (omega (arith, c.requires));
      clocks = c.from_last.ensures.clocks ∙ c.loop-k.invariant.clocks;
    })

pub returns : goal.returns
returns g c =
    let s = c.args.store.now in
    let f = c.args.self.now.number in
    let t = c.loop-k.store in
    record {
      says = next_end (g.P.Plan.meaning c.args.self.now.plan.now) g.S.Store.need (g.S.Store.dimension s) (g.S.Store.entries s) (g.S.Store.room s) f (f - 1) c.loop-k.k (g.S.Store.dimension t) (g.S.Store.entries t) (g.S.Store.room t) c.loop-k.invariant
          (omega (arith, c.count-k-end.ensures)) tt (omega (arith, c.requires));
      clocks = c.loop-k.invariant.clocks;
    }
