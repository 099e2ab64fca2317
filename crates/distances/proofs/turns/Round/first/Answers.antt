use Rattle.std.proofs.Common.{◌∙◌, arith}
use Rattle.std.proofs.lemmas.Result.{err_from_is_err_and}
use Rattle.distances.proofs.Turning.{first_begins, first_on, first_off, first_end}
use Rattle.distances.proofs.turns.Round.first.Goals as goal

pub loop-k-init : goal.loop-k-init
loop-k-init g c =
    let s = c.args.store.now in
    first_begins (g.P.Plan.meaning c.args.self.now.plan.now) g.S.Store.need (g.S.Store.dimension s) (g.S.Store.entries s) (g.S.Store.room s)

pub loop-k-preserved : goal.loop-k-preserved
loop-k-preserved g c =
    let s = c.args.store.now in
    let t = c.loop-k.store in
    let v = c.from_goal.new.store in
    first_on (g.P.Plan.meaning c.args.self.now.plan.now) g.S.Store.need (g.S.Store.dimension s) (g.S.Store.entries s) (g.S.Store.room s) c.loop-k.k (omega (arith, c.goals-k-end.ensures)) (g.S.Store.dimension t) (g.S.Store.entries t) (g.S.Store.room t) c.loop-k.invariant
    (g.S.Store.dimension v) c.from_goal.ensures.clocks tt (g.S.Store.entries v) (g.S.Store.room v) (c.in_ok-from_goal.ensures.says c.loop-k.k c.in_ok-goal.ensures)

pub returns-in_err-from_goal : goal.returns-in_err-from_goal
returns-in_err-from_goal g c =
    let s = c.args.store.now in
    let t = c.loop-k.store in
    let v = c.from_goal.new.store in
    let q = err_from_is_err_and c.from_residual-in_err-from_goal.result c.from_residual-in_err-from_goal.ensures.1 in
    rw (q.1, q.2) (record {
      says = first_off (g.P.Plan.meaning c.args.self.now.plan.now) g.S.Store.need (g.S.Store.dimension s) (g.S.Store.entries s) (g.S.Store.room s) c.loop-k.k (omega (arith, c.goals-k-end.ensures)) (g.S.Store.dimension t) (g.S.Store.entries t) (g.S.Store.room t) c.loop-k.invariant
          c.in_err-from_goal.field-0.0 (g.S.Store.entries v) (g.S.Store.room v) (c.in_err-from_goal.ensures.says c.loop-k.k c.in_ok-goal.ensures);
      clocks = c.from_goal.ensures.clocks ∙ c.loop-k.invariant.clocks;
    })

pub returns : goal.returns
returns g c =
    let s = c.args.store.now in
    let t = c.loop-k.store in
    record {
      says = first_end (g.P.Plan.meaning c.args.self.now.plan.now) g.S.Store.need (g.S.Store.dimension s) (g.S.Store.entries s) (g.S.Store.room s) c.loop-k.k (omega (arith, c.goals-k-end.ensures)) (g.S.Store.dimension t) (g.S.Store.entries t) (g.S.Store.room t) c.loop-k.invariant tt;
      clocks = c.loop-k.invariant.clocks;
    }
