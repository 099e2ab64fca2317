use Rattle.std.proofs.Common.{Ok, Err, refl, subst}
use Rattle.std.proofs.lemmas.Result.{err_from_is_err_and}
use Rattle.distances.specs.Turns.{OfferSays}
use Rattle.distances.proofs.Turning.{none_offered, goal_said}
use Rattle.distances.proofs.turns.Round.from_goal.Goals as goal

pub returns-in_err-left : goal.returns-in_err-left
returns-in_err-left g c =
    let p = c.args.self.now.plan.now in
    let s = c.args.store.now in
    let n = g.S.Store.dimension s in
    let e = c.in_err-left.field-0.0 in
    let q = err_from_is_err_and c.from_residual.result c.from_residual.ensures.1 in
    rw (q.1, q.2) (record {
      says = λ j i. goal_said (g.P.Plan.meaning p) (g.P.Plan.sound p) n (g.S.Store.need n) (g.S.Store.entries s) (g.S.Store.room s) j c.args.goal.now i (Err e) (Err e) (g.S.Store.entries s) (g.S.Store.room s) c.in_err-left.ensures
          (none_offered (g.P.Plan.meaning p) (g.P.Plan.sound p) n (g.S.Store.need n) (g.S.Store.entries s) (g.S.Store.room s) 0 c.args.goal.now.position e);
      clocks = refl;
    })

pub returns : goal.returns
returns g c =
    let p = c.args.self.now.plan.now in
    let s = c.args.store.now in
    let n = g.S.Store.dimension s in
    let v = c.offer.new.store in
    record {
      says = λ j i. goal_said (g.P.Plan.meaning p) (g.P.Plan.sound p) n (g.S.Store.need n) (g.S.Store.entries s) (g.S.Store.room s) j c.args.goal.now i (Ok c.in_ok-left.left) c.offer.result (g.S.Store.entries v) (g.S.Store.room v) c.in_ok-left.ensures
          (subst (λ f. OfferSays (g.P.Plan.meaning p) f c.args.goal.now.position (Ok c.in_ok-left.left) n (g.S.Store.need n) (g.S.Store.entries s) (g.S.Store.room s) c.offer.result (g.S.Store.entries v) (g.S.Store.room v)) c.requires c.offer.ensures.says);
      clocks = c.offer.ensures.clocks;
    }
