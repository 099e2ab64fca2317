use Rattle.std.proofs.Common.{Err, refl}
use Rattle.distances.proofs.Searched.{widen_open, widen_idle}
use Rattle.distances.proofs.Means.{widen_means}
use Rattle.bounds.specs.declared.refusal.Refusal.TheVariants as refused
use Rattle.distances.proofs.finder.Search.widen.Goals as goal

pub returns-in-Open : goal.returns-in-Open
returns-in-Open g c =
    let s = c.args.self.now in
    let t = s.store in
    let n = g.S.Store.dimension t in
    let v = c.advance.new.self in
    let M = g.P.Plan.meaning s.plan in
    let says = widen_open M n (g.S.Store.need n) (g.S.Store.entries t) (g.S.Store.room t) s.rounds c.advance.result s.phase v.phase (g.S.Store.entries v.store) (g.S.Store.room v.store) v.rounds c.in-Open.is c.advance.ensures.says in
    record {
      says = says;
      means = widen_means M (g.P.Plan.sound s.plan) n (g.S.Store.need n) s.phase (g.S.Store.entries t) (g.S.Store.room t) s.rounds c.advance.result v.phase (g.S.Store.entries v.store) (g.S.Store.room v.store) v.rounds says;
      plan = c.advance.ensures.plan;
      clocks = c.advance.ensures.clocks;
    }

pub returns-in-Closed : goal.returns-in-Closed
returns-in-Closed g c =
    let s = c.args.self.now in
    let t = s.store in
    let n = g.S.Store.dimension t in
    let M = g.P.Plan.meaning s.plan in
    let says = widen_idle M n (g.S.Store.need n) (g.S.Store.entries t) (g.S.Store.room t) s.rounds s.phase c.in-Closed.is in
    record {
      says = says;
      means = widen_means M (g.P.Plan.sound s.plan) n (g.S.Store.need n) s.phase (g.S.Store.entries t) (g.S.Store.room t) s.rounds (Err refused.Phase) s.phase (g.S.Store.entries t) (g.S.Store.room t) s.rounds says;
      plan = refl;
      clocks = refl;
    }
