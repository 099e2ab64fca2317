use Rattle.std.proofs.Common.{Err}
use Rattle.distances.proofs.Asked.{ask_fit, ask_unfit}
use Rattle.distances.proofs.Means.{ask_means}
use Rattle.bounds.specs.declared.refusal.Refusal.TheVariants as refused
use Rattle.distances.proofs.finder.Search.ask.Goals as goal

pub returns-in-Unfit : goal.returns-in-Unfit
returns-in-Unfit g c =
    let s = c.args.self.now in
    let t = s.store in
    let q = c.args.state.now in
    let M = g.P.Plan.meaning s.plan in
    let says = ask_unfit M (g.P.Plan.sound s.plan) (g.S.Store.dimension t) (g.S.Store.entries t) (g.S.Store.room t) s.rounds q.scale c.args.position q.readings.now s.phase c.in-Unfit.is in
    record {
      says = says;
      means = ask_means M (g.P.Plan.sound s.plan) (g.S.Store.dimension t) s.phase (g.S.Store.entries t) (g.S.Store.room t) s.rounds q.scale c.args.position q.readings.now (Err refused.Phase) says;
    }

pub returns-in-Open : goal.returns-in-Open
returns-in-Open g c =
    let s = c.args.self.now in
    let t = s.store in
    let q = c.args.state.now in
    let M = g.P.Plan.meaning s.plan in
    let says = ask_fit M (g.P.Plan.sound s.plan) (g.S.Store.dimension t) (g.S.Store.entries t) (g.S.Store.room t) s.rounds q.scale c.args.position q.readings.now s.phase c.in-Open.is c.tell.result c.tell.ensures in
    record {
      says = says;
      means = ask_means M (g.P.Plan.sound s.plan) (g.S.Store.dimension t) s.phase (g.S.Store.entries t) (g.S.Store.room t) s.rounds q.scale c.args.position q.readings.now c.tell.result says;
    }
