use Rattle.std.proofs.Common.{Some, None, sym, ap}
use Rattle.rounds.specs.declared.replies.Answer.TheVariants.{Distance, NoRoute}
use Rattle.rounds.specs.Searches.{answer}
use Rattle.distances.proofs.Asked.{tell_answer, some_answer, untold_answer}
use Rattle.distances.proofs.finder.Search.tell.Goals as goal

pub returns-in-Some : goal.returns-in-Some
returns-in-Some g c =
    let s = c.args.self.now in
    let t = s.store in
    let q = c.args.state.now in
    tell_answer (g.P.Plan.meaning s.plan) (g.P.Plan.sound s.plan) (g.S.Store.dimension t) (g.S.Store.entries t) (g.S.Store.room t) s.rounds q.scale c.args.position q.readings.now
    c.is_askable.result c.if-not-is_askable.false c.is_askable.ensures _ _ c.time.ensures.allows c.time.ensures.normal (Some c.in-Some.round) c.in-Some.ensures s.phase (Distance c.in-Some.round) (some_answer s.phase s.rounds c.in-Some.round)

pub returns-in-Closed : goal.returns-in-Closed
returns-in-Closed g c =
    let s = c.args.self.now in
    let t = s.store in
    let q = c.args.state.now in
    tell_answer (g.P.Plan.meaning s.plan) (g.P.Plan.sound s.plan) (g.S.Store.dimension t) (g.S.Store.entries t) (g.S.Store.room t) s.rounds q.scale c.args.position q.readings.now
    c.is_askable.result c.if-not-is_askable.false c.is_askable.ensures _ _ c.time.ensures.allows c.time.ensures.normal None c.in_default.ensures s.phase NoRoute (sym (ap (λ p. answer p s.rounds None) c.in-Closed.is))

pub returns-in-Open : goal.returns-in-Open
returns-in-Open g c =
    let s = c.args.self.now in
    let t = s.store in
    let q = c.args.state.now in
    tell_answer (g.P.Plan.meaning s.plan) (g.P.Plan.sound s.plan) (g.S.Store.dimension t) (g.S.Store.entries t) (g.S.Store.room t) s.rounds q.scale c.args.position q.readings.now
    c.is_askable.result c.if-not-is_askable.false c.is_askable.ensures _ _ c.time.ensures.allows c.time.ensures.normal None c.in_default.ensures s.phase _ (untold_answer s.phase s.rounds c.in-Open.is)
