use Rattle.std.proofs.Common.{sym, subst}
use Rattle.distances.specs.Turns.{RoundSays}
use Rattle.distances.proofs.turns.do_round.Goals as goal

pub returns-then-round-eq0-clause-says : goal.returns-then-round-eq0-clause-says
returns-then-round-eq0-clause-says g c =
    let s = c.args.store.now in
    let n = g.S.Store.dimension s in
    let v = c.first.new.store in
    subst (λ f. RoundSays (g.P.Plan.meaning c.args.plan.now) n (g.S.Store.need n) f (g.S.Store.entries s) (g.S.Store.room s) c.first.result (g.S.Store.entries v) (g.S.Store.room v)) (sym c.if-round-eq0.true) c.first.ensures.says
