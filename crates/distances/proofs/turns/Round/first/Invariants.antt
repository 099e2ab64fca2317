use Rattle.distances.proofs.Turning.{FirstLoop}
use Rattle.distances.proofs.turns.Round.first.Given as goal

abbrev pub invariant-loop-k : goal.invariant-loop-k
invariant-loop-k g l =
    FirstLoop (g.P.Plan.meaning l.self.plan.now) g.S.Store.need (g.S.Store.dimension l.initial.store) (g.S.Store.entries l.initial.store) (g.S.Store.room l.initial.store) l.k (g.S.Store.dimension l.store) (g.S.Store.entries l.store) (g.S.Store.room l.store)
