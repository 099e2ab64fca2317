use Rattle.std.specs.Fn.{FnReturnsAt}
use Rattle.distances.proofs.Firsts.{Ahead}
use Rattle.distances.proofs.first.first_at.Given as goal

abbrev pub invariant-loop-k : goal.invariant-loop-k
invariant-loop-k g l = Ahead (FnReturnsAt g.F.Fn l.test) l.position (g.S.Store.entries l.store) l.k
