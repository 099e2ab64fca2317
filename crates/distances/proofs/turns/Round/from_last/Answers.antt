use Rattle.std.proofs.Common.{◌-◌, refl}
use Rattle.distances.proofs.Turning.{other_round, this_round}
use Rattle.distances.proofs.turns.Round.from_last.Goals as goal

pub returns-then-held-self : goal.returns-then-held-self
returns-then-held-self g c =
    let s = c.args.store.now in
    let n = g.S.Store.dimension s in
    let f = c.args.self.now.number in
    record {
      says = λ j i. other_round (g.P.Plan.meaning c.args.self.now.plan.now) n (g.S.Store.need n) (g.S.Store.entries s) (g.S.Store.room s) f (f - 1) j c.args.held.now i c.if-held-self.true tt;
      clocks = refl;
    }

pub returns : goal.returns
returns g c =
    let s = c.args.store.now in
    let n = g.S.Store.dimension s in
    let f = c.args.self.now.number in
    let v = c.from_entry.new.store in
    record {
      says = λ j i. this_round (g.P.Plan.meaning c.args.self.now.plan.now) n (g.S.Store.need n) (g.S.Store.entries s) (g.S.Store.room s) f (f - 1) j c.args.held.now i c.if-held-self.false
          c.from_entry.result (g.S.Store.entries v) (g.S.Store.room v) c.from_entry.ensures.says;
      clocks = c.from_entry.ensures.clocks;
    }
