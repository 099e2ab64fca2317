use Rattle.std.proofs.Common.{sym, ◌∙◌, arith}
use Rattle.std.proofs.lemmas.Result.{err_from_is_err_and}
use Rattle.distances.proofs.Searched.{advance_refused, advance_closed, advance_open}
use Rattle.distances.proofs.finder.Search.advance.Goals as goal
use Rattle.distances.proofs.finder.Search.advance.Goals.{then-count-before, else-count-before}

pub returns-in_err-do_round-clause-says : goal.returns-in_err-do_round-clause-says
returns-in_err-do_round-clause-says g c =
    let s = c.args.self.now in
    let n = g.S.Store.dimension s.store in
    let v = c.do_round.new.store in
    let q = err_from_is_err_and c.from_residual.result c.from_residual.ensures.1 in
    rw (q.1, q.2) (advance_refused (g.P.Plan.meaning s.plan) n (g.S.Store.need n) (g.S.Store.entries s.store) (g.S.Store.room s.store) s.rounds (g.S.Store.entries v) (g.S.Store.room v) c.in_err-do_round.field-0.0 c.in_err-do_round.ensures.says)

pub returns-clause-says : goal.returns-clause-says
returns-clause-says g c =
    let s = c.args.self.now in
    let n = g.S.Store.dimension s.store in
    let v = c.do_round.new.store in
    let f = c.saturating_add-self.result in
    elim c.if-count-before.branch [
      | then-count-before w ↦ rw w.self-is (advance_closed (g.P.Plan.meaning s.plan) n (g.S.Store.need n) (g.S.Store.entries s.store) (g.S.Store.room s.store) s.rounds (g.S.Store.entries v) (g.S.Store.room v) tt f c.in_ok-do_round.ensures.says
          (λ small. omega (arith, c.saturating_add-self.ensures)) (sym c.count.ensures ∙ w.if-count-before.true ∙ c.count-before.ensures))
      | else-count-before w ↦ rw w.self-is (advance_open (g.P.Plan.meaning s.plan) n (g.S.Store.need n) (g.S.Store.entries s.store) (g.S.Store.room s.store) s.rounds (g.S.Store.entries v) (g.S.Store.room v) tt f c.in_ok-do_round.ensures.says
          (λ small. omega (arith, c.saturating_add-self.ensures)) (λ e. w.if-count-before.false (c.count.ensures ∙ e ∙ sym c.count-before.ensures)))
    ]
