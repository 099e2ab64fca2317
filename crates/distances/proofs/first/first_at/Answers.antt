use Rattle.std.proofs.Common.{false, refl, arith}
use Rattle.std.specs.Fn.{FnReturnsAt}
use Rattle.distances.proofs.Firsts.{read_item, first_here, first_past, first_none}
use Rattle.distances.proofs.first.first_at.Goals as goal
use Rattle.distances.proofs.first.first_at.Goals.{else-entry-position-via-then-entry-position+else-test, else-entry-position-via-else-entry-position}

pub returns-then-test : goal.returns-then-test
returns-then-test g c =
    let es = g.S.Store.entries c.args.store.now in
    let e = c.in_ok-entry.entry in
    first_here (FnReturnsAt g.F.Fn c.args.test) c.args.position es c.loop-k.k e (omega (arith, c.count-k-end.ensures)) (read_item es _ _ e c.in_ok-entry.ensures.value c.read.ensures) c.loop-k.invariant c.if-entry-position.true
    (record { shown = _; shows = refl; says = record { met = c.if-test.ensures } })

pub loop-k-preserved : goal.loop-k-preserved
loop-k-preserved g c =
    let es = g.S.Store.entries c.args.store.now in
    let e = c.in_ok-entry.entry in
    first_past (FnReturnsAt g.F.Fn c.args.test) c.args.position es c.loop-k.k e (omega (arith, c.count-k-end.ensures)) (read_item es _ _ e c.in_ok-entry.ensures.value c.read.ensures) c.loop-k.invariant
    (λ q. elim c.else-entry-position.branch as (λ _. FnReturnsAt g.F.Fn c.args.test e false) [ else-entry-position-via-then-entry-position+else-test w ↦ record { shown = _; shows = refl; says = record { met = w.if-test.ensures } } | else-entry-position-via-else-entry-position w ↦ absurd (w.if-entry-position.false q) ])

pub returns : goal.returns
returns g c = first_none (FnReturnsAt g.F.Fn c.args.test) c.args.position (g.S.Store.entries c.args.store.now) c.loop-k.k (omega (arith, c.count-k-end.ensures)) c.loop-k.invariant
