use Rattle.std.proofs.Common.{sym, subst}
use Rattle.starts.specs.Told.{Tells}
use Rattle.starts.specs.Starts.{home_by}
use Rattle.starts.proofs.Ways.{undo_at}
use Rattle.starts.proofs.zones_back.into_zone.Goals as goal

pub returns : goal.returns
returns g c pg pi z =
    let k = c.args.time.now in
    let t = g.T.TimeDomain in
    let inv = c.args.invariant.now.sides in
    let a = undo_at (t.allows k) (t.normal k) (t.lawful k) c.args.resets.now c.args.zone.codes z _ c.in_ok-before.ensures c.in-Some.before c.in-Some.is in
    subst (λ y. Tells (home_by (t.normal k) c.args.guard.now.sides inv inv y) c.home_by.result) (sym a.left) (c.home_by.ensures pg pi pi a.of_domain)
