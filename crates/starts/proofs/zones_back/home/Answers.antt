use Rattle.std.proofs.Common.{sym, subst}
use Rattle.rounds.specs.Codes.{then, cut_box}
use Rattle.rounds.specs.Codes.Remains.{kept}
use Rattle.starts.specs.Told.{Tells, RemainsOf}
use Rattle.starts.proofs.Calling.{back_of}
use Rattle.starts.proofs.zones_back.home.Goals as goal

pub returns : goal.returns
returns g c p z =
    let k = c.args.time.now in
    let t = g.T.TimeDomain in
    let is = c.in_ok-back.ensures z in
    let w = back_of (t.allows k) (t.normal k) (t.lawful k) (kept c.args.zone.codes) z in
    subst (λ o. Tells (then o (cut_box (t.normal k) c.args.invariant.now.sides)) c.cut.result) (sym is) (c.cut.ensures p (subst (RemainsOf (t.normal k)) is w))
