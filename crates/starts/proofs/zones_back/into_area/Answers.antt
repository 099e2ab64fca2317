use Rattle.std.proofs.Common.{sym, subst}
use Rattle.rounds.specs.Codes.Remains.{kept}
use Rattle.rounds.specs.Calls.{ZoneOf}
use Rattle.starts.specs.Told.{Tells}
use Rattle.starts.specs.Starts.{home_by}
use Rattle.starts.proofs.Calling.{all_of}
use Rattle.starts.proofs.zones_back.into_area.Goals as goal

pub returns : goal.returns
returns g c pi pa =
    let k = c.args.time.now in
    let t = g.T.TimeDomain in
    let inv = c.args.invariant.now.sides in
    subst (λ xs. Tells (home_by (t.normal k) inv c.args.area.now.sides inv (kept xs)) c.home_by.result) c.all.ensures
    (c.home_by.ensures pi pa pi (subst (ZoneOf (t.normal k)) (sym c.all.ensures) (all_of (t.allows k) (t.normal k) (t.lawful k))))
