use Rattle.std.proofs.Common.{sym, ap, ◌∙◌}
use Rattle.zones.specs.declared.zone.Zone.{Zone}
use Rattle.rounds.specs.Codes.Remains.{kept}
use Rattle.starts.proofs.Calling.{back_kept}
use Rattle.starts.proofs.calls.back.Goals as goal

pub returns : goal.returns
returns g c z =
    let k = c.args.time.now in
    let t = g.T.TimeDomain in
    let y = c.back.new.self in
    back_kept (t.allows k) (t.normal k) (t.lawful k) c.args.zone.codes y.codes _ c.whole.ensures.many y.ok c.in_ok-back.ensures z
    ∙ ap (λ (x : Zone). kept x.codes) (sym c.whole.ensures.is)
