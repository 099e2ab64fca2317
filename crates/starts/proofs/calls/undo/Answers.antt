use Rattle.std.proofs.Common.{Ok, sym, subst}
use Rattle.starts.specs.Told.{UndoTells}
use Rattle.starts.proofs.Calling.{undo_tells}
use Rattle.starts.proofs.calls.undo.Goals as goal

pub returns : goal.returns
returns g c =
    let k = c.args.time.now in
    let t = g.T.TimeDomain in
    subst (λ x. UndoTells (t.normal k) c.args.resets.now c.args.zone.codes (Ok x)) (sym c.if_kept.ensures.is)
    (undo_tells (t.allows k) (t.normal k) (t.lawful k) c.args.resets.now c.clocks_of.result c.clocks_of.ensures c.args.zone.codes c.undo.new.self c.in_ok-left.left c.if_kept.ensures.many c.in_ok-left.ensures)
