use Rattle.std.proofs.Common.{Ok, sym, subst}
use Rattle.std.proofs.lemmas.Result.{err_from_is_err_and}
use Rattle.starts.specs.Told.{CutTells}
use Rattle.starts.proofs.Calling.{cut_tells, cut_beyond}
use Rattle.starts.proofs.calls.cut.Goals as goal

pub returns-in_err-left : goal.returns-in_err-left
returns-in_err-left g c =
    let k = c.args.time.now in
    let t = g.T.TimeDomain in
    let p = err_from_is_err_and c.from_residual.result c.from_residual.ensures.1 in
    rw (p.1, p.2) (cut_beyond (t.allows k) (t.normal k) (t.lawful k) c.args.area.now.sides c.args.zone.codes c.cut_box.new.self.codes c.in_err-left.field-0.0 c.in_err-left.ensures)

pub returns : goal.returns
returns g c =
    let k = c.args.time.now in
    let t = g.T.TimeDomain in
    let y = c.cut_box.new.self in
    subst (λ x. CutTells (t.normal k) c.args.area.now.sides c.args.zone.codes (Ok x)) (sym c.if_kept.ensures.is)
    (cut_tells (t.allows k) (t.normal k) (t.lawful k) c.args.area.now.sides c.args.zone.codes y c.in_ok-left.left c.if_kept.ensures.many c.in_ok-left.ensures)
