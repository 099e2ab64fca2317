use Rattle.std.proofs.Common.{None, Ok, Err, refl, subst}
use Rattle.std.proofs.lemmas.Result.{err_from_is_err_and}
use Rattle.rounds.specs.Codes.{then, cut_box}
use Rattle.rounds.specs.Codes.Remains.{kept}
use Rattle.starts.specs.Told.{CutTells}
use Rattle.starts.proofs.Ways.{cut_none, cut_refused, home_none, home_refused, At, cut_tells, cut_at, home_tells}
use Rattle.starts.proofs.zones_back.home_by.Goals as goal

pub returns-in_err-there : goal.returns-in_err-there
returns-in_err-there g c pf ps pi z =
    let k = c.args.time.now in
    let t = g.T.TimeDomain in
    let first = c.args.first.now.sides in
    let second = c.args.second.now.sides in
    let inv = c.args.invariant.now.sides in
    let o = then (kept c.args.zone.codes) (cut_box (t.normal k) first) in
    let h : At (t.normal k) (kept c.args.zone.codes) c.args.zone = record { left = refl; of_domain = z } in
    let e = c.in_err-there.field-0.0 in
    let p = err_from_is_err_and c.from_residual.result c.from_residual.ensures.1 in
    rw (p.1, p.2) (home_refused (t.normal k) inv (then o (cut_box (t.normal k) second)) e
    (cut_refused (t.normal k) second o e (cut_tells (t.allows k) (t.normal k) (t.lawful k) first pf (kept c.args.zone.codes) c.args.zone h (Err e) c.in_err-there.ensures)))

pub returns-in_default : goal.returns-in_default
returns-in_default g c pf ps pi z =
    let k = c.args.time.now in
    let t = g.T.TimeDomain in
    let first = c.args.first.now.sides in
    let second = c.args.second.now.sides in
    let inv = c.args.invariant.now.sides in
    let o = then (kept c.args.zone.codes) (cut_box (t.normal k) first) in
    let h : At (t.normal k) (kept c.args.zone.codes) c.args.zone = record { left = refl; of_domain = z } in
    let n = subst (λ x. CutTells (t.normal k) first c.args.zone.codes (Ok x)) c.in_default.is c.in_ok-there.ensures in
    home_none (t.normal k) inv (then o (cut_box (t.normal k) second)) (cut_none (t.normal k) second o (cut_tells (t.allows k) (t.normal k) (t.lawful k) first pf (kept c.args.zone.codes) c.args.zone h (Ok None) n))

pub returns-in_err-here : goal.returns-in_err-here
returns-in_err-here g c pf ps pi z =
    let k = c.args.time.now in
    let t = g.T.TimeDomain in
    let first = c.args.first.now.sides in
    let second = c.args.second.now.sides in
    let inv = c.args.invariant.now.sides in
    let o = then (kept c.args.zone.codes) (cut_box (t.normal k) first) in
    let h : At (t.normal k) (kept c.args.zone.codes) c.args.zone = record { left = refl; of_domain = z } in
    let i = cut_at (t.allows k) (t.normal k) (t.lawful k) first pf (kept c.args.zone.codes) c.args.zone h _ c.in_ok-there.ensures c.in-Some.there c.in-Some.is in
    let e = c.in_err-here.field-0.0 in
    let p = err_from_is_err_and c.from_residual-in_err-here.result c.from_residual-in_err-here.ensures.1 in
    rw (p.1, p.2) (home_refused (t.normal k) inv (then o (cut_box (t.normal k) second)) e (cut_tells (t.allows k) (t.normal k) (t.lawful k) second ps o c.in-Some.there i (Err e) c.in_err-here.ensures))

pub returns-in_default-2 : goal.returns-in_default-2
returns-in_default-2 g c pf ps pi z =
    let k = c.args.time.now in
    let t = g.T.TimeDomain in
    let first = c.args.first.now.sides in
    let second = c.args.second.now.sides in
    let inv = c.args.invariant.now.sides in
    let o = then (kept c.args.zone.codes) (cut_box (t.normal k) first) in
    let h : At (t.normal k) (kept c.args.zone.codes) c.args.zone = record { left = refl; of_domain = z } in
    let i = cut_at (t.allows k) (t.normal k) (t.lawful k) first pf (kept c.args.zone.codes) c.args.zone h _ c.in_ok-there.ensures c.in-Some.there c.in-Some.is in
    let n = subst (λ x. CutTells (t.normal k) second c.in-Some.there.codes (Ok x)) c.in_default-2.is c.in_ok-here.ensures in
    home_none (t.normal k) inv (then o (cut_box (t.normal k) second)) (cut_tells (t.allows k) (t.normal k) (t.lawful k) second ps o c.in-Some.there i (Ok None) n)

pub returns : goal.returns
returns g c pf ps pi z =
    let k = c.args.time.now in
    let t = g.T.TimeDomain in
    let first = c.args.first.now.sides in
    let second = c.args.second.now.sides in
    let inv = c.args.invariant.now.sides in
    let o = then (kept c.args.zone.codes) (cut_box (t.normal k) first) in
    let h : At (t.normal k) (kept c.args.zone.codes) c.args.zone = record { left = refl; of_domain = z } in
    let i = cut_at (t.allows k) (t.normal k) (t.lawful k) first pf (kept c.args.zone.codes) c.args.zone h _ c.in_ok-there.ensures c.in-Some.there c.in-Some.is in
    let j = cut_at (t.allows k) (t.normal k) (t.lawful k) second ps o c.in-Some.there i _ c.in_ok-here.ensures c.in-Some-2.here c.in-Some-2.is in
    home_tells (t.allows k) (t.normal k) (t.lawful k) inv pi (then o (cut_box (t.normal k) second)) c.in-Some-2.here j c.home.result c.home.ensures
