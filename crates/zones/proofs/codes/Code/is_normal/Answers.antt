use Rattle.std.proofs.Common.{sym, refl, ap, ◌∙◌, rules}
use Rattle.bounds.proofs.ScaleLaws.{scale_laws}
use Rattle.bounds.proofs.Apart.{normal_none}
use Rattle.zones.proofs.CutFacts.{normal_answer}
use Rattle.zones.proofs.codes.Code.is_normal.Goals as goal

pub returns-in_default : goal.returns-in_default
returns-in_default g c =
    let k = c.args.time.now in
    let t = g.T.TimeDomain in
    let e = sym c.in_default.ensures in
    (λ _. ap (t.normal k) e ∙ normal_none (scale_laws (t.allows k) (t.normal k) (t.lawful k)) ∙ sym e, λ _. refl)

pub returns : goal.returns
returns g c =
    normal_answer (g.T.TimeDomain.normal c.args.time.now) c.in-Some.bound c.args.self.0 c.in-Some.ensures c.requires c.normal_form.result c.is_ok_and.result _ (λ b q. search rules) c.normal_form.ensures c.is_ok_and.ensures
