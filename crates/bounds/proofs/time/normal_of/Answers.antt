use Rattle.std.proofs.Common.{◌≡◌, sym, ap, ◌∙◌, subst}
use Rattle.bounds.specs.Bounds.{none}
use Rattle.bounds.specs.Sums.{bound_of, Vast}
use Rattle.bounds.proofs.ScaleLaws.{scale_laws}
use Rattle.bounds.proofs.Apart.{normal_none}
use Rattle.bounds.proofs.time.normal_of.Goals as goal

not_vast : Vast none → ⊥
unfolding Vast
not_vast h = h

pub returns-in_default : goal.returns-in_default
returns-in_default g c =
    let t = g.T.TimeDomain in
    let k = c.args.time.now in
    let e : bound_of c.args.bound ≡ none = ap bound_of c.in_default.is in (
      sym (ap (t.normal k) e ∙ normal_none (scale_laws (t.allows k) (t.normal k) (t.lawful k))),
      λ h. not_vast (subst Vast e h),
    )
