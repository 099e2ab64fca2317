use Rattle.std.proofs.Common.{sym, ◌∙◌}
use Rattle.bounds.proofs.Apart.{alike_normal, normal_alike}
use Rattle.bounds.proofs.time.agree.Goals as goal

pub returns : goal.returns
returns g c =
    let L = g.T.TimeDomain.lawful c.args.time.now in
    let x = c.in_ok-x.ensures in
    let y = c.in_ok-y.ensures in (
      x.1,
      y.1,
      λ e. alike_normal L _ _ (sym x.0 ∙ c.equal.ensures.0 e ∙ y.0),
      λ f. c.equal.ensures.1 (x.0 ∙ normal_alike L _ _ f ∙ sym y.0),
    )
