use Rattle.std.proofs.Common.{ℕ, Bool, ap, ◌∙◌}
use Rattle.plans.proofs.Scaled.{one_scale}
use Rattle.plans.proofs.plan.allows_scale.Goals as goal

pub returns : goal.returns
returns g c = record {
  is = c.allows_scale.ensures ∙ ap (λ (f : ℕ → Bool). f c.args.scale) c.time.ensures.allows;
  routes = one_scale (g.P.Plan.meaning c.args.plan.now);
}
