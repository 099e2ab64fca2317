use Rattle.std.proofs.Common.{sym, ◌∙◌}
use Rattle.layers.specs.LayersSound.{length_narrowed}
use Rattle.layers.proofs.restriction.RestrictionPlan.positions.Goals as goal

pub returns : goal.returns
returns g c = c.positions.ensures ∙ sym (length_narrowed _ _ _)
