use Rattle.std.proofs.Common.{ap, ◌∙◌}
use Rattle.zones.specs.declared.zone.Zone.{Zone}
use Rattle.starts.proofs.Calling.{all_codes}
use Rattle.starts.proofs.calls.all.Goals as goal

pub returns : goal.returns
returns c = ap (λ (z : Zone). z.codes) c.whole.ensures.is ∙ all_codes c.all.result.codes c.whole.ensures.many c.all.result.ok c.all.ensures
