use Rattle.std.proofs.Common.{refl, rules}
use Rattle.std.proofs.lemmas.Iterator.{cases_from_all, YieldsList-from_range}
use Rattle.zones.specs.Given.{Direct}
use Rattle.zones.proofs.Ranges.{below_all}
use Rattle.zones.proofs.zone.given.all_direct.Goals as goal

pub returns : goal.returns
returns c = below_all (Direct c.args.codes.now) 81 c.all.result
    (cases_from_all _ _ c.all.result (Direct c.args.codes.now) (λ p. Direct c.args.codes.now p → ⊥) c.all.ensures.ran (YieldsList-from_range 0 81 81 refl refl) (λ x q k. search rules) (λ x q k. search rules))
