use Rattle.std.proofs.Common.{◌∙◌, rules}
use Rattle.distances.proofs.Covering.{covers}
use Rattle.distances.proofs.cover.is_covered.Goals as goal

pub returns : goal.returns
returns g c zs z =
    c.is_some.ensures ∙ covers (g.T.TimeDomain.normal c.args.time.now) c.args.position c.args.zone.now.codes z _ (λ e b t. search rules) (g.S.Store.entries c.args.store.now) c.first_at.result c.first_at.ensures zs
