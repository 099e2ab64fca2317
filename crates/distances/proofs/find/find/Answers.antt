use Rattle.std.proofs.Common.{◌≡◌, ◌∙◌, rules}
use Rattle.std.specs.Option.{option_map}
use Rattle.entries.specs.declared.entry.Entry.{Entry}
use Rattle.distances.proofs.Finding.{finds}
use Rattle.distances.proofs.find.find.Goals as goal

pub returns : goal.returns
returns g c zs s =
    let k = c.args.time.now in
    let m : c.map.result ≡ option_map (λ (e : Entry). e.round) c.first_at.result = search rules in
    m ∙ finds (g.T.TimeDomain.allows k) (g.T.TimeDomain.normal k) c.args.state.now.scale c.args.position c.args.state.now.readings.now s _ (λ e b t. search rules) (g.S.Store.entries c.args.store.now) c.first_at.result c.first_at.ensures zs
