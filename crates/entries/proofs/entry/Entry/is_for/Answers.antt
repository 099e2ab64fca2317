use Rattle.std.proofs.Common.{◌≡◌, ◌^◌, ◌<◌, ◌≤◌, true, length, ⊎_elim, rules}
use Rattle.std.proofs.lemmas.Bool.{cases_Bool}
use Rattle.zones.specs.Codes.{at}
use Rattle.zones.proofs.Props.{sound}
use Rattle.entries.proofs.Asks.{free_asks, asks_free, listed_free, free_listed}
use Rattle.entries.proofs.entry.Entry.is_for.Goals as goal

pub returns-then-contains : goal.returns-then-contains
returns-then-contains c =
    let e = c.args.self in
    let n = c.args.clocks.count in
    let xs = e.zone.codes in
    let s = sound xs e.zone.ok in
    let bs = c.zone_bounds.result in
    let is = c.zone_bounds.ensures in
    let low : 1 ≤ e.position = search rules in
    let high : e.position ≤ 64 = search rules in
    let long : length xs ≡ 81 = search rules in
    let fits : e.round < 2 ^ 64 = search rules in (
      λ t. record { low = low; high = high; fits = fits; places = long; asks = free_asks n xs s (listed_free n bs (at xs) is (c.free_above.ensures.0 t)) },
      λ i. ⊎_elim {C = c.free_above.result ≡ true} (λ t. t)
          (λ f. let w = c.free_above.ensures.1 f in absurd (w.2 (free_listed n bs (at xs) is (asks_free n xs s i.asks) w.0 w.1)))
          (cases_Bool c.free_above.result),
    )
