use Rattle.bounds.proofs.ScaleLaws.{scale_laws}
use Rattle.zones.proofs.Props.{sound}
use Rattle.zones.proofs.Outcomes.{back_is, back_kept, back_exact}
use Rattle.zones.proofs.zone.Zone.back.Goals as goal

pub returns : goal.returns
returns g c =
    let k = c.args.time.now in
    let t = g.T.TimeDomain in
    let laws = scale_laws (t.allows k) (t.normal k) (t.lawful k) in
    let xs = c.args.self.now.codes in
    let s = sound xs c.args.self.now.ok in
    let ys = c.backed.result.codes in
    let is = c.backed.ensures in
    let keeps = c.in_ok-check.ensures in
    record {
      was_of_domain = keeps;
      of_domain = back_kept xs ys s is laws keeps;
      bounds = back_is xs ys s is;
      states = back_exact xs ys s is laws keeps;
    }
