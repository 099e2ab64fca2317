use Rattle.std.proofs.Common.{◌≤◌, ⊎_elim}
use Rattle.std.proofs.lemmas.Bool.{cases_lt}
use Rattle.bounds.proofs.ScaleLaws.{scale_laws}
use Rattle.zones.specs.Codes.{code_of}
use Rattle.zones.proofs.Props.{sound}
use Rattle.zones.proofs.Outcomes.{within_yes, within_no}
use Rattle.zones.proofs.zone.Zone.within.Goals as goal

pub returns : goal.returns
returns g c =
    let k = c.args.time.now in
    let t = g.T.TimeDomain in
    let laws = scale_laws (t.allows k) (t.normal k) (t.lawful k) in
    let xs = c.args.self.now.codes in
    let s = sound xs c.args.self.now.ok in
    let ys = c.args.other.now.codes in
    let near = (sound ys c.args.other.now.ok).near in
    let keeps = c.in_ok-check.ensures in (
      keeps,
      c.in_ok-check-2.ensures,
      (
        λ e. within_yes laws xs ys s near keeps (c.no_looser.ensures.0 e),
        λ f. c.no_looser.ensures.1 (λ p h. ⊎_elim {C = code_of c.args.self.now.codes p ≤ code_of c.args.other.now.codes p}
            (λ l. absurd (within_no laws xs ys s near keeps p h l f))
            (λ l. l)
            (cases_lt (code_of c.args.other.now.codes p) (code_of c.args.self.now.codes p))),
      ),
    )
