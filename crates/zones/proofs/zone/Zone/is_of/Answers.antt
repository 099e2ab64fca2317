use Rattle.std.proofs.Common.{◌≡◌, ℕ, ◌+◌, ◌*◌, ◌<◌, refl, rules, arith}
use Rattle.std.proofs.iter.Serving.{serving}
use Rattle.bounds.specs.Domains.{hand_allows, hand_normal}
use Rattle.bounds.specs.DomainLaws.{hand_lawful}
use Rattle.bounds.proofs.ScaleLaws.{scale_laws}
use Rattle.zones.specs.Codes.{at, decode, code_of}
use Rattle.zones.proofs.Lists.{by_true}
use Rattle.zones.proofs.Props.{sound}
use Rattle.zones.proofs.Whole.{a_reading}
use Rattle.zones.proofs.zone.Zone.is_of.Goals as goal

pub every-requires : goal.every-requires
every-requires g c = λ p h. let near = (sound _ c.args.self.now.ok).near p h in grind serving

pub returns-clause-is : goal.returns-clause-is
returns-clause-is g c = (
  λ e p h. let k = c.every.ensures.0 e p h in search rules,
  λ f. by_true c.every.result (λ e. let w = c.every.ensures.1 e in let k = f w.0 w.1 in let n = w.2 in search rules),
)

pub returns-clause-state : goal.returns-clause-state
returns-clause-state g c = λ e.
    let k = c.args.time.now in
    let t = g.T.TimeDomain in
    let is : (p : ℕ) → p < 81 → t.normal k (decode (code_of c.args.self.now.codes p)) ≡ decode (code_of c.args.self.now.codes p) = λ p h. let w = c.every.ensures.0 e p h in search rules in
    a_reading (scale_laws (t.allows k) (t.normal k) (t.lawful k)) (at c.args.self.now.codes) (sound _ c.args.self.now.ok).canon (λ i j hi hj. is (9 * i + j) (omega arith))

pub returns-clause-some : goal.returns-clause-some
returns-clause-some g c = a_reading (scale_laws hand_allows hand_normal hand_lawful) (at c.args.self.now.codes) (sound _ c.args.self.now.ok).canon (λ i j hi hj. refl)
