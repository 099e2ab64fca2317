use Rattle.std.proofs.Common.{◌+◌, ◌*◌, ◌<◌, ◌≤◌, sym, subst, arith, rules}
use Rattle.bounds.proofs.ScaleLaws.{scale_laws}
use Rattle.zones.specs.Codes.{Near}
use Rattle.zones.proofs.Props.{sound}
use Rattle.zones.proofs.CodeFacts.{near_more}
use Rattle.zones.proofs.CutFacts.{cut_empties, cut_sound, cut_keeps, cut_overs}
use Rattle.zones.proofs.zone.Zone.tighten.Goals as goal

pub plus-requires : goal.plus-requires
plus-requires g c =
    let s = sound c.args.self.now.codes c.args.self.now.ok in
    let h : 9 * c.args.new.column + c.args.new.row < 81 = omega (arith, c.args.new.inside) in
    (near_more 4000000 6000000 _ (omega arith) (s.near _ h), near_more 1000001 6000000 _ (omega arith) c.args.new.near)

pub returns-then-lt : goal.returns-then-lt
returns-then-lt g c =
    let t = g.T.TimeDomain in
    let k = c.args.time.now in
    let xs = c.args.self.now.codes in
    let lt : c.plus.result.0 < 33554433 = search rules in
    cut_empties (scale_laws (t.allows k) (t.normal k) (t.lawful k)) xs (sound xs c.args.self.now.ok) c.args.new.row c.args.new.column _ c.requires.fit c.args.new.code.0 (record { is = c.requires.code; near = c.args.new.near })
    (subst (λ n. n < 33554433) c.plus.ensures lt)

pub returns-then-not-in_range : goal.returns-then-not-in_range
returns-then-not-in_range g c =
    let t = g.T.TimeDomain in
    let k = c.args.time.now in
    let xs = c.args.self.now.codes in
    let ge : 33554433 ≤ c.plus.result.0 = search rules in
    let w = c.in_range.ensures.1 c.if-not-in_range.true in
    cut_overs (scale_laws (t.allows k) (t.normal k) (t.lawful k)) xs (sound xs c.args.self.now.ok) c.args.new.row c.args.new.column _ c.requires.fit c.args.new.code.0 (record { is = c.requires.code; near = c.args.new.near })
    (subst (λ n. 33554433 ≤ n) c.plus.ensures ge) (w.0, w.1, λ n. w.2 (subst (Near 4000000) (sym (c.ways-codes.ensures w.0 w.1)) n))

pub invariant_of-self : goal.invariant_of-self
invariant_of-self g c =
    let t = g.T.TimeDomain in
    let k = c.args.time.now in
    let xs = c.args.self.now.codes in
    let ge : 33554433 ≤ c.plus.result.0 = search rules in record {
      ok = ∣ cut_sound (scale_laws (t.allows k) (t.normal k) (t.lawful k)) xs (sound xs c.args.self.now.ok) c.args.new.row c.args.new.column _ c.requires.fit c.args.new.code.0 (record { is = c.requires.code; near = c.args.new.near })
          (subst (λ n. 33554433 ≤ n) c.plus.ensures ge) c.ways-codes.result (λ p h. (c.ways-codes.ensures p h, subst (Near 4000000) (c.ways-codes.ensures p h) (c.in_range.ensures.0 c.if-not-in_range.false p h))) ∣₁;
    }

pub returns : goal.returns
returns g c =
    let t = g.T.TimeDomain in
    let k = c.args.time.now in
    let xs = c.args.self.now.codes in
    let ge : 33554433 ≤ c.plus.result.0 = search rules in
    cut_keeps (scale_laws (t.allows k) (t.normal k) (t.lawful k)) xs (sound xs c.args.self.now.ok) c.args.new.row c.args.new.column _ c.requires.fit c.args.new.code.0 (record { is = c.requires.code; near = c.args.new.near })
    (subst (λ n. 33554433 ≤ n) c.plus.ensures ge) c.ways-codes.result (λ p h. (c.ways-codes.ensures p h, subst (Near 4000000) (c.ways-codes.ensures p h) (c.in_range.ensures.0 c.if-not-in_range.false p h)))
