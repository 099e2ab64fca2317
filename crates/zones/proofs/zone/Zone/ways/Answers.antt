use Rattle.std.proofs.Common.{◌+◌, ◌*◌, ◌/◌, ◌<◌, min, ◌≢◌, length, sym, refl, ap, ◌∙◌, subst, arith, length-set, below_more}
use Rattle.zones.specs.Codes.{Near, code_of}
use Rattle.zones.proofs.Props.{sound}
use Rattle.zones.proofs.Written.{code_same, code_other}
use Rattle.zones.proofs.CodeFacts.{near_plus, near_more, best_is}
use Rattle.zones.proofs.zone.Zone.ways.Goals as goal

pub plus-via-requires : goal.plus-via-requires
plus-via-requires c =
    let near = (sound _ c.args.self.now.ok).near in
    let d : c.loop-p.p / 9 < 9 = omega arith in
    let h : 9 * (c.loop-p.p / 9) + c.args.new.row < 81 = omega (arith, c.args.new.inside) in (
      subst (Near 6000000) (sym (c.halves-halves.ensures (c.loop-p.p / 9) d)) (near_more 5000001 6000000 _ (omega arith) (near_plus 4000000 1000001 _ _ (omega arith) (near _ h) c.args.new.near)),
      near_more 4000000 6000000 _ (omega arith) (near _ (omega (arith, c.args.new.inside))),
    )

pub loop-p-preserved : goal.loop-p-preserved
loop-p-preserved c =
    let lt : c.loop-p.p < length c.loop-p.next = omega arith in (
      simp length-set c.loop-p.invariant.0,
      below_more _ _
          (λ k h. let ne : k ≢ c.loop-p.p = omega arith in code_other c.loop-p.next c.loop-p.p k _ ne ∙ c.loop-p.invariant.1 k h)
          (code_same c.loop-p.next c.loop-p.p _ lt ∙ c.tighter.ensures ∙ ap (min (code_of c.args.self.now.codes c.loop-p.p)) c.plus-via.ensures),
    )

pub returns : goal.returns
returns c = λ p h.
    let d : p / 9 < 9 = omega (arith, h) in
    best_is c.args.self.now.codes c.args.new.row c.args.new.column c.args.new.code.0 p _ _ _ (c.halves-halves.ensures (p / 9) d) refl (c.loop-p.invariant.1 p (omega arith))
