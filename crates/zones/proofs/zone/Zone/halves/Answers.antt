use Rattle.std.proofs.Common.{◌+◌, ◌*◌, ◌<◌, ◌≢◌, length, ◌∙◌, arith, length-set, below_more}
use Rattle.zones.proofs.Props.{sound}
use Rattle.zones.proofs.Written.{code_same, code_other}
use Rattle.zones.proofs.CodeFacts.{near_more}
use Rattle.zones.proofs.zone.Zone.halves.Goals as goal

pub plus-requires : goal.plus-requires
plus-requires c =
    let h : 9 * c.loop-a.a + c.args.new.row < 81 = omega (arith, c.args.new.inside) in
    (near_more 4000000 6000000 _ (omega arith) ((sound _ c.args.self.now.ok).near _ h), near_more 1000001 6000000 _ (omega arith) c.args.new.near)

pub loop-a-preserved : goal.loop-a-preserved
loop-a-preserved c =
    let lt : c.loop-a.a < length c.loop-a.half-items = omega arith in (
      simp length-set c.loop-a.invariant.0,
      below_more _ _
          (λ k h. let ne : k ≢ c.loop-a.a = omega arith in code_other c.loop-a.half-items c.loop-a.a k _ ne ∙ c.loop-a.invariant.1 k h)
          (code_same c.loop-a.half-items c.loop-a.a _ lt ∙ c.plus.ensures),
    )

pub returns : goal.returns
returns c = λ a h. c.loop-a.invariant.1 a (omega arith)
