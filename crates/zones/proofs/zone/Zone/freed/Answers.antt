use Rattle.std.proofs.Common.{◌<◌, ◌≢◌, length, ◌∙◌, arith, length-set, below_more}
use Rattle.zones.proofs.Written.{code_same, code_other}
use Rattle.zones.proofs.zone.Zone.freed.Goals as goal

pub loop-p-preserved : goal.loop-p-preserved
loop-p-preserved c =
    let lt : c.loop-p.p < length c.loop-p.code-items = omega arith in (
      simp length-set c.loop-p.invariant.0,
      below_more _ _
          (λ k h. let ne : k ≢ c.loop-p.p = omega arith in code_other c.loop-p.code-items c.loop-p.p k _ ne ∙ c.loop-p.invariant.1 k h)
          (code_same c.loop-p.code-items c.loop-p.p _ lt ∙ c.free_code.ensures),
    )

pub returns : goal.returns
returns c = λ p h. c.loop-p.invariant.1 p (omega arith)
