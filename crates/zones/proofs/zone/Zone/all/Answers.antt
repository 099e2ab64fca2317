use Rattle.std.proofs.Common.{◌<◌, ◌≢◌, length, ◌∙◌, arith, length-set, below_more}
use Rattle.zones.proofs.Written.{code_same, code_other}
use Rattle.zones.proofs.All.{all_sound, all_holds, all_is}
use Rattle.zones.proofs.zone.Zone.all.Goals as goal

pub loop-p-preserved : goal.loop-p-preserved
loop-p-preserved c =
    let lt : c.loop-p.p < length c.loop-p.code-items = omega arith in (
      simp length-set c.loop-p.invariant.0,
      below_more _ _
          (λ k h. let ne : k ≢ c.loop-p.p = omega arith in code_other c.loop-p.code-items c.loop-p.p k _ ne ∙ c.loop-p.invariant.1 k h)
          (code_same c.loop-p.code-items c.loop-p.p _ lt ∙ c.open_code.ensures),
    )

pub invariant_of-result : goal.invariant_of-result
invariant_of-result c = record { ok = ∣ all_sound _ (λ p h. c.loop-p.invariant.1 p (omega arith)) ∣₁ }

pub returns : goal.returns
returns c = record {
  bounds = all_is _ (λ p h. c.loop-p.invariant.1 p (omega arith));
  states = λ D v rd. all_holds _ (λ p h. c.loop-p.invariant.1 p (omega arith)) D v rd.0 rd.1;
}
