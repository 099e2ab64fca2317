use Rattle.std.proofs.Common.{◌≡◌, ◌<◌, ◌≢◌, length, get_or, None, sym, refl, ap, ◌∙◌, subst, arith, rules, length-set, below_more}
use Rattle.bounds.specs.declared.refusal.Refusal.TheVariants as refused
use Rattle.bounds.specs.Sums.{bound_of}
use Rattle.zones.specs.Codes.{Near, decode}
use Rattle.zones.specs.Cuts.{Far}
use Rattle.zones.specs.Given.{NoZone}
use Rattle.zones.proofs.Written.{code_same, code_other}
use Rattle.zones.proofs.Givens.{none_far, none_other, canon_direct, direct_canon}
use Rattle.zones.proofs.zone.Zone.of_bounds.Goals as goal

pub returns-in_err-code : goal.returns-in_err-code
returns-in_err-code c =
    let r : (c.in_err-code.field-0.0 ≡ refused.Number) × Far (bound_of (get_or c.args.bounds.now c.loop-p.p None)) = search rules in
    let nz : NoZone c.args.bounds.now = none_far c.args.bounds.now c.loop-p.p (omega arith) r.1 in
    search rules

pub loop-p-preserved : goal.loop-p-preserved
loop-p-preserved c =
    let p = c.loop-p.p in
    let lt : p < length c.loop-p.code-items = omega arith in
    let here = code_same c.loop-p.code-items p _ lt in (
      simp length-set c.loop-p.invariant.0,
      below_more _ _
          (λ k h.
          let ne : k ≢ p = omega arith in
          let e = code_other c.loop-p.code-items p k _ ne in
          (subst (Near 4000000) (sym e) (c.loop-p.invariant.1 k h).0, ap decode e ∙ (c.loop-p.invariant.1 k h).1))
          (subst (Near 4000000) (sym here) c.in_ok-code.ensures.0, ap decode here ∙ c.in_ok-code.ensures.1),
    )

pub all_direct-requires : goal.all_direct-requires
all_direct-requires c = λ q h. (c.loop-p.invariant.1 q (omega arith)).0

pub returns-then-not-all_direct : goal.returns-then-not-all_direct
returns-then-not-all_direct c = (
  refl,
  none_other c.args.bounds.now c.loop-p.code-items (λ p h. (c.loop-p.invariant.1 p (omega arith)).1)
      (λ can. let e = c.all_direct.ensures.1 (canon_direct c.loop-p.code-items (λ q h. (c.loop-p.invariant.1 q (omega arith)).0) can) in cc),
)

pub invariant_of-result : goal.invariant_of-result
invariant_of-result c = record { ok = ∣ record { near = λ q h. (c.loop-p.invariant.1 q (omega arith)).0; canon = direct_canon c.loop-p.code-items (λ q h. (c.loop-p.invariant.1 q (omega arith)).0) (c.all_direct.ensures.0 c.if-not-all_direct.false) } ∣₁ }

pub returns : goal.returns
returns c = λ q h. (c.loop-p.invariant.1 q (omega arith)).1
