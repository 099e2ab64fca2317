use Rattle.std.proofs.Common.{◌≡◌, ◌+◌, length, Ok, Err, Some, Result, MatchResult, sym, ◌∙◌, refl, ap, subst, arith, rules, of_calls}
use Rattle.std.specs.Result.{IsErrAnd}
use borrow.Author.Count.{below_more}
use Rattle.bounds.specs.declared.refusal.Refusal.{Refusal}
use Rattle.plans.specs.declared.faults.RowFault.{RowFault}
use Rattle.plans.specs.FirstFaults.{SaysAt, Refuses, Accepts}
use Rattle.plans.proofs.row_check.first_fault.Goals as goal

-- what was mapped, and is no error, was none
module _ (Q : Refusal → RowFault → Type 0) (r : Result (Unit {0}) Refusal) (m : Result (Unit {0}) RowFault) (h : MatchResult r (λ x. m ≡ Ok x) (λ e. IsErrAnd m (Q e))) where
  ok_of : (u : Unit {0}) → m ≡ Ok u → r ≡ Ok tt
  ok_of u e = elim r as (λ r. MatchResult r (λ x. m ≡ Ok x) (λ e. IsErrAnd m (Q e)) → r ≡ Ok tt) [
    | Ok u ↦ λ h. refl
    | Err w ↦ λ h. absurd (subst (λ n. IsErrAnd n (Q w)) e h)
  ] h

  err_of : (f : RowFault) → m ≡ Err f → (w : Refusal) × (r ≡ Err w) × Q w f
  err_of f e = elim r as (λ r. MatchResult r (λ x. m ≡ Ok x) (λ e. IsErrAnd m (Q e)) → (w : Refusal) × (r ≡ Err w) × Q w f) [
    | Ok u ↦ λ h. cc
    | Err w ↦ λ h. (w, refl, subst (λ n. IsErrAnd n (Q w)) e h)
  ] h

pub returns-in_err-map_err : goal.returns-in_err-map_err
returns-in_err-map_err g c =
    let x = err_of _ _ _ c.map_err.ensures.cases _ c.in_err-map_err.was in
    let e : c.in_err-map_err.field-0.0 ≡ record { refusal = x.0; list = c.args.list; row = Some (c.loop-i.i-counter + 1) } = search (rules, of_calls, x) in
    let y : c.from_residual.result ≡ Err c.in_err-map_err.field-0.0 = search (rules, of_calls) in
    subst (λ (r : Result (Unit {0}) RowFault). MatchResult r (λ _. Accepts g.F.Fn c.args.check c.args.rows.now (length c.args.rows.now)) (λ f. Refuses g.F.Fn c.args.check c.args.rows.now c.args.list f))
    (sym (y ∙ ap Err e))
    (c.loop-i.i-counter, c.loop-i-test.true, refl, refl, c.loop-i.invariant, (_, c.index-rows-i.is, record { met = subst (g.F.Fn.post c.args.check _) x.1 c.check.ensures }))

pub loop-i-preserved : goal.loop-i-preserved
loop-i-preserved g c =
    let e = ok_of _ _ _ c.map_err.ensures.cases _ c.in_ok-map_err.was in
    let here : SaysAt g.F.Fn c.args.check c.args.rows.now c.loop-i.i-counter (Ok tt) = (_, c.index-rows-i.is, record { met = subst (g.F.Fn.post c.args.check _) e c.check.ensures }) in
    below_more (λ k. SaysAt g.F.Fn c.args.check c.args.rows.now k (Ok tt)) c.loop-i.i-counter c.loop-i.invariant here

pub returns : goal.returns
returns g c = λ j h. c.loop-i.invariant j (omega arith)
