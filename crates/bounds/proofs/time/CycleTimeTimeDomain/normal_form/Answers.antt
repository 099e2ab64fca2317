use Rattle.std.proofs.Common.{◌≡◌, Bool, true, false, ℤ, pos, negsuc, ◌-ℤ◌, ◌≤ℤ◌, refl, ap, inl, arith, w32, SFits, rules}
use borrow.Author.Differences.{ints}
use Rattle.std.proofs.lemmas.Int.{by_lt_z}
use Rattle.bounds.specs.Bounds.{upto}
use Rattle.bounds.specs.Sums.{Vast}
use Rattle.bounds.specs.Domains.{cycle_normal}
use Rattle.bounds.proofs.time.CycleTimeTimeDomain.normal_form.Goals as goal

closed : (s : Bool) (n : ℤ) → s ≡ true → upto s n ≡ cycle_normal (upto s n)
unfolding cycle_normal
closed true n e = refl
closed false n e = let z : ◌≡◌ {A = ℤ} (pos 0) (pos 1) = cc in absurd (omega (arith, ints))

open_one : (s : Bool) (n m : ℤ) → s ≡ false → m ≡ n -ℤ pos 1 → upto true m ≡ cycle_normal (upto s n)
unfolding cycle_normal
open_one true n m e h = let z : ◌≡◌ {A = ℤ} (pos 0) (pos 1) = cc in absurd (omega (arith, ints))
open_one false n m e h = ap (upto true) h

reach : (s : Bool) (n : ℤ) → (Vast (upto s n) → ⊥) → negsuc 999999999 ≤ℤ n
unfolding Vast
reach s n v = by_lt_z n (negsuc 999999999) (λ h. absurd (v (inl h))) (λ h. h)

pub returns-then-not-in_reach : goal.returns-then-not-in_reach
returns-then-not-in_reach c = (refl, c.in_reach.ensures.1 c.if-not-in_reach.true)

pub returns-then-bound : goal.returns-then-bound
returns-then-bound c = (closed _ _ c.if-bound.true, c.in_reach.ensures.0 c.if-not-in_reach.false)

pub overflow_sub-result : goal.overflow_sub-result
overflow_sub-result c =
    let f : SFits w32 c.args.bound.number = search rules in
    let h = reach c.args.bound.closed c.args.bound.number (c.in_reach.ensures.0 c.if-not-in_reach.false) in
    omega (arith, ints)

pub returns : goal.returns
returns c =
    let f : SFits w32 c.args.bound.number = search rules in
    let h = reach c.args.bound.closed c.args.bound.number (c.in_reach.ensures.0 c.if-not-in_reach.false) in
    (open_one _ _ _ c.if-bound.false (omega (arith, ints)), c.in_reach.ensures.0 c.if-not-in_reach.false)
