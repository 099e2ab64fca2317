use Rattle.std.proofs.Common.{◌≡◌, Bool, ℤ, pos, neg_ℤ, ◌≤ℤ◌, sym, refl, ap, ◌∙◌, subst, arith, w32, SFits, rules}
use borrow.Author.Differences.{ints}
use Rattle.bounds.specs.Bounds.{none, upto}
use Rattle.bounds.specs.Sums.{bound_of}
use Rattle.zones.specs.Boxes.{Ordinary, turned}
use Rattle.zones.proofs.boxes.Side.turned_lower.Goals as goal

low : (s : Bool) (n : ℤ) → Ordinary (upto s n) → (pos 0 ≤ℤ n) × (n ≤ℤ pos 1000000)
unfolding Ordinary
low s n o = o

turned_none : none ≡ turned none
unfolding turned
turned_none = refl

turned_some : (s : Bool) (n m : ℤ) → m ≡ neg_ℤ n → upto s m ≡ turned (upto s n)
unfolding turned
turned_some s n m e = ap (upto s) e

pub returns-in_err-b : goal.returns-in_err-b
returns-in_err-b c = ap bound_of c.from_residual.ensures ∙ turned_none ∙ ap (λ o. turned (bound_of o)) (sym c.in_err-b.was)

pub overflow_sub-result : goal.overflow_sub-result
overflow_sub-result c =
    let f : SFits w32 c.in_ok-b.b.number = search rules in
    let o = low _ _ (subst Ordinary (ap bound_of c.in_ok-b.was) c.requires) in
    omega (arith, ints, o.0, o.1)

pub returns : goal.returns
returns c =
    let f : SFits w32 c.in_ok-b.b.number = search rules in
    let o = low _ _ (subst Ordinary (ap bound_of c.in_ok-b.was) c.requires) in
    turned_some c.in_ok-b.b.closed c.in_ok-b.b.number _ (omega (arith, ints, o.0, o.1)) ∙ ap (λ o. turned (bound_of o)) (sym c.in_ok-b.was)
