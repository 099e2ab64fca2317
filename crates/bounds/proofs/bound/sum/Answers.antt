use Rattle.std.proofs.Common.{◌≡◌, ℕ, Bool, ◌&&◌, ◌⊎◌, ℤ, ◌+ℤ◌, refl, ap, ◌∙◌, sym, subst, inl, inr, ⊎_elim, arith, w32, SFits, rules}
use borrow.Author.Differences.{ints}
use Rattle.bounds.specs.Bounds.{UpperBound, none, upto, plus}
use Rattle.bounds.specs.Sums.{Reached, OutOfReach, Vast, bound_of}
use Rattle.bounds.proofs.bound.sum.Goals as goal

-- where one is none, so is the sum
no_sum : (a b : UpperBound) → (a ≡ none) ⊎ (b ≡ none) → (none ≡ plus a b) × (Vast (plus a b) → ⊥)
unfolding plus Vast
no_sum none b e = (refl, λ h. h)
no_sum (upto s a) none e = (refl, λ h. h)
no_sum (upto s a) (upto t b) e = let z : ◌≡◌ {A = ℕ} 0 1 = ⊎_elim {C = ◌≡◌ {A = ℕ} 0 1} (λ h. cc) (λ h. cc) e in absurd (omega arith)

module _ (a b : UpperBound) (s t r : Bool) (x y n : ℤ) (first : a ≡ upto s x) (second : b ≡ upto t y) (closed : r ≡ (s && t)) (number : n ≡ x +ℤ y) where
  sum_is : upto r n ≡ plus a b
  unfolding plus
  sum_is = (λ i. upto (closed i) (number i)) ∙ sym (λ i. plus (first i) (second i))

  sum_beyond : OutOfReach n → Vast (plus a b)
  unfolding Vast
  sum_beyond h = subst Vast sum_is h

  sum_reached : Reached n → (upto r n ≡ plus a b) × (Vast (plus a b) → ⊥)
  unfolding Vast
  sum_reached h = (sum_is, λ v. ⊎_elim {C = ⊥} (λ k. omega (arith, ints)) (λ k. omega (arith, ints)) (subst Vast (sym sum_is) v))

pub returns-in_default : goal.returns-in_default
returns-in_default c = no_sum _ _ (inr (ap bound_of c.in_default.is-1))

pub returns-in_default-2 : goal.returns-in_default-2
returns-in_default-2 c = no_sum _ _ (inl (ap bound_of c.in_default.is-0))

pub returns-then-not-reaches : goal.returns-then-not-reaches
returns-then-not-reaches c =
    let x = c.in-Some-Some.x in
    let y = c.in-Some-Some.y in
    let fx : SFits w32 x.number = search rules in
    let fy : SFits w32 y.number = search rules in
    let n = x.number +ℤ y.number in
    let far = ⊎_elim {C = OutOfReach n} (λ h. inl (omega (arith, ints, c.from.ensures, c.from-2.ensures))) (λ h. inr (omega (arith, ints, c.from.ensures, c.from-2.ensures))) (c.reaches.ensures.1 c.if-not-reaches.true) in
    (refl, sum_beyond _ _ x.closed y.closed _ x.number y.number n (ap bound_of c.in-Some-Some.is-0) (ap bound_of c.in-Some-Some.is-1) refl refl far)

pub overflow_cast-result : goal.overflow_cast-result
overflow_cast-result c =
    let fx : SFits w32 c.in-Some-Some.x.number = search rules in
    let fy : SFits w32 c.in-Some-Some.y.number = search rules in
    let near = c.reaches.ensures.0 c.if-not-reaches.false in
    omega (arith, ints, c.from.ensures, c.from-2.ensures)

pub returns-then-x : goal.returns-then-x
returns-then-x c =
    let x = c.in-Some-Some.x in
    let y = c.in-Some-Some.y in
    let fx : SFits w32 x.number = search rules in
    let fy : SFits w32 y.number = search rules in
    let near = c.reaches.ensures.0 c.if-not-reaches.false in
    sum_reached _ _ x.closed y.closed _ x.number y.number _ (ap bound_of c.in-Some-Some.is-0) (ap bound_of c.in-Some-Some.is-1) (sym (ap (λ t. t && y.closed) c.if-x.true)) (omega (arith, ints, c.from.ensures, c.from-2.ensures)) (omega (arith, ints), omega (arith, ints))

pub returns-else-x : goal.returns-else-x
returns-else-x c =
    let x = c.in-Some-Some.x in
    let y = c.in-Some-Some.y in
    let fx : SFits w32 x.number = search rules in
    let fy : SFits w32 y.number = search rules in
    let near = c.reaches.ensures.0 c.if-not-reaches.false in
    sum_reached _ _ x.closed y.closed _ x.number y.number _ (ap bound_of c.in-Some-Some.is-0) (ap bound_of c.in-Some-Some.is-1) (c.if-x.false ∙ sym (ap (λ t. t && y.closed) c.if-x.false)) (omega (arith, ints, c.from.ensures, c.from-2.ensures)) (omega (arith, ints), omega (arith, ints))
