-- Cycle time and hand time keep the laws of a time domain
use Rattle.std.specs.Prelude.{◌≡◌, ℕ, ◌*◌, ◌≤◌, Bool, true, false, ℤ, pos, ◌+ℤ◌, ◌-ℤ◌, ◌*ℤ◌, refl}
use Rattle.std.proofs.Common.{sym, ap, ◌∙◌, subst, arith, one-mul, mul_comm, mul_assoc}
use borrow.Author.Differences.{ints, up, down}
use Rattle.std.proofs.lemmas.Bool.{eqb-true, leb-true, le-leb}
use Rattle.bounds.specs.Bounds.{UpperBound, none, upto, plus, Meets}
use Rattle.bounds.specs.declared.time.PlanTime.{PlanTime}
use Rattle.bounds.specs.declared.time.PlanTime.TheVariants.{Cycle, Hand}
use Rattle.bounds.specs.Chosen.{plan_allows, plan_normal}
use Rattle.bounds.specs.Domains.{Lawful, Split, Alike, cycle_allows, cycle_normal, hand_allows, hand_normal}
use Rattle.bounds.specs.Laws.{times_is, times_plus}

-- ---- cycle time
times_1 : (c : ℤ) (D : ℕ) → D ≡ 1 → c *ℤ pos D ≡ c
times_1 c D e = rw e (omega (arith, ints, times_is c 1))

pub cycle_same : (D : ℕ) (l : UpperBound) → cycle_allows D ≡ true → Alike D l (cycle_normal l)
unfolding Meets cycle_normal
cycle_same D none e d = (λ h. h, λ h. h)
cycle_same D (upto true c) e d = (λ h. h, λ h. h)
cycle_same D (upto false c) e d =
    let p = times_1 c D (eqb-true D 1 e) in
    let q = times_1 (c -ℤ pos 1) D (eqb-true D 1 e) in
    (λ h. omega (arith, ints), λ h. omega (arith, ints))

pub cycle_sums : (a b : UpperBound) → cycle_normal (plus (cycle_normal a) (cycle_normal b)) ≡ plus (cycle_normal a) (cycle_normal b)
unfolding plus cycle_normal
cycle_sums none b = refl
cycle_sums (upto true a) none = refl
cycle_sums (upto false a) none = refl
cycle_sums (upto true a) (upto true b) = refl
cycle_sums (upto true a) (upto false b) = refl
cycle_sums (upto false a) (upto true b) = refl
cycle_sums (upto false a) (upto false b) = refl

-- ---- splitting at the scale itself
module _ (allows : ℕ → Bool) (D : ℕ) (d : ℤ) (a b : UpperBound) (ok : allows D ≡ true) where
  at_once : (x y : ℤ) → x +ℤ y ≡ d → Meets D x a → Meets D y b → Split allows D d a b
  at_once x y e h k = record {
    m = 1;
    x = x;
    y = y;
    some = omega arith;
    allowed = rw one-mul ok;
    sum = e ∙ sym (times_1 d 1 refl);
    first = rw one-mul h;
    second = rw one-mul k;
  }

-- unless both are `<`
pub split_easy : (allows : ℕ → Bool) (D : ℕ) (d : ℤ) (a b : UpperBound) → allows D ≡ true → Meets D d (plus a b)
    → ((p q : ℤ) → a ≡ upto false p → b ≡ upto false q → Split allows D d a b) → Split allows D d a b
unfolding Meets plus
split_easy allows D d none none ok h f = at_once allows D d none none ok d (pos 0) (omega (arith, ints)) tt tt
split_easy allows D d none (upto true q) ok h f = at_once allows D d none (upto true q) ok (d -ℤ (q *ℤ pos D)) (q *ℤ pos D) (omega (arith, ints)) tt (omega (arith, ints))
split_easy allows D d none (upto false q) ok h f = at_once allows D d none (upto false q) ok (d -ℤ ((q *ℤ pos D) -ℤ pos 1)) ((q *ℤ pos D) -ℤ pos 1) (omega (arith, ints)) tt (omega (arith, ints))
split_easy allows D d (upto true p) none ok h f = at_once allows D d (upto true p) none ok (p *ℤ pos D) (d -ℤ (p *ℤ pos D)) (omega (arith, ints)) (omega (arith, ints)) tt
split_easy allows D d (upto false p) none ok h f = at_once allows D d (upto false p) none ok ((p *ℤ pos D) -ℤ pos 1) (d -ℤ ((p *ℤ pos D) -ℤ pos 1)) (omega (arith, ints)) (omega (arith, ints)) tt
split_easy allows D d (upto true p) (upto true q) ok h f = at_once allows D d (upto true p) (upto true q) ok (p *ℤ pos D) (d -ℤ (p *ℤ pos D)) (omega (arith, ints)) (omega (arith, ints)) (omega (arith, ints, times_plus p q D))
split_easy allows D d (upto true p) (upto false q) ok h f = at_once allows D d (upto true p) (upto false q) ok (p *ℤ pos D) (d -ℤ (p *ℤ pos D)) (omega (arith, ints)) (omega (arith, ints)) (omega (arith, ints, times_plus p q D))
split_easy allows D d (upto false p) (upto true q) ok h f = at_once allows D d (upto false p) (upto true q) ok (d -ℤ (q *ℤ pos D)) (q *ℤ pos D) (omega (arith, ints)) (omega (arith, ints, times_plus p q D)) (omega (arith, ints))
split_easy allows D d (upto false p) (upto false q) ok h f = f p q refl refl

pub cycle_splits : (D : ℕ) (d : ℤ) (a b : UpperBound) → cycle_allows D ≡ true → cycle_normal a ≡ a → cycle_normal b ≡ b → Meets D d (plus a b) → Split cycle_allows D d a b
unfolding cycle_normal
cycle_splits D d a b ok s t h = split_easy cycle_allows D d a b ok h
    (λ p q e f. let u : cycle_normal (upto false p) ≡ upto false p = subst (λ l. cycle_normal l ≡ l) e s in
    let z : ◌≡◌ {A = ℕ} 0 1 = cc in absurd (omega arith))

-- ---- hand time
twice : (n D : ℕ) → n * (2 * D) ≡ 2 * (n * D)
twice n D = sym (mul_assoc n 2 D) ∙ ap (λ k. k * D) (mul_comm n 2) ∙ mul_assoc 2 n D

two_strict : (D : ℕ) (d p q : ℤ) → 1 ≤ D → Meets D d (plus (upto false p) (upto false q)) → Split hand_allows D d (upto false p) (upto false q)
unfolding Meets plus
two_strict D d p q pos-D h = record {
  m = 2;
  x = (p *ℤ pos (2 * D)) -ℤ pos 1;
  y = (d *ℤ pos 2) -ℤ ((p *ℤ pos (2 * D)) -ℤ pos 1);
  some = omega arith;
  allowed = le-leb 1 (2 * D) (omega arith);
  sum = omega (arith, ints);
  first = omega (arith, ints);
  second = omega (arith, ints, times_plus p q D, times_is p D, times_is q D, times_is p (2 * D), times_is q (2 * D), twice (up p) D, twice (down p) D, twice (up q) D, twice (down q) D);
}

pub hand_splits : (D : ℕ) (d : ℤ) (a b : UpperBound) → hand_allows D ≡ true → Meets D d (plus a b) → Split hand_allows D d a b
hand_splits D d a b ok h = split_easy hand_allows D d a b ok h
    (λ p q e f.
    let g : Meets D d (plus (upto false p) (upto false q)) = subst (λ l. Meets D d (plus l (upto false q))) e (subst (λ l. Meets D d (plus a l)) f h) in
    subst (λ l. Split hand_allows D d l b) (sym e) (subst (λ l. Split hand_allows D d (upto false p) l) (sym f) (two_strict D d p q (leb-true 1 D ok) g)))

pub cycle_lawful : Lawful cycle_allows cycle_normal
unfolding cycle_normal
cycle_lawful = record {
  one = refl;
  same = λ D l p. cycle_same D l;
  zero = refl;
  sums = cycle_sums;
  splits = λ D d a b p. cycle_splits D d a b;
}

pub hand_lawful : Lawful hand_allows hand_normal
hand_lawful = record {
  one = refl;
  same = λ D l p ok d. (λ h. h, λ h. h);
  zero = refl;
  sums = λ a b. refl;
  splits = λ D d a b p ok s t h. hand_splits D d a b ok h;
}

pub plan_lawful : (k : PlanTime) → Lawful (plan_allows k) (plan_normal k)
plan_lawful Cycle = cycle_lawful
plan_lawful Hand = hand_lawful
