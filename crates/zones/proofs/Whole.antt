-- A canonical zone holds a state
use Rattle.std.proofs.Common.{◌≡◌, ℕ, zero, suc, ◌*◌, ◌<◌, ◌≤◌, Bool, true, cond, eqb, ltb, ℤ, pos, ◌-ℤ◌, ◌*ℤ◌, ◌≤ℤ◌, sym, refl, ap, ◌∙◌, subst, ⊎_elim, arith}
use borrow.Author.Differences.{ints}
use Rattle.std.proofs.lemmas.Bool.{cond-true, cond-false, cases_eq, eq-eqb, ne_eqb, lt-ltb, ltb-true}
use Rattle.bounds.specs.Bounds.{UpperBound, none, level, Meets}
use Rattle.zones.specs.Matrices.{Canon, Holds, Readings}
use Rattle.bounds.specs.Laws.{times_is, meets_looser}
use Rattle.zones.proofs.Helly.{Between, meets_scaled}
use Rattle.bounds.proofs.ScaleLaws.{ScaleLaws}
use Rattle.zones.proofs.Extend.{extend}

zero_level : (D : ℕ) (d : ℤ) → d ≡ pos 0 → Meets D d level
unfolding Meets
zero_level D d e = omega (arith, ints, times_is (pos 0) D)

pub record State (allows : ℕ → Bool) (Z : ℕ → ℕ → UpperBound) (n : ℕ) : Type 0 where
  pub D : ℕ
  pub v : ℕ → ℤ
  pub allowed : allows D ≡ true
  pub zero_0 : v 0 ≡ pos 0
  pub holds : (i j : ℕ) → i < 9 → j < 9 → ltb i (suc n) ≡ true → ltb j (suc n) ≡ true → Meets D (v i -ℤ v j) (Z i j)

module _ {allows : ℕ → Bool} {normal : UpperBound → UpperBound} (K : ScaleLaws allows normal) (Z : ℕ → ℕ → UpperBound) (can : Canon Z) (keeps : (a b : ℕ) → a < 9 → b < 9 → normal (Z a b) ≡ Z a b) where
  start : State allows Z 0
  start = record {
    D = 1;
    v = λ _. pos 0;
    allowed = K.one;
    zero_0 = refl;
    holds = λ i j hi hj p q.
        let ei : i ≡ 0 = omega (arith, ltb-true i 1 p) in
        let ej : j ≡ 0 = omega (arith, ltb-true j 1 q) in
        let e : Z i j ≡ level = ap (λ t. Z t j) ei ∙ ap (Z 0) ej ∙ can.diagonal 0 (omega arith) in
        subst (Meets 1 (pos 0 -ℤ pos 0)) (sym e) (zero_level 1 _ refl);
  }

  module _ (n : ℕ) (hn : suc n < 9) (s : State allows Z n) (b : Between allows s.D 8 s.v (λ i. cond (ltb i (suc n)) (Z i (suc n)) none) 8 s.v (λ j. cond (ltb j (suc n)) (Z (suc n) j) none)) where
    v' : ℕ → ℤ
    v' i = cond (eqb i (suc n)) b.x (s.v i *ℤ pos b.m)

    at_new : (i : ℕ) → i ≡ suc n → v' i ≡ b.x
    unfolding v'
    at_new i e = cond-true _ _ _ (eq-eqb i (suc n) e)

    at_old : (i : ℕ) → (i ≡ suc n → ⊥) → v' i ≡ s.v i *ℤ pos b.m
    unfolding v'
    at_old i e = cond-false _ _ _ (ne_eqb i (suc n) e)

    put : (i j : ℕ) (y z : ℤ) → v' i ≡ y → v' j ≡ z → Meets (b.m * s.D) (y -ℤ z) (Z i j) → Meets (b.m * s.D) (v' i -ℤ v' j) (Z i j)
    put i j y z e f h = subst (λ t. Meets (b.m * s.D) (t -ℤ v' j) (Z i j)) (sym e) (subst (λ t. Meets (b.m * s.D) (y -ℤ t) (Z i j)) (sym f) h)

    next_holds : (i j : ℕ) → i < 9 → j < 9 → i < suc (suc n) → j < suc (suc n) → Meets (b.m * s.D) (v' i -ℤ v' j) (Z i j)
    next_holds i j hi hj p q = ⊎_elim {C = Meets (b.m * s.D) (v' i -ℤ v' j) (Z i j)}
        (λ ei. ⊎_elim {C = Meets (b.m * s.D) (v' i -ℤ v' j) (Z i j)}
        (λ ej. put i j _ _ (at_new i ei) (at_new j ej) (subst (Meets _ _) (sym (ap (λ t. Z t j) (ei ∙ sym ej) ∙ can.diagonal j hj)) (zero_level _ _ (omega (arith, ints)))))
        (λ ej. let lj : j < suc n = omega arith in put i j _ _ (at_new i ei) (at_old j ej)
        (subst (Meets _ _) (cond-true _ _ _ (lt-ltb j (suc n) lj) ∙ ap (λ t. Z t j) (sym ei)) (b.under j hj)))
        (cases_eq j (suc n)))
        (λ ei. let li : i < suc n = omega arith in ⊎_elim {C = Meets (b.m * s.D) (v' i -ℤ v' j) (Z i j)}
        (λ ej. put i j _ _ (at_old i ei) (at_new j ej)
        (subst (Meets _ _) (cond-true _ _ _ (lt-ltb i (suc n) li) ∙ ap (Z i) (sym ej)) (b.above i hi)))
        (λ ej. let lj : j < suc n = omega arith in put i j _ _ (at_old i ei) (at_old j ej)
        (meets_scaled b.m s.D b.some (s.v i) (s.v j) (Z i j) (s.holds i j hi hj (lt-ltb i (suc n) li) (lt-ltb j (suc n) lj))))
        (cases_eq j (suc n)))
        (cases_eq i (suc n))

    next : State allows Z (suc n)
    next = record {
      D = b.m * s.D;
      v = v';
      allowed = b.allowed;
      zero_0 = at_old 0 (λ e. omega arith) ∙ ap (λ t. t *ℤ pos b.m) s.zero_0 ∙ omega (arith, ints, times_is (pos 0) b.m);
      holds = λ i j hi hj p q. next_holds i j hi hj (ltb-true i _ p) (ltb-true j _ q);
    }

  upto_clock : (n : ℕ) → n < 9 → State allows Z n
  upto_clock zero h = start
  upto_clock (suc n) h =
      let s = upto_clock n (omega arith) in
      next n h s (extend K Z can keeps (λ i. ltb i (suc n)) s.D s.v s.allowed s.holds (suc n) h)

  pub a_state : (D : ℕ) × ((v : ℕ → ℤ) × ((v 0 ≡ pos 0) × (allows D ≡ true) × Holds Z D v))
  a_state = let s = upto_clock 8 (omega arith) in
      (s.D, (s.v, (s.zero_0, s.allowed, λ i j hi hj. s.holds i j hi hj (lt-ltb i 9 hi) (lt-ltb j 9 hj))))

  -- no clock reads below 0
  pub no_less : (D : ℕ) (v : ℕ → ℤ) → 1 ≤ D → v 0 ≡ pos 0 → Holds Z D v → (k : ℕ) → k < 9 → pos 0 ≤ℤ v k
  unfolding Meets
  no_less D v big z h k hk = let m : Meets D (v 0 -ℤ v k) level = meets_looser D big _ _ _ (can.front k hk) (h 0 k (omega arith) hk) in
      omega (arith, ints, m, times_is (pos 0) D)

  pub a_reading : (D : ℕ) × ((v : ℕ → ℤ) × ((allows D ≡ true) × Readings v × Holds Z D v))
  a_reading = let s = a_state in
      (s.0, (s.1.0, (s.1.1.1, (s.1.1.0, no_less s.0 s.1.0 (K.positive s.0 s.1.1.1) s.1.1.0 s.1.1.2), s.1.1.2)))
