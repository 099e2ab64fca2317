-- A zone lies within another exactly if it is as tight at every (i, j)
use Rattle.std.proofs.Common.{◌≡◌, ℕ, ◌<◌, ◌≤◌, Bool, true, false, ℤ, pos, ◌+ℤ◌, ◌-ℤ◌, ◌*ℤ◌, neg_ℤ, refl, subst, arith}
use borrow.Author.Differences.{ints}
use Rattle.std.proofs.lemmas.Int.{by_lt_z}
use Rattle.bounds.specs.Bounds.{UpperBound, none, upto, plus, level, Meets, Tight}
use Rattle.zones.specs.Matrices.{Canon, Holds, cut_at}
use Rattle.bounds.specs.Laws.{meets_looser, meets_plus}
use Rattle.zones.proofs.Helly.{neg_times}
use Rattle.zones.proofs.Canon.{cut_canon, cut_back, zero_meets}
use Rattle.bounds.proofs.ScaleLaws.{ScaleLaws}
use Rattle.bounds.proofs.Apart.{apart, normal_twice}
use Rattle.zones.proofs.Extend.{normal_cut}
use Rattle.zones.proofs.Whole.{a_state}

pub within_in : (A B : ℕ → ℕ → UpperBound) → ((i j : ℕ) → i < 9 → j < 9 → Tight (A i j) (B i j)) → (D : ℕ) → 1 ≤ D → (v : ℕ → ℤ) → Holds A D v → Holds B D v
within_in A B t D big v h i j hi hj = meets_looser D big _ _ _ (t i j hi hj) (h i j hi hj)

-- what fails `<= c` or `< c`, the other way round
unfoldable neg : UpperBound → UpperBound
neg none = none
neg (upto true c) = upto false (neg_ℤ c)
neg (upto false c) = upto true (neg_ℤ c)

fails : (D : ℕ) (d : ℤ) (b : UpperBound) → (Meets D d b → ⊥) → Meets D (neg_ℤ d) (neg b)
unfolding Meets neg
fails D d none n = absurd (n tt)
fails D d (upto true c) n = by_lt_z (c *ℤ pos D) d (λ h. omega (arith, ints, neg_times c D)) (λ h. absurd (n h))
fails D d (upto false c) n = by_lt_z d (c *ℤ pos D) (λ h. absurd (n h)) (λ h. omega (arith, ints, neg_times c D))

met_fails : (D : ℕ) (d : ℤ) (b : UpperBound) → (b ≡ none → ⊥) → Meets D (neg_ℤ d) (neg b) → Meets D d b → ⊥
unfolding Meets neg
met_fails D d none n h k = n refl
met_fails D d (upto true c) n h k = omega (arith, ints, neg_times c D)
met_fails D d (upto false c) n h k = omega (arith, ints, neg_times c D)

module _ {allows : ℕ → Bool} {normal : UpperBound → UpperBound} (K : ScaleLaws allows normal) where
  module _ (A : ℕ → ℕ → UpperBound) (can : Canon A) (keeps : (a b : ℕ) → a < 9 → b < 9 → normal (A a b) ≡ A a b) where
    -- where b at (i, j) is tighter, some state of A fails it
    pub within_out : (i j : ℕ) → i < 9 → j < 9 → (b : UpperBound) → (b ≡ none → ⊥) → (Tight (A i j) b → ⊥)
        → (D : ℕ) × ((v : ℕ → ℤ) × ((v 0 ≡ pos 0) × (allows D ≡ true) × Holds A D v × (Meets D (v i -ℤ v j) b → ⊥)))
    within_out i j hi hj b some n =
        let p = apart K (A i j) b (keeps i j hi hj) n in
        let m = p.0 in
        let d = p.1.0 in
        let f = p.1.1 in
        let c = normal (neg b) in
        let back : Meets m (neg_ℤ d) c = (K.same m (neg b) f.1 (neg_ℤ d)).0 (fails m d b f.3) in
        let e : d +ℤ neg_ℤ d ≡ pos 0 = cancel d in
        let ok : Tight level (plus (A i j) c) = zero_meets m f.0 _ (subst (λ t. Meets m t (plus (A i j) c)) e (meets_plus m d (neg_ℤ d) (A i j) c f.2 back)) in
        let t = a_state K (cut_at A j i c) (cut_canon A can j i hj hi c ok) (normal_cut K A j i c hj hi (normal_twice K (neg b)) keeps) in
        let r = cut_back A can j i hj hi c t.0 (K.positive t.0 t.1.1.1) t.1.0 t.1.1.2 in
        let turn : t.1.0 j -ℤ t.1.0 i ≡ neg_ℤ (t.1.0 i -ℤ t.1.0 j) = flip (t.1.0 j) (t.1.0 i) in (
          t.0,
          (
            t.1.0,
            (
              t.1.1.0,
              t.1.1.1,
              r.0,
              met_fails t.0 _ b some (subst (λ u. Meets t.0 u (neg b)) turn ((K.same t.0 (neg b) t.1.1.1 _).1 r.1)),
            ),
          ),
        )
      where
        cancel : (d : ℤ) → d +ℤ neg_ℤ d ≡ pos 0
        cancel d = omega (arith, ints)

        flip : (x y : ℤ) → x -ℤ y ≡ neg_ℤ (y -ℤ x)
        flip x y = omega (arith, ints)
