-- A zone taken back is canonical, and exact
use Rattle.std.proofs.Common.{◌≡◌, ℕ, zero, suc, ◌*◌, ◌<◌, ◌≤◌, Bool, true, false, ℤ, pos, ◌+ℤ◌, ◌-ℤ◌, ◌*ℤ◌, neg_ℤ, ◌≤ℤ◌, sym, ap, ◌∙◌, subst, ⊎_elim, arith}
use borrow.Author.Differences.{ints}
use Rattle.std.proofs.lemmas.Int.{by_lt_z}
use Rattle.std.proofs.lemmas.Bool.{cases_eq}
use Rattle.bounds.specs.Bounds.{UpperBound, none, upto, plus, level, Meets, Tight}
use Rattle.zones.specs.Matrices.{tighter, Canon, Holds, front_of, back_at, later}
use Rattle.bounds.specs.Laws.{plus_comm, plus_level, tight_refl, tight_trans, tight_same, tight_plus, times_is, times_le, times_plus, meets_looser, meets_plus}
use Rattle.zones.proofs.Helly.{between, neg_times, times_times, meets_scaled}
use Rattle.zones.proofs.Canon.{tighter_left, tighter_right, tighter_one}
use Rattle.bounds.proofs.ScaleLaws.{ScaleLaws}

front_level : (Z : ℕ → ℕ → UpperBound) (n j : ℕ) → Tight (front_of Z n j) level
front_level Z zero j = tight_refl level
front_level Z (suc n) j = tight_trans _ _ _ (tighter_left (front_of Z n j) (Z (suc n) j)) (front_level Z n j)

front_below : (Z : ℕ → ℕ → UpperBound) (n j k : ℕ) → 1 ≤ k → k ≤ n → Tight (front_of Z n j) (Z k j)
front_below Z zero j k h l = absurd (omega arith)
front_below Z (suc n) j k h l = ⊎_elim {C = Tight (tighter (front_of Z n j) (Z (suc n) j)) (Z k j)}
    (λ e. subst (λ t. Tight (tighter (front_of Z n j) (Z (suc n) j)) (Z t j)) (sym e) (tighter_right _ _))
    (λ e. tight_trans _ _ _ (tighter_left (front_of Z n j) (Z (suc n) j)) (front_below Z n j k h (omega arith)))
    (cases_eq k (suc n))

pub front_one : (P : UpperBound → Type 0) (Z : ℕ → ℕ → UpperBound) (n j : ℕ) → P level → ((k : ℕ) → 1 ≤ k → k ≤ n → P (Z k j)) → P (front_of Z n j)
front_one P Z zero j h f = h
front_one P Z (suc n) j h f = tighter_one P (front_of Z n j) (Z (suc n) j) (front_one P Z n j h (λ k a b. f k a (omega arith))) (f (suc n) (omega arith) (omega arith))

plus_level_right : (a : UpperBound) → plus a level ≡ a
plus_level_right a = plus_comm a level ∙ plus_level a

-- a state written at its own scale again
unscaled : (m D : ℕ) → 1 ≤ m → (x y : ℤ) (b : UpperBound) → Meets (m * D) ((x *ℤ pos m) -ℤ (y *ℤ pos m)) b → Meets D (x -ℤ y) b
unfolding Meets
unscaled m D big x y none h = tt
unscaled m D big x y (upto true c) h = by_lt_z (c *ℤ pos D) (x -ℤ y)
    (λ l. let g : ((c *ℤ pos D) +ℤ pos 1) ≤ℤ (x -ℤ y) = omega (arith, ints) in
    absurd (omega (arith, ints, neg_times y m, times_plus x (neg_ℤ y) m, times_plus (c *ℤ pos D) (pos 1) m, times_is (pos 1) m, times_times c D m, times_le ((c *ℤ pos D) +ℤ pos 1) (x -ℤ y) m g)))
    (λ l. l)
unscaled m D big x y (upto false c) h = by_lt_z (x -ℤ y) (c *ℤ pos D) (λ l. l)
    (λ l. absurd (omega (arith, ints, neg_times y m, times_plus x (neg_ℤ y) m, times_times c D m, times_le (c *ℤ pos D) (x -ℤ y) m l)))

zero_level : (D : ℕ) (d : ℤ) → d ≤ℤ pos 0 → Meets D d level
unfolding Meets
zero_level D d e = omega (arith, ints, times_is (pos 0) D)

level_zero : (D : ℕ) (d : ℤ) → Meets D d level → d ≤ℤ pos 0
unfolding Meets
level_zero D d e = omega (arith, ints, times_is (pos 0) D)

zero_times : (z : ℤ) (m : ℕ) → z ≡ pos 0 → z *ℤ pos m ≡ pos 0
zero_times z m e = ap (λ t. t *ℤ pos m) e ∙ omega (arith, ints, times_is (pos 0) m)

module _ (Z : ℕ → ℕ → UpperBound) (can : Canon Z) where
  -- clock 0 is never later than another
  no_later : (i k : ℕ) → i < 9 → k < 9 → Tight (Z i k) (Z i 0)
  no_later i k hi hk = tight_trans _ _ _ (can.around i k 0 hi hk (omega arith))
      (subst (Tight (plus (Z i 0) (Z 0 k))) (plus_level_right (Z i 0)) (tight_plus _ _ _ _ (tight_refl (Z i 0)) (can.front k hk)))

  front_zero : front_of Z 8 0 ≡ level
  front_zero = tight_same _ _ (front_level Z 8 0)
      (front_one (Tight level) Z 8 0 (tight_refl level) (λ k h l. let b : k < 9 = omega arith in subst (λ t. Tight t (Z k 0)) (can.diagonal k b) (no_later k k b b)))

  back_around : (i j k : ℕ) → i < 9 → j < 9 → k < 9 → Tight (back_at Z i j) (plus (back_at Z i k) (back_at Z k j))
  back_around (suc i) j (suc k) hi hj hk = can.around (suc i) j (suc k) hi hj hk
  back_around (suc i) j zero hi hj hk = front_one (λ l. Tight (Z (suc i) j) (plus (Z (suc i) 0) l)) Z 8 j
      (subst (Tight (Z (suc i) j)) (sym (plus_level_right (Z (suc i) 0))) (no_later (suc i) j hi hj))
      (λ k h l. let b : k < 9 = omega arith in tight_trans _ _ _ (can.around (suc i) j k hi hj b) (tight_plus _ _ _ _ (no_later (suc i) k hi b) (tight_refl (Z k j))))
  back_around zero j zero hi hj hk = subst (Tight (front_of Z 8 j)) (sym (ap (λ l. plus l (front_of Z 8 j)) front_zero ∙ plus_level (front_of Z 8 j))) (tight_refl (front_of Z 8 j))
  back_around zero j (suc k) hi hj hk = front_one (λ l. Tight (front_of Z 8 j) (plus l (Z (suc k) j))) Z 8 (suc k)
      (subst (Tight (front_of Z 8 j)) (sym (plus_level (Z (suc k) j))) (front_below Z 8 j (suc k) (omega arith) (omega arith)))
      (λ m h l. tight_trans _ _ _ (front_below Z 8 j m h l) (can.around m j (suc k) (omega arith) hj hk))

  back_diagonal : (i : ℕ) → i < 9 → back_at Z i i ≡ level
  back_diagonal zero h = front_zero
  back_diagonal (suc i) h = can.diagonal (suc i) h

  pub back_canon : Canon (back_at Z)
  back_canon = record { diagonal = back_diagonal; front = λ j h. front_level Z 8 j; around = back_around }

  -- from a state that a wait leads into the zone
  pub back_in : (D m : ℕ) → 1 ≤ D → 1 ≤ m → (v : ℕ → ℤ) (w : ℤ) → pos 0 ≤ℤ w → v 0 ≡ pos 0 → ((k : ℕ) → k < 9 → pos 0 ≤ℤ v k) → Holds Z (m * D) (later m w v) → Holds (back_at Z) D v
  back_in D m big some v w late z n h = go
    where
      row : (i j : ℕ) → suc i < 9 → j < 9 → Meets D (v (suc i) -ℤ v j) (Z (suc i) j)
      row i zero hi hj =
          let e : (((v (suc i) *ℤ pos m) +ℤ w) -ℤ pos 0) +ℤ neg_ℤ w ≡ (v (suc i) *ℤ pos m) -ℤ (v 0 *ℤ pos m) = omega (arith, ints, zero_times (v 0) m z) in
          let f : neg_ℤ w ≤ℤ pos 0 = omega (arith, ints) in
          let b : Meets (m * D) ((v (suc i) *ℤ pos m) -ℤ (v 0 *ℤ pos m)) (Z (suc i) 0) =
          subst (Meets (m * D) _) (plus_level_right (Z (suc i) 0)) (subst (λ d. Meets (m * D) d (plus (Z (suc i) 0) level)) e (meets_plus (m * D) _ _ (Z (suc i) 0) level (h (suc i) 0 hi hj) (zero_level (m * D) (neg_ℤ w) f))) in
          unscaled m D some (v (suc i)) (v 0) (Z (suc i) 0) b
      row i (suc j) hi hj = unscaled m D some (v (suc i)) (v (suc j)) (Z (suc i) (suc j))
          (let e : ((v (suc i) *ℤ pos m) +ℤ w) -ℤ ((v (suc j) *ℤ pos m) +ℤ w) ≡ (v (suc i) *ℤ pos m) -ℤ (v (suc j) *ℤ pos m) = omega (arith, ints) in
          subst (λ d. Meets (m * D) d (Z (suc i) (suc j))) e (h (suc i) (suc j) hi hj))

      go : (i j : ℕ) → i < 9 → j < 9 → Meets D (v i -ℤ v j) (back_at Z i j)
      go (suc i) j hi hj = row i j hi hj
      go zero j hi hj = front_one (Meets D (v 0 -ℤ v j)) Z 8 j
          (zero_level D _ (omega (arith, ints, n j hj)))
          (λ k a b. front_step k j a b hj)
        where
          front_step : (k j : ℕ) → 1 ≤ k → k ≤ 8 → j < 9 → Meets D (v 0 -ℤ v j) (Z k j)
          front_step zero j a b hj = absurd (omega arith)
          front_step (suc k) j a b hj =
              let e : (v 0 -ℤ v (suc k)) +ℤ (v (suc k) -ℤ v j) ≡ v 0 -ℤ v j = omega (arith, ints) in
              let f : (v 0 -ℤ v (suc k)) ≤ℤ pos 0 = omega (arith, ints, n (suc k) (omega arith)) in
              subst (Meets D (v 0 -ℤ v j)) (plus_level (Z (suc k) j))
              (subst (λ d. Meets D d (plus level (Z (suc k) j))) e (meets_plus D _ _ level (Z (suc k) j) (zero_level D _ f) (row k j (omega arith) hj)))

  module _ {allows : ℕ → Bool} {normal : UpperBound → UpperBound} (K : ScaleLaws allows normal) (keeps : (a b : ℕ) → a < 9 → b < 9 → normal (Z a b) ≡ Z a b) where
    -- some wait leads into the zone
    pub back_out : (D : ℕ) (v : ℕ → ℤ) → allows D ≡ true → v 0 ≡ pos 0 → Holds (back_at Z) D v
        → (m : ℕ) × ((w : ℤ) × ((1 ≤ m) × (allows (m * D) ≡ true) × (pos 0 ≤ℤ w) × Holds Z (m * D) (later m w v)))
    back_out D v al z h =
        let b = between allows D 7 (λ i. v (suc i)) (λ i. Z (suc i) 0) 8 v (Z 0)
        (λ i j hi hj. let p : suc i < 9 = omega arith in let q : j < 9 = omega arith in
        K.splits D (v (suc i) -ℤ v j) (Z (suc i) 0) (Z 0 j) al (keeps (suc i) 0 p (omega arith)) (keeps 0 j (omega arith) q)
        (meets_looser D (K.positive D al) _ _ _ (can.around (suc i) j 0 p q (omega arith)) (h (suc i) j p q))) in
        (b.m, (neg_ℤ b.x, (b.some, b.allowed, early b.m b.x D (b.under 0 (omega arith)), stays b.m b.x b.some (λ i p. b.above i p) (λ j p. b.under j p))))
      where
        early : (m : ℕ) (x : ℤ) (D : ℕ) → Meets (m * D) (x -ℤ (v 0 *ℤ pos m)) (Z 0 0) → pos 0 ≤ℤ neg_ℤ x
        early m x D g = below m x (m * D) (subst (Meets (m * D) (x -ℤ (v 0 *ℤ pos m))) (can.diagonal 0 (omega arith)) g)
          where
            below : (m : ℕ) (x : ℤ) (E : ℕ) → Meets E (x -ℤ (v 0 *ℤ pos m)) level → pos 0 ≤ℤ neg_ℤ x
            below m x E g = omega (arith, ints, level_zero E _ g, zero_times (v 0) m z)

        stays : (m : ℕ) (x : ℤ) → 1 ≤ m → ((i : ℕ) → i < 8 → Meets (m * D) ((v (suc i) *ℤ pos m) -ℤ x) (Z (suc i) 0)) → ((j : ℕ) → j < 9 → Meets (m * D) (x -ℤ (v j *ℤ pos m)) (Z 0 j)) → Holds Z (m * D) (later m (neg_ℤ x) v)
        stays m x big f g zero zero hi hj = subst (Meets (m * D) (pos 0 -ℤ pos 0)) (sym (can.diagonal 0 hi)) (zero_level (m * D) _ (omega (arith, ints)))
        stays m x big f g zero (suc j) hi hj =
            let e : x -ℤ (v (suc j) *ℤ pos m) ≡ pos 0 -ℤ ((v (suc j) *ℤ pos m) +ℤ neg_ℤ x) = omega (arith, ints) in
            subst (λ d. Meets (m * D) d (Z 0 (suc j))) e (g (suc j) hj)
        stays m x big f g (suc i) zero hi hj =
            let e : (v (suc i) *ℤ pos m) -ℤ x ≡ ((v (suc i) *ℤ pos m) +ℤ neg_ℤ x) -ℤ pos 0 = omega (arith, ints) in
            subst (λ d. Meets (m * D) d (Z (suc i) 0)) e (f i (omega arith))
        stays m x big f g (suc i) (suc j) hi hj =
            let e : (v (suc i) *ℤ pos m) -ℤ (v (suc j) *ℤ pos m) ≡ ((v (suc i) *ℤ pos m) +ℤ neg_ℤ x) -ℤ ((v (suc j) *ℤ pos m) +ℤ neg_ℤ x) = omega (arith, ints) in
            subst (λ d. Meets (m * D) d (Z (suc i) (suc j))) e (meets_scaled m D big (v (suc i)) (v (suc j)) (Z (suc i) (suc j)) (h (suc i) (suc j) hi hj))
