-- A zone with some clocks let go is canonical, and exact
use Rattle.std.proofs.Common.{◌≡◌, ℕ, ◌<◌, ◌≤◌, Bool, true, false, ℤ, pos, ◌-ℤ◌, ◌≤ℤ◌, sym, refl, ap, ◌∙◌, subst, ⊎_elim, arith}
use borrow.Author.Differences.{ints}
use Rattle.std.proofs.lemmas.Bool.{cases_eq, cases_Bool, cond-true, cond-false, eq-eqb, ne_eqb}
use Rattle.bounds.specs.Bounds.{UpperBound, none, upto, plus, level, Meets, Tight}
use Rattle.zones.specs.Matrices.{Canon, Holds, zeroed, free_at}
use Rattle.bounds.specs.Laws.{plus_comm, plus_level, tight_refl, tight_trans, tight_plus, times_is, meets_looser}

lower : (D : ℕ) (d e : ℤ) (l : UpperBound) → e ≤ℤ d → Meets D d l → Meets D e l
unfolding Meets
lower D d e none h m = tt
lower D d e (upto true c) h m = omega (arith, ints)
lower D d e (upto false c) h m = omega (arith, ints)

none_met : (D : ℕ) (d : ℤ) → Meets D d none
unfolding Meets
none_met D d = tt

none_last : (l : UpperBound) → Tight l none
unfolding Tight
none_last none = tt
none_last (upto s a) = tt

plus_none : (l : UpperBound) → plus l none ≡ none
unfolding plus
plus_none none = refl
plus_none (upto s a) = refl

none_plus : (l : UpperBound) → plus none l ≡ none
unfolding plus
none_plus l = refl

zero_level : (D : ℕ) (d : ℤ) → d ≡ pos 0 → Meets D d level
unfolding Meets
zero_level D d e = omega (arith, ints, times_is (pos 0) D)

plus_level_right : (a : UpperBound) → plus a level ≡ a
plus_level_right a = plus_comm a level ∙ plus_level a

module _ (r : ℕ → Bool) (r0 : r 0 ≡ false) (Z : ℕ → ℕ → UpperBound) (can : Canon Z) (at_zero : (j : ℕ) → j < 9 → r j ≡ true → Tight (Z j 0) level) where
  -- the three cases of a bound
  same : (i j : ℕ) → i ≡ j → free_at r Z i j ≡ level
  same i j e = cond-true _ _ _ (eq-eqb i j e)

  gone : (i j : ℕ) → (i ≡ j → ⊥) → r i ≡ true → free_at r Z i j ≡ none
  gone i j n e = cond-false _ _ _ (ne_eqb i j n) ∙ cond-true _ _ _ e

  kept : (i j : ℕ) → (i ≡ j → ⊥) → r i ≡ false → free_at r Z i j ≡ Z i (zeroed r j)
  kept i j n e = cond-false _ _ _ (ne_eqb i j n) ∙ cond-false _ _ _ e

  zeroed_in : (j : ℕ) → r j ≡ true → zeroed r j ≡ 0
  zeroed_in j e = cond-true _ _ _ e

  zeroed_out : (j : ℕ) → r j ≡ false → zeroed r j ≡ j
  zeroed_out j e = cond-false _ _ _ e

  zeroed_9 : (j : ℕ) → j < 9 → zeroed r j < 9
  zeroed_9 j h = ⊎_elim {C = zeroed r j < 9} (λ e. omega (arith, zeroed_in j e)) (λ e. omega (arith, zeroed_out j e)) (cases_Bool (r j))

  stays_out : (j : ℕ) → r (zeroed r j) ≡ false
  stays_out j = ⊎_elim {C = r (zeroed r j) ≡ false} (λ e. ap r (zeroed_in j e) ∙ r0) (λ e. ap r (zeroed_out j e) ∙ e) (cases_Bool (r j))

  no_looser_right : (i j : ℕ) → i < 9 → j < 9 → Tight (Z i (zeroed r j)) (Z i j)
  no_looser_right i j hi hj = ⊎_elim {C = Tight (Z i (zeroed r j)) (Z i j)}
      (λ e. subst (λ t. Tight (Z i t) (Z i j)) (sym (zeroed_in j e))
      (tight_trans _ _ _ (can.around i 0 j hi (omega arith) hj) (subst (Tight (plus (Z i j) (Z j 0))) (plus_level_right (Z i j)) (tight_plus _ _ _ _ (tight_refl (Z i j)) (at_zero j hj e)))))
      (λ e. subst (λ t. Tight (Z i t) (Z i j)) (sym (zeroed_out j e)) (tight_refl (Z i j)))
      (cases_Bool (r j))

  no_looser_left : (i j : ℕ) → i < 9 → j < 9 → Tight (Z (zeroed r i) j) (Z i j)
  no_looser_left i j hi hj = ⊎_elim {C = Tight (Z (zeroed r i) j) (Z i j)}
      (λ e. subst (λ t. Tight (Z t j) (Z i j)) (sym (zeroed_in i e))
      (tight_trans _ _ _ (can.around 0 j i (omega arith) hj hi) (subst (Tight (plus (Z 0 i) (Z i j))) (plus_level (Z i j)) (tight_plus _ _ _ _ (can.front i hi) (tight_refl (Z i j))))))
      (λ e. subst (λ t. Tight (Z t j) (Z i j)) (sym (zeroed_out i e)) (tight_refl (Z i j)))
      (cases_Bool (r i))

  free_around : (i j k : ℕ) → i < 9 → j < 9 → k < 9 → Tight (free_at r Z i j) (plus (free_at r Z i k) (free_at r Z k j))
  free_around i j k hi hj hk = ⊎_elim {C = Goal}
      (λ ik. subst (Tight (free_at r Z i j)) (sym (ap (λ l. plus l (free_at r Z k j)) (same i k ik) ∙ plus_level (free_at r Z k j) ∙ ap (λ t. free_at r Z t j) (sym ik))) (tight_refl _))
      (λ ik. ⊎_elim {C = Goal}
      (λ kj. subst (Tight (free_at r Z i j)) (sym (ap (plus (free_at r Z i k)) (same k j kj) ∙ plus_level_right (free_at r Z i k) ∙ ap (free_at r Z i) kj)) (tight_refl _))
      (λ kj. ⊎_elim {C = Goal}
      (λ e. subst (Tight (free_at r Z i j)) (sym (ap (λ l. plus l (free_at r Z k j)) (gone i k ik e) ∙ none_plus (free_at r Z k j))) (none_last _))
      (λ e. ⊎_elim {C = Goal}
      (λ f. subst (Tight (free_at r Z i j)) (sym (ap (plus (free_at r Z i k)) (gone k j kj f) ∙ plus_none (free_at r Z i k))) (none_last _))
      (λ f. subst (Tight (free_at r Z i j)) (sym (ap (λ l. plus l (free_at r Z k j)) (kept i k ik e ∙ ap (Z i) (zeroed_out k f)) ∙ ap (plus (Z i k)) (kept k j kj f)))
      (⊎_elim {C = Tight (free_at r Z i j) (plus (Z i k) (Z k (zeroed r j)))}
      (λ ij. subst (λ t. Tight t (plus (Z i k) (Z k (zeroed r j)))) (can.diagonal i hi ∙ sym (same i j ij))
      (subst (λ t. Tight (Z i i) (plus (Z i k) (Z k t))) (ij ∙ sym (zeroed_out j (ap r (sym ij) ∙ e))) (can.around i i k hi hi hk)))
      (λ ij. subst (λ t. Tight t (plus (Z i k) (Z k (zeroed r j)))) (sym (kept i j ij e)) (can.around i (zeroed r j) k hi (zeroed_9 j hj) hk))
      (cases_eq i j)))
      (cases_Bool (r k)))
      (cases_Bool (r i)))
      (cases_eq k j))
      (cases_eq i k)
    where
      Goal : Type 0
      Goal = Tight (free_at r Z i j) (plus (free_at r Z i k) (free_at r Z k j))

  pub free_canon : Canon (free_at r Z)
  free_canon = record {
    diagonal = λ i h. same i i refl;
    front = λ j h. ⊎_elim {C = Tight (free_at r Z 0 j) level}
        (λ e. subst (λ t. Tight t level) (sym (same 0 j e)) (tight_refl level))
        (λ e. subst (λ t. Tight t level) (sym (kept 0 j e r0)) (can.front (zeroed r j) (zeroed_9 j h)))
        (cases_eq 0 j);
    around = free_around;
  }

  module _ (D : ℕ) (big : 1 ≤ D) (v : ℕ → ℤ) (z : v 0 ≡ pos 0) (n : (k : ℕ) → k < 9 → pos 0 ≤ℤ v k) where
    drops : (j : ℕ) → j < 9 → v (zeroed r j) ≤ℤ v j
    drops j h = ⊎_elim {C = v (zeroed r j) ≤ℤ v j}
        (λ e. let f : v (zeroed r j) ≡ pos 0 = ap v (zeroed_in j e) ∙ z in omega (arith, ints, n j h))
        (λ e. let f : v (zeroed r j) ≡ v j = ap v (zeroed_out j e) in omega (arith, ints))
        (cases_Bool (r j))

    pub free_in : Holds Z D (λ k. v (zeroed r k)) → Holds (free_at r Z) D v
    free_in h i j hi hj = ⊎_elim {C = Meets D (v i -ℤ v j) (free_at r Z i j)}
        (λ e. let f : v i ≡ v j = ap v e in subst (Meets D (v i -ℤ v j)) (sym (same i j e)) (zero_level D _ (omega (arith, ints))))
        (λ e. ⊎_elim {C = Meets D (v i -ℤ v j) (free_at r Z i j)}
        (λ f. subst (Meets D (v i -ℤ v j)) (sym (gone i j e f)) (none_met D _))
        (λ f. subst (Meets D (v i -ℤ v j)) (sym (kept i j e f))
        (let a : v (zeroed r i) ≡ v i = ap v (zeroed_out i f) in
        let b : v (zeroed r (zeroed r j)) ≡ v (zeroed r j) = ap v (zeroed_out (zeroed r j) (stays_out j)) in
        lower D (v (zeroed r i) -ℤ v (zeroed r (zeroed r j))) (v i -ℤ v j) _ (omega (arith, ints, drops j hj)) (h i (zeroed r j) hi (zeroed_9 j hj))))
        (cases_Bool (r i)))
        (cases_eq i j)

    pub free_out : Holds (free_at r Z) D v → Holds Z D (λ k. v (zeroed r k))
    free_out h i j hi hj =
        let t : Tight (Z (zeroed r i) (zeroed r j)) (Z i j) = tight_trans _ _ _ (no_looser_right (zeroed r i) j (zeroed_9 i hi) hj) (no_looser_left i j hi hj) in
        meets_looser D big _ _ _ t (⊎_elim {C = Meets D (v (zeroed r i) -ℤ v (zeroed r j)) (Z (zeroed r i) (zeroed r j))}
        (λ e. let f : v (zeroed r i) ≡ v (zeroed r j) = ap v e in
        subst (Meets D _) (sym (ap (Z (zeroed r i)) (sym e) ∙ can.diagonal (zeroed r i) (zeroed_9 i hi))) (zero_level D _ (omega (arith, ints))))
        (λ e. subst (Meets D _) (kept (zeroed r i) (zeroed r j) e (stays_out i) ∙ ap (Z (zeroed r i)) (zeroed_out (zeroed r j) (stays_out j))) (h (zeroed r i) (zeroed r j) (zeroed_9 i hi) (zeroed_9 j hj)))
        (cases_eq (zeroed r i) (zeroed r j)))
