-- The zone of every state
use Rattle.zones.specs.declared.codes.Code.{Code}
use Rattle.std.proofs.Common.{◌≡◌, ℕ, ◌+◌, ◌*◌, ◌%◌, ◌<◌, ◌≤◌, ◌⊎◌, List, ℤ, pos, ◌-ℤ◌, ◌≤ℤ◌, sym, refl, ap, ◌∙◌, subst, inl, inr, ⊎_elim, arith}
use borrow.Author.Differences.{ints}
use Rattle.std.proofs.lemmas.Bool.Decides.{nat_tests}
use Rattle.std.proofs.lemmas.Bool.{cases_eq, eq-eqb, ne_eqb, cond-true, cond-false}
use Rattle.bounds.specs.Bounds.{UpperBound, none, upto, plus, level, Meets, Tight}
use Rattle.zones.specs.Matrices.{Holds, all_at}
use Rattle.zones.specs.Codes.{Near, Sound, decode, at, code_all, code_of}
use Rattle.bounds.specs.Laws.{tight_refl, plus_level, times_is}
use Rattle.zones.proofs.Decoding.{decode_below, decode_none}

-- (0, j) and (i, i) are `<= 0`, and the others none
all_cases : (i j : ℕ) → i < 9 → j < 9 → (((i ≡ 0) ⊎ (i ≡ j)) × (code_all (9 * i + j) ≡ 33554433)) ⊎ ((i ≡ 0 → ⊥) × (i ≡ j → ⊥) × (code_all (9 * i + j) ≡ 4294967295))
all_cases i j hi hj = ⊎_elim {C = (((i ≡ 0) ⊎ (i ≡ j)) × (code_all (9 * i + j) ≡ 33554433)) ⊎ ((i ≡ 0 → ⊥) × (i ≡ j → ⊥) × (code_all (9 * i + j) ≡ 4294967295))}
    (λ e. inl (inl e, grind (arith, nat_tests)))
    (λ n. ⊎_elim {C = (((i ≡ 0) ⊎ (i ≡ j)) × (code_all (9 * i + j) ≡ 33554433)) ⊎ ((i ≡ 0 → ⊥) × (i ≡ j → ⊥) × (code_all (9 * i + j) ≡ 4294967295))}
    (λ e. inl (inr e, grind (arith, nat_tests)))
    (λ m. inr (n, m, let h : (9 * i + j) % 10 ≡ 0 → ⊥ = λ z. omega arith in let k : 9 ≤ 9 * i + j = omega arith in grind (arith, nat_tests)))
    (cases_eq i j))
    (cases_eq i 0)

level_code : decode 33554433 ≡ level
level_code = decode_below 33554433 (omega arith)

none_code : decode 4294967295 ≡ none
none_code = decode_none 4294967295 (omega arith)

plus_none : (l : UpperBound) → plus l none ≡ none
unfolding plus
plus_none none = refl
plus_none (upto s a) = refl

none_plus : (l : UpperBound) → plus none l ≡ none
unfolding plus
none_plus l = refl

none_last : (l : UpperBound) → Tight l none
unfolding Tight
none_last none = tt
none_last (upto s a) = tt

zero_level : (D : ℕ) (d : ℤ) → d ≤ℤ pos 0 → Meets D d level
unfolding Meets
zero_level D d e = omega (arith, ints, times_is (pos 0) D)

none_met : (D : ℕ) (d : ℤ) → Meets D d none
unfolding Meets
none_met D d = tt

module _ (xs : List Code) (is : (p : ℕ) → p < 81 → code_of xs p ≡ code_all p) where
  at_all : (i j : ℕ) → i < 9 → j < 9 → (((i ≡ 0) ⊎ (i ≡ j)) × (at xs i j ≡ level)) ⊎ ((i ≡ 0 → ⊥) × (i ≡ j → ⊥) × (at xs i j ≡ none))
  at_all i j hi hj = ⊎_elim {C = (((i ≡ 0) ⊎ (i ≡ j)) × (at xs i j ≡ level)) ⊎ ((i ≡ 0 → ⊥) × (i ≡ j → ⊥) × (at xs i j ≡ none))}
      (λ e. inl (e.0, ap decode (is (9 * i + j) (omega arith) ∙ e.1) ∙ level_code))
      (λ e. inr (e.0, e.1, ap decode (is (9 * i + j) (omega arith) ∙ e.2) ∙ none_code))
      (all_cases i j hi hj)

  all_around : (i j k : ℕ) → i < 9 → j < 9 → k < 9 → Tight (at xs i j) (plus (at xs i k) (at xs k j))
  all_around i j k hi hj hk = ⊎_elim {C = Tight (at xs i j) (plus (at xs i k) (at xs k j))}
      (λ a. ⊎_elim {C = Tight (at xs i j) (plus (at xs i k) (at xs k j))}
      (λ b. ⊎_elim {C = Tight (at xs i j) (plus (at xs i k) (at xs k j))}
      (λ c. let e : plus (at xs i k) (at xs k j) ≡ level = ap (λ l. plus l (at xs k j)) a.1 ∙ plus_level (at xs k j) ∙ b.1 in
      subst (Tight (at xs i j)) (sym e) (subst (λ l. Tight l level) (sym c.1) (tight_refl level)))
      (λ c. absurd (⊎_elim {C = ⊥} c.0 (λ e. ⊎_elim {C = ⊥} (λ f. c.0 (e ∙ f)) (λ f. c.1 (e ∙ f)) b.0) a.0))
      (at_all i j hi hj))
      (λ b. subst (Tight (at xs i j)) (sym (ap (plus (at xs i k)) b.2 ∙ plus_none (at xs i k))) (none_last _))
      (at_all k j hk hj))
      (λ a. subst (Tight (at xs i j)) (sym (ap (λ l. plus l (at xs k j)) a.2 ∙ none_plus (at xs k j))) (none_last _))
      (at_all i k hi hk)

  code_near : (p : ℕ) → Near 4000000 (code_all p)
  code_near p = grind (arith, nat_tests)

  pub all_sound : Sound xs
  all_sound = record {
    near = λ p h. subst (Near 4000000) (sym (is p h)) (code_near p);
    canon = record {
      diagonal = λ i h. ⊎_elim {C = at xs i i ≡ level} (λ a. a.1) (λ a. absurd (a.1 refl)) (at_all i i h h);
      front = λ j h. ⊎_elim {C = Tight (at xs 0 j) level} (λ a. subst (λ l. Tight l level) (sym a.1) (tight_refl level)) (λ a. absurd (a.0 refl)) (at_all 0 j (omega arith) h);
      around = all_around;
    };
  }

  pub all_holds : (D : ℕ) (v : ℕ → ℤ) → v 0 ≡ pos 0 → ((k : ℕ) → k < 9 → pos 0 ≤ℤ v k) → Holds (at xs) D v
  all_holds D v z n i j hi hj = ⊎_elim {C = Meets D (v i -ℤ v j) (at xs i j)}
      (λ a. subst (Meets D (v i -ℤ v j)) (sym a.1) (zero_level D _ (⊎_elim {C = (v i -ℤ v j) ≤ℤ pos 0} (λ e. let f : v i ≡ pos 0 = ap v e ∙ z in omega (arith, ints, n j hj)) (λ e. let f : v i ≡ v j = ap v e in omega (arith, ints)) a.0)))
      (λ a. subst (Meets D (v i -ℤ v j)) (sym a.2) (none_met D _))
      (at_all i j hi hj)

  pub all_is : (i j : ℕ) → i < 9 → j < 9 → at xs i j ≡ all_at i j
  all_is i j hi hj = ⊎_elim {C = at xs i j ≡ all_at i j}
      (λ a. a.1 ∙ ⊎_elim {C = level ≡ all_at i j}
      (λ e. sym (cond-true _ _ _ (eq-eqb i 0 e)))
      (λ e. ⊎_elim {C = level ≡ all_at i j} (λ z. sym (cond-true _ _ _ (eq-eqb i 0 z))) (λ z. sym (cond-false _ _ _ (ne_eqb i 0 z) ∙ cond-true _ _ _ (eq-eqb i j e))) (cases_eq i 0))
      a.0)
      (λ a. a.2 ∙ sym (cond-false _ _ _ (ne_eqb i 0 a.0) ∙ cond-false _ _ _ (ne_eqb i j a.1)))
      (at_all i j hi hj)
