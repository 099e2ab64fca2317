-- The list of the clocks that are reset
use Rattle.std.proofs.Common.{◌≡◌, ℕ, zero, suc, ◌+◌, ◌<◌, Bool, true, false, cond, ◌&&◌, ◌||◌, eqb, List, length, get_or, sym, refl, ap, ◌∙◌, subst, ⊎_elim, arith}
use Rattle.std.proofs.lemmas.Bool.{cond-true, cond-false, cond_both, cases_Bool, cases_eq, eq-eqb, ne_eqb, lt-ltb, or_left, or_right, or_from, both_ways}
use Rattle.zones.specs.Resets.{among, reset}
use Rattle.rounds.specs.Rounds.{resets_of}
use Rattle.starts.specs.Told.{Lists}

has : (cs : List ℕ) (n i k : ℕ) → k < n → get_or cs k 0 ≡ i → among cs n i ≡ true
unfolding among
has cs zero i k h e = absurd (omega arith)
has cs (suc n) i k h e = ⊎_elim {C = (among cs n i || eqb (get_or cs n 0) i) ≡ true}
    (λ q. or_right (among cs n i) (eqb (get_or cs n 0) i) (eq-eqb (get_or cs n 0) i (ap (λ m. get_or cs m 0) (sym q) ∙ e)))
    (λ q. or_left (among cs n i) (eqb (get_or cs n 0) i) (has cs n i k (omega arith) e))
    (cases_eq k n)

lacks : (cs : List ℕ) (n i : ℕ) → ((k : ℕ) → k < n → get_or cs k 0 ≡ i → ⊥) → among cs n i ≡ false
unfolding among
lacks cs zero i f = refl
lacks cs (suc n) i f = or_from (among cs n i) (eqb (get_or cs n 0) i) (lacks cs n i (λ k h. f k (omega arith))) (ne_eqb (get_or cs n 0) i (f n (omega arith)))

module _ (rs : List Bool) (cs : List ℕ) (many : length cs ≡ 8) (is : (i : ℕ) → i < 8 → get_or cs i 0 ≡ cond (get_or rs i false) (i + 1) 0) where
  known : (k : ℕ) → k < length cs → get_or cs k 0 < 9
  known k h = subst (λ n. n < 9) (sym (is k (omega arith))) (cond_both (get_or rs k false) (k + 1) 0 (λ n. n < 9) (λ _. omega arith) (λ _. omega arith))

  other : (m k : ℕ) → k < 8 → get_or rs m false ≡ false → get_or cs k 0 ≡ suc m → ⊥
  other m k h off e = ⊎_elim {C = ⊥}
      (λ on. let q : k + 1 ≡ suc m = sym (is k h ∙ cond-true (get_or rs k false) (k + 1) 0 on) ∙ e in
      both_ways (get_or rs k false) (ap (λ i. get_or rs i false) (omega arith) ∙ off) on)
      (λ out. let q : 0 ≡ suc m = sym (is k h ∙ cond-false (get_or rs k false) (k + 1) 0 out) ∙ e in omega arith)
      (cases_Bool (get_or rs k false))

  same : (i : ℕ) → i < 9 → resets_of rs i ≡ reset cs i
  unfolding reset
  same zero h = refl
  same (suc m) h = (⊎_elim {C = get_or rs m false ≡ among cs (length cs) (suc m)}
      (λ on. on ∙ sym (has cs (length cs) (suc m) m (omega arith) (is m (omega arith) ∙ cond-true (get_or rs m false) (m + 1) 0 on ∙ omega arith)))
      (λ off. off ∙ sym (lacks cs (length cs) (suc m) (λ k l. other m k (omega arith) off)))
      (cases_Bool (get_or rs m false)))
      ∙ sym (ap (λ b. b && among cs (length cs) (suc m)) (lt-ltb 0 (suc m) (omega arith)))

  pub listed : Lists rs cs
  listed = record { known = known; same = same }
