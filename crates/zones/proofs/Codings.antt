-- The closed forms of `back` and of letting clocks go, in codes and in bounds
use Rattle.zones.specs.declared.codes.Code.{Code}
use Rattle.std.proofs.Common.{◌≡◌, ℕ, zero, suc, ◌+◌, ◌*◌, ◌/◌, ◌%◌, ◌<◌, ◌≤◌, min, Bool, true, false, cond, eqb, ltb, List, pos, ◌-ℤ◌, sym, refl, ap, ◌∙◌, subst, ⊎_elim, add-one, arith}
use borrow.Author.Differences.{ints}
use Rattle.std.proofs.lemmas.Bool.Decides.{nat_tests}
use Rattle.std.proofs.lemmas.Bool.{cases_lt, cases_eq, cases_Bool, lt-ltb, le-ltb, eq-eqb, ne_eqb, cond-true, cond-false}
use Rattle.bounds.specs.Bounds.{none, upto, level, Tight}
use Rattle.zones.specs.Matrices.{tighter, front_of, back_at, free_at}
use Rattle.zones.specs.Codes.{Near, decode, at, code_front, code_back, code_free, code_of}
use Rattle.zones.proofs.Decoding.{decode_below, decode_none, lim_min, bit_odd}

pub level_code : decode 33554433 ≡ level
level_code = decode_below 33554433 (omega arith)

pub none_code : decode 4294967295 ≡ none
none_code = decode_none 4294967295 (omega arith)

-- a tighter bound has the smaller code
pub code_le : (a b : ℕ) → a ≤ 4294967295 → Tight (decode a) (decode b) → a ≤ b
unfolding Tight
code_le a b h t = ⊎_elim {C = a ≤ b}
    (λ lt.
    let lb : b < 4294967295 = omega arith in
    let u = subst (Tight (decode a)) (decode_below b lb) t in
    ⊎_elim {C = a ≤ b}
    (λ la. let w = subst (λ l. Tight l (upto (eqb (b % 2) 1) (pos (b / 2) -ℤ pos 16777216))) (decode_below a la) u in
    omega (arith, ints, w, bit_odd (a % 2) (omega arith), bit_odd (b % 2) (omega arith)))
    (λ la. absurd (subst (λ l. Tight l (upto (eqb (b % 2) 1) (pos (b / 2) -ℤ pos 16777216))) (decode_none a la) u))
    (cases_lt a 4294967295))
    (λ le. le)
    (cases_lt b a)

-- ---- back
pub front_more : (xs : List Code) (k j best next : ℕ) → best ≡ code_front xs k j → next ≡ min best (code_of xs (9 * k + 9 + j)) → next ≡ code_front xs (k + 1) j
unfolding code_front
front_more xs k j best next e f =
    let i : 9 * k + 9 + j ≡ 9 * suc k + j = omega arith in
    f ∙ ap (λ b. min b (code_of xs (9 * k + 9 + j))) e ∙ ap (λ n. min (code_front xs k j) (code_of xs n)) i ∙ ap (λ n. code_front xs n j) (sym (add-one k))

front_lim : (xs : List Code) (n j : ℕ) → decode (code_front xs n j) ≡ front_of (at xs) n j
unfolding code_front
front_lim xs zero j = level_code
front_lim xs (suc n) j = lim_min (code_front xs n j) (code_of xs (9 * suc n + j)) ∙ ap (λ l. tighter l (at xs (suc n) j)) (front_lim xs n j)

pub back_first : (xs : List Code) (p : ℕ) → p < 9 → code_front xs 8 p ≡ code_back xs p
unfolding code_back
back_first xs p h = sym (cond-true (ltb p 9) _ _ (lt-ltb p 9 h))

pub back_other : (xs : List Code) (p : ℕ) → 9 ≤ p → code_of xs p ≡ code_back xs p
unfolding code_back
back_other xs p h = sym (cond-false (ltb p 9) _ _ (le-ltb p 9 h))

front_near : (xs : List Code) (n j : ℕ) → j < 9 → n ≤ 8 → ((p : ℕ) → p < 81 → Near 4000000 (code_of xs p)) → Near 4000000 (code_front xs n j)
unfolding code_front
front_near xs zero j hj hn h = (λ _. omega arith, omega arith)
front_near xs (suc n) j hj hn h = near_min _ _ (front_near xs n j hj (omega arith) h) (h (9 * suc n + j) (omega arith))
  where
    near_min : (a b : ℕ) → Near 4000000 a → Near 4000000 b → Near 4000000 (min a b)
    near_min a b p q = grind (arith, nat_tests)

pub back_near : (xs : List Code) (p : ℕ) → p < 81 → ((q : ℕ) → q < 81 → Near 4000000 (code_of xs q)) → Near 4000000 (code_back xs p)
back_near xs p hp h = ⊎_elim {C = Near 4000000 (code_back xs p)}
    (λ l. subst (Near 4000000) (back_first xs p l) (front_near xs 8 p l (omega arith) h))
    (λ l. subst (Near 4000000) (back_other xs p l) (h p hp))
    (cases_lt p 9)

pub back_bound : (xs : List Code) (a b : ℕ) → a < 9 → b < 9 → decode (code_back xs (9 * a + b)) ≡ back_at (at xs) a b
back_bound xs zero b ha hb =
    let e : 9 * 0 + b ≡ b = omega arith in
    ap (λ p. decode (code_back xs p)) e ∙ ap decode (sym (back_first xs b hb)) ∙ front_lim xs 8 b
back_bound xs (suc a) b ha hb = ap decode (sym (back_other xs (9 * suc a + b) (omega arith)))

-- ---- letting go
module _ (r : ℕ → Bool) (xs : List Code) where
  pub free_diagonal : (p : ℕ) → p / 9 ≡ p % 9 → 33554433 ≡ code_free r xs p
  unfolding code_free
  free_diagonal p e = sym (cond-true _ _ _ (eq-eqb (p / 9) (p % 9) e))

  pub free_gone : (p : ℕ) → (p / 9 ≡ p % 9 → ⊥) → r (p / 9) ≡ true → 4294967295 ≡ code_free r xs p
  unfolding code_free
  free_gone p n e = sym (cond-false _ _ _ (ne_eqb (p / 9) (p % 9) n) ∙ cond-true _ _ _ e)

  pub free_zero : (p : ℕ) → (p / 9 ≡ p % 9 → ⊥) → r (p / 9) ≡ false → r (p % 9) ≡ true → code_of xs (9 * (p / 9)) ≡ code_free r xs p
  unfolding code_free
  free_zero p n e f =
      let i : 9 * (p / 9) + 0 ≡ 9 * (p / 9) = omega arith in
      sym (cond-false _ _ _ (ne_eqb (p / 9) (p % 9) n) ∙ cond-false _ _ _ e ∙ ap (λ q. code_of xs (9 * (p / 9) + q)) (cond-true _ _ _ f) ∙ ap (λ q. code_of xs q) i)

  pub free_other : (p : ℕ) → (p / 9 ≡ p % 9 → ⊥) → r (p / 9) ≡ false → r (p % 9) ≡ false → code_of xs (9 * (p / 9) + p % 9) ≡ code_free r xs p
  unfolding code_free
  free_other p n e f = sym (cond-false _ _ _ (ne_eqb (p / 9) (p % 9) n) ∙ cond-false _ _ _ e ∙ ap (λ q. code_of xs (9 * (p / 9) + q)) (cond-false _ _ _ f))

  pub free_near : (p : ℕ) → p < 81 → ((q : ℕ) → q < 81 → Near 4000000 (code_of xs q)) → Near 4000000 (code_free r xs p)
  free_near p hp h = ⊎_elim {C = Near 4000000 (code_free r xs p)}
      (λ e. subst (Near 4000000) (free_diagonal p e) (λ _. omega arith, omega arith))
      (λ n. ⊎_elim {C = Near 4000000 (code_free r xs p)}
      (λ e. subst (Near 4000000) (free_gone p n e) (λ l. absurd (omega arith), omega arith))
      (λ e. ⊎_elim {C = Near 4000000 (code_free r xs p)}
      (λ f. subst (Near 4000000) (free_zero p n e f) (h _ (omega arith)))
      (λ f. subst (Near 4000000) (free_other p n e f) (h _ (omega arith)))
      (cases_Bool (r (p % 9))))
      (cases_Bool (r (p / 9))))
      (cases_eq (p / 9) (p % 9))

  pub free_bound : (a b : ℕ) → a < 9 → b < 9 → decode (code_free r xs (9 * a + b)) ≡ free_at r (at xs) a b
  unfolding code_free
  free_bound a b ha hb =
      let row : (9 * a + b) / 9 ≡ a = omega arith in
      let column : (9 * a + b) % 9 ≡ b = omega arith in
      ap (λ n. decode (cond (eqb n ((9 * a + b) % 9)) 33554433 (cond (r n) 4294967295 (code_of xs (9 * n + cond (r ((9 * a + b) % 9)) 0 ((9 * a + b) % 9)))))) row
      ∙ ap (λ n. decode (cond (eqb a n) 33554433 (cond (r a) 4294967295 (code_of xs (9 * a + cond (r n) 0 n))))) column
      ∙ into (eqb a b) (r a) (code_of xs (9 * a + cond (r b) 0 b))
    where
      into : (s t : Bool) (n : ℕ) → decode (cond s 33554433 (cond t 4294967295 n)) ≡ cond s level (cond t none (decode n))
      into true t n = level_code
      into false true n = none_code
      into false false n = refl
