-- Lists of 81 codes, and tests of all of them
use Rattle.std.proofs.Common.{◌≡◌, ℕ, zero, suc, ◌+◌, ◌*◌, ◌/◌, ◌%◌, ◌<◌, ◌≤◌, Bool, true, false, List, length, get_or, ℤ, pos, negsuc, ◌+ℤ◌, ◌≤ℤ◌, sym, refl, ap, ◌∙◌, subst, inl, inr, ⊎_elim, arith}
use borrow.Author.Differences.{ints}
use Rattle.std.proofs.lemmas.List.FromFn.{get_or-map-range_with_len, length-map-range_with_len, fill_by_all}
use Rattle.std.proofs.lemmas.Bool.Decides.{nat_tests}
use Rattle.std.proofs.lemmas.Int.{by_lt_z}
use Rattle.std.proofs.lemmas.Bool.{and_parts, and_from, and_cases, cases_eq}
use Rattle.bounds.specs.Bounds.{UpperBound, none, upto, Meets, Tight}
use Rattle.bounds.proofs.ScaleLaws.{ScaleLaws}
use Rattle.bounds.proofs.Apart.{normal_none}
use Rattle.zones.specs.declared.codes.Code.{Code}
use Rattle.zones.specs.Codes.{code_of, decode, at, Near, Sound}
use Rattle.zones.specs.Cuts.{Beyond, CodeOf}
use Rattle.zones.proofs.Decoding.{code_closed, code_open, decode_none}
use Rattle.zones.proofs.CutFacts.{close}
use Rattle.zones.proofs.Codings.{code_le}
use Rattle.rounds.specs.Codes.{every, codes_to, in_reach, half_code, coded, meets}
use Rattle.bounds.specs.Laws.{tight_refl}

pub every_at : (n : ℕ) (t : ℕ → Bool) → every n t ≡ true → (p : ℕ) → p < n → t p ≡ true
unfolding every
every_at zero t e p h = absurd (omega arith)
every_at (suc n) t e p h =
    let a = and_parts (every n t) (t n) e in
    ⊎_elim {C = t p ≡ true} (λ q. ap t q ∙ a.1) (λ q. every_at n t a.0 p (omega arith)) (cases_eq p n)

pub every_from : (n : ℕ) (t : ℕ → Bool) → ((p : ℕ) → p < n → t p ≡ true) → every n t ≡ true
unfolding every
every_from zero t f = refl
every_from (suc n) t f = and_from (every n t) (t n) (every_from n t (λ p h. f p (omega arith))) (f n (omega arith))

pub every_not : (n : ℕ) (t : ℕ → Bool) → every n t ≡ false → (p : ℕ) × (p < n) × (t p ≡ false)
unfolding every
every_not zero t e = absurd (let z : ◌≡◌ {A = ℕ} 0 1 = cc in omega arith)
every_not (suc n) t e = ⊎_elim {C = (p : ℕ) × (p < suc n) × (t p ≡ false)}
    (λ q. let r = every_not n t q in (r.0, omega (arith, r.1), r.2))
    (λ q. (n, omega arith, q))
    (and_cases (every n t) (t n) e)

pub code_to : (n : ℕ) (f : ℕ → ℕ) (p : ℕ) → p < n → code_of (codes_to n f) p ≡ f p
unfolding codes_to
code_to n f p h = ap (λ (c : Code). c.0) (get_or-map-range_with_len (λ q. record { 0 = f q }) 0 n p p (record { 0 = 0 }) h (omega arith))

pub many_codes : (n : ℕ) (f : ℕ → ℕ) → length (codes_to n f) ≡ n
unfolding codes_to
many_codes n f = length-map-range_with_len (λ q. record { 0 = f q }) 0 n

code_eta : (c : Code) (k : ℕ) → c.0 ≡ k → c ≡ record { 0 = k }
code_eta c k e = ap (λ n. record { 0 = n }) e

-- 81 codes are the list
pub same_list : (xs ys : List Code) → length xs ≡ 81 → length ys ≡ 81 → ((p : ℕ) → p < 81 → code_of xs p ≡ code_of ys p) → xs ≡ ys
same_list xs ys m n f =
    fill_by_all (λ p. get_or ys p (record { 0 = 0 })) xs 81 (record { 0 = 0 }) m (λ p h. code_eta (get_or xs p (record { 0 = 0 })) (code_of ys p) (f p h))
    ∙ sym (fill_by_all (λ p. get_or ys p (record { 0 = 0 })) ys 81 (record { 0 = 0 }) n (λ p h. refl))

-- the same bounds have the same codes
same_code : (a b : ℕ) → a ≤ 4294967295 → b ≤ 4294967295 → decode a ≡ decode b → a ≡ b
same_code a b h k e =
    let l : a ≤ b = code_le a b h (subst (λ l. Tight (decode a) l) e (tight_refl (decode a))) in
    let m : b ≤ a = code_le b a k (subst (λ l. Tight (decode b) l) (sym e) (tight_refl (decode b))) in
    omega arith

pub same_zone : (xs ys : List Code) → Sound xs → Sound ys → length xs ≡ 81 → length ys ≡ 81 → ((i j : ℕ) → i < 9 → j < 9 → at xs i j ≡ at ys i j) → xs ≡ ys
same_zone xs ys s t m n f = same_list xs ys m n (λ p h.
    let e : 9 * (p / 9) + p % 9 ≡ p = omega arith in
    same_code (code_of xs p) (code_of ys p) (s.near p h).1 (t.near p h).1
    (subst (λ q. decode (code_of xs q) ≡ decode (code_of ys q)) e (f (p / 9) (p % 9) (omega arith) (omega arith))))

pub in_reach_yes : (k : ℕ) → in_reach k ≡ true → Near 4000000 k
unfolding in_reach
in_reach_yes k e = grind (arith, nat_tests)

pub in_reach_no : (k : ℕ) → in_reach k ≡ false → Near 4000000 k → ⊥
unfolding in_reach
in_reach_no k e n = grind (arith, nat_tests)

-- the code of a bound that a cut takes
half_is : (c : ℤ) → negsuc 1000000 ≤ℤ c → c ≤ℤ pos 1000001 → (pos (half_code c) ≡ c +ℤ pos 16777216)
unfolding half_code
half_is (pos n) h k = omega (arith, ints)
half_is (negsuc n) h k = omega (arith, ints)

in_range : (s : Bool) (c : ℤ) → (Beyond (upto s c) → ⊥) → (negsuc 999999 ≤ℤ c) × (c ≤ℤ pos 1000000)
unfolding Beyond
in_range s c n = (
  by_lt_z c (negsuc 999999) (λ h. absurd (n (inl h))) (λ h. h),
  by_lt_z (pos 1000000) c (λ h. absurd (n (inr h))) (λ h. h),
)

module _ {allows : ℕ → Bool} {normal : UpperBound → UpperBound} (K : ScaleLaws allows normal) where
  coded_fits : (b l : UpperBound) → l ≡ normal b → (Beyond b → ⊥) → CodeOf l (coded l)
  unfolding coded
  coded_fits b none e n = record { is = decode_none 4294967295 (omega arith); near = (λ h. absurd (omega arith), omega arith) }
  coded_fits none (upto t c) e n = absurd (let f = e ∙ normal_none K in let z : ◌≡◌ {A = ℕ} 0 1 = cc in omega arith)
  coded_fits (upto s m) (upto true c) e n =
      let r = in_range s m n in
      let k = close K s true m c e in
      let h = half_is c (omega (arith, ints)) (omega (arith, ints)) in
      record { is = code_closed (half_code c) c (omega (arith, ints)) h; near = (λ _. omega (arith, ints), omega (arith, ints)) }
  coded_fits (upto s m) (upto false c) e n =
      let r = in_range s m n in
      let k = close K s false m c e in
      let h = half_is c (omega (arith, ints)) (omega (arith, ints)) in
      record { is = code_open (half_code c) c (omega (arith, ints)) h; near = (λ _. omega (arith, ints), omega (arith, ints)) }

  pub coded_is : (b : UpperBound) → (Beyond b → ⊥) → CodeOf (normal b) (coded (normal b))
  coded_is b n = coded_fits b (normal b) refl n

pub meets_yes : (D : ℕ) (d : ℤ) (b : UpperBound) → meets D d b ≡ true → Meets D d b
unfolding meets Meets
meets_yes D d none e = tt
meets_yes D d (upto true c) e = grind (arith, ints)
meets_yes D d (upto false c) e = grind (arith, ints)

pub yes_meets : (D : ℕ) (d : ℤ) (b : UpperBound) → Meets D d b → meets D d b ≡ true
unfolding meets Meets
yes_meets D d none e = refl
yes_meets D d (upto true c) e = grind (arith, ints)
yes_meets D d (upto false c) e = grind (arith, ints)
