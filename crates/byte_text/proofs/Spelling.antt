-- What is written and what is read: numerals, bytes without a mark, parts joined again.
use Rattle.std.proofs.Common.{◌≡◌, ℕ, zero, suc, ◌+◌, ◌^◌, ◌<◌, ◌≤◌, min, Bool, true, false, cond, not, ◌&&◌, ◌||◌, eqb, ltb, leb, List, [], ◌∷◌, ◌++◌, length, get_or, Some, decimal, sym, refl, ap, ◌∙◌, arith, rules, eq-eqb}
use Rattle.std.specs.Str.Parse.{digits_value}
use Rattle.std.specs.Str.{all_ascii_digits}
use Rattle.std.specs.Char.{is_ascii_digit}
use Rattle.std.proofs.lemmas.Bool.Decides.{nat_tests}
use Rattle.std.proofs.lemmas.Bool.{and_parts, and_from, ltb-true as below}
use Rattle.std.proofs.lemmas.Str.Parse.{IsNumeralModel, numerals_by_value}
use Rattle.std.proofs.lemmas.Fmt.{decimal_digit, decimal_is_IsNumeral, decimal_nonempty, first_decimal, digits_decimal, decimal-digits_value}
use Rattle.byte_text.specs.Numerals.{numeral, number_to}
use Rattle.byte_text.specs.Parts.{Place, parted, onto}

own : IsNumeralModel (λ ds. all_ascii_digits ds ≡ true) (digits_value 10)
own = numerals_by_value _ (search rules)

pub digits_all : (n : ℕ) → n < 2 ^ 64 → all_ascii_digits (decimal n) ≡ true
digits_all n h = digits_decimal own n h

plain : (n : ℕ) → n < 2 ^ 64 → get_or (decimal n) 0 0 ≡ 48 → length (decimal n) ≤ 1
plain zero h e = omega (arith, ap length (decimal_digit 0 (omega arith)))
plain (suc n) h e = absurd (omega (arith, first_decimal (suc n) (omega arith) h))

-- a number that is written is read back
pub number_back : (top n : ℕ) → n < 2 ^ 64 → n ≤ top → number_to top (decimal n) ≡ Some n
number_back top n h le =
    let some = decimal_nonempty n h in
    let all = digits_all n h in
    let one = plain n h in
    let is : min (digits_value 10 (decimal n)) top ≡ n = omega (arith, (decimal_is_IsNumeral n h).1) in
    grind (arith, nat_tests)

-- what is read is what is written
pub number_there : (top n : ℕ) (bs : List ℕ) → top < 2 ^ 63 → n < top → Some n ≡ number_to top bs → bs ≡ decimal n
number_there top n bs small lt e =
    let num : (numeral bs ≡ true) × (n ≡ min (digits_value 10 bs) top) = grind arith in
    let is : digits_value 10 bs ≡ n = omega (arith, num.1) in
    let p = and_parts (ltb 0 (length bs)) (all_ascii_digits bs && (not (eqb (get_or bs 0 0) 48) || leb (length bs) 1)) num.0 in
    let q = and_parts (all_ascii_digits bs) (not (eqb (get_or bs 0 0) 48) || leb (length bs) 1) p.1 in
    let some = below 0 (length bs) p.0 in
    let r = q.1 in
    let one : get_or bs 0 0 ≡ 48 → length bs ≡ 1 = λ z. grind (arith, nat_tests) in
    sym (ap decimal (sym is) ∙ decimal-digits_value own bs q.0 some one (omega arith))

-- no byte is b
abbrev pub lacks : ℕ → List ℕ → Bool
lacks b [] = true
lacks b (x ∷ xs) = not (eqb x b) && lacks b xs

pub lacks_digits : (b : ℕ) (ds : List ℕ) → b < 48 → all_ascii_digits ds ≡ true → lacks b ds ≡ true
lacks_digits b [] low h = refl
lacks_digits b (x ∷ xs) low h =
    let p = and_parts (is_ascii_digit x) (all_ascii_digits xs) h in
    let d = p.0 in
    let here : not (eqb x b) ≡ true = grind (arith, nat_tests) in
    and_from (not (eqb x b)) (lacks b xs) here (lacks_digits b xs low p.1)

pub lacks_append : (b : ℕ) (xs ys : List ℕ) → lacks b xs ≡ true → lacks b ys ≡ true → lacks b (xs ++ ys) ≡ true
lacks_append b [] ys h k = k
lacks_append b (x ∷ xs) ys h k =
    let p = and_parts (not (eqb x b)) (lacks b xs) h in
    and_from (not (eqb x b)) (lacks b (xs ++ ys)) p.0 (lacks_append b xs ys p.1 k)

not_here : (x b : ℕ) → not (eqb x b) ≡ true → eqb x b ≡ false
not_here x b h = grind arith

pub parted_mark : (b at : ℕ) (xs ys : List ℕ) → lacks b xs ≡ true → parted b at (xs ++ (b ∷ ys)) ≡ record { bytes = xs; at = at } ∷ parted b (at + suc (length xs)) ys
parted_mark b at [] ys h = let e = eq-eqb b b refl in rw e
parted_mark b at (x ∷ xs) ys h =
    let p = and_parts (not (eqb x b)) (lacks b xs) h in
    let e = not_here x b p.0 in
    let more = parted_mark b (at + 1) xs ys p.1 in
    let n : at + suc (suc (length xs)) ≡ at + 1 + suc (length xs) = omega arith in
    rw (e, more, n)

pub parted_end : (b at : ℕ) (xs : List ℕ) → lacks b xs ≡ true → parted b at xs ≡ record { bytes = xs; at = at } ∷ []
parted_end b at [] h = refl
parted_end b at (x ∷ xs) h =
    let p = and_parts (not (eqb x b)) (lacks b xs) h in
    let e = not_here x b p.0 in
    let more = parted_end b (at + 1) xs p.1 in
    rw (e, more)

pub lacks_decimal : (b n : ℕ) → b < 48 → n < 2 ^ 64 → lacks b (decimal n) ≡ true
lacks_decimal b n low h = lacks_digits b (decimal n) low (digits_all n h)

-- the parts with b between them
abbrev pub joins : ℕ → List Place → List ℕ
joins b [] = []
joins b (p ∷ []) = p.bytes
joins b (p ∷ (q ∷ qs)) = p.bytes ++ (b ∷ joins b (q ∷ qs))

joins_onto : (b x at : ℕ) (ps : List Place) → joins b (onto x at ps) ≡ x ∷ joins b ps
joins_onto b x at [] = refl
joins_onto b x at (p ∷ []) = refl
joins_onto b x at (p ∷ (q ∷ qs)) = refl

joins_first : (b at : ℕ) (ps : List Place) → (ps ≡ [] → ⊥) → joins b (record { bytes = []; at = at } ∷ ps) ≡ b ∷ joins b ps
joins_first b at [] h = absurd (h refl)
joins_first b at (p ∷ ps) h = refl

pub parted_not_empty : (b at : ℕ) (xs : List ℕ) → parted b at xs ≡ [] → ⊥
parted_not_empty b at [] e = let z : ◌≡◌ {A = ℕ} 0 1 = cc in omega arith
parted_not_empty b at (x ∷ xs) e0 = elim (eqb x b) as (λ t. cond t (record { bytes = []; at = at } ∷ parted b (at + 1) xs) (onto x at (parted b (at + 1) xs)) ≡ [] → ⊥) [
  | true ↦ λ e. let z : ◌≡◌ {A = ℕ} 0 1 = cc in omega arith
  | false ↦ elim (parted b (at + 1) xs) as (λ ps. onto x at ps ≡ [] → ⊥) [ [] ↦ λ e. let z : ◌≡◌ {A = ℕ} 0 1 = cc in omega arith | p ∷ ps ↦ λ e. let z : ◌≡◌ {A = ℕ} 0 1 = cc in omega arith ]
] e0

-- a text is its parts with the mark between them
pub joins_parted : (b at : ℕ) (xs : List ℕ) → joins b (parted b at xs) ≡ xs
joins_parted b at [] = refl
joins_parted b at (x ∷ xs) =
    let more = joins_parted b (at + 1) xs in
    elim (eqb x b) as (λ t. (t ≡ true → x ≡ b) → joins b (cond t (record { bytes = []; at = at } ∷ parted b (at + 1) xs) (onto x at (parted b (at + 1) xs))) ≡ x ∷ xs) [
      | true ↦ λ is. joins_first b at (parted b (at + 1) xs) (parted_not_empty b (at + 1) xs) ∙ (λ i. sym (is refl) i ∷ more i)
      | false ↦ λ is. joins_onto b x at (parted b (at + 1) xs) ∙ ap (λ l. x ∷ l) more
    ] (λ t. grind (arith, nat_tests))
