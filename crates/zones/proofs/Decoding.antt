-- The codes stand for bounds: their sum, their order, and the cut
use Rattle.zones.specs.declared.codes.Code.{Code}
use Rattle.std.proofs.Common.{◌≡◌, ℕ, ◌+◌, ◌-◌, ◌*◌, ◌/◌, ◌%◌, ◌<◌, ◌≤◌, min, Bool, true, false, ◌&&◌, eqb, ltb, List, ℤ, pos, ◌+ℤ◌, ◌-ℤ◌, sym, refl, ap, ◌∙◌, subst, ⊎_elim, arith}
use borrow.Author.Differences.{ints}
use Rattle.std.proofs.lemmas.Bool.Decides.{nat_tests}
use Rattle.std.proofs.lemmas.Bool.{cases_lt, lt-ltb, le-ltb, cond-true, cond-false}
use Rattle.bounds.specs.Bounds.{UpperBound, none, upto, plus, level, Tight, bit}
use Rattle.zones.specs.Matrices.{tighter, Canon, cut_at}
use Rattle.zones.specs.Codes.{Near, code_plus, code_cut, decode, at, code_of}
use Rattle.bounds.specs.Laws.{tight_same, tight_refl}
use Rattle.zones.proofs.Canon.{tighter_left, tighter_right, tighter_one}
use Rattle.zones.proofs.CodeFacts.{near_plus}

pub tighter_first : (a b : UpperBound) → Tight a b → tighter a b ≡ a
tighter_first a b h = tight_same _ _ (tighter_left a b) (tighter_one (Tight a) a b (tight_refl a) h)

pub tighter_second : (a b : UpperBound) → Tight b a → tighter a b ≡ b
tighter_second a b h = tight_same _ _ (tighter_right a b) (tighter_one (Tight b) a b h (tight_refl b))

pub decode_below : (k : ℕ) → k < 4294967295 → decode k ≡ upto (eqb (k % 2) 1) (pos (k / 2) -ℤ pos 16777216)
unfolding decode
decode_below k h = cond-true (ltb k 4294967295) _ _ (lt-ltb k 4294967295 h)

pub decode_none : (k : ℕ) → 4294967295 ≤ k → decode k ≡ none
unfolding decode
decode_none k h = cond-false (ltb k 4294967295) _ _ (le-ltb k 4294967295 h)

pub bit_odd : (n : ℕ) → n < 2 → bit (eqb n 1) ≡ n
bit_odd n h = grind (arith, nat_tests)

odd_min : (m n : ℕ) → m < 2 → n < 2 → eqb (min m n) 1 ≡ (eqb m 1 && eqb n 1)
odd_min m n h k = grind (arith, nat_tests)

pub decode_tight : (a b : ℕ) → a ≤ b → Tight (decode a) (decode b)
unfolding Tight
decode_tight a b h = ⊎_elim {C = Tight (decode a) (decode b)}
    (λ k. let l : a < 4294967295 = omega arith in
    subst (Tight (decode a)) (sym (decode_below b k)) (subst (λ t. Tight t (upto (eqb (b % 2) 1) (pos (b / 2) -ℤ pos 16777216))) (sym (decode_below a l))
    (omega (arith, ints, bit_odd (a % 2) (omega arith), bit_odd (b % 2) (omega arith)))))
    (λ k. subst (Tight (decode a)) (sym (decode_none b k)) tt)
    (cases_lt b 4294967295)

pub lim_min : (a b : ℕ) → decode (min a b) ≡ tighter (decode a) (decode b)
lim_min a b = ⊎_elim {C = decode (min a b) ≡ tighter (decode a) (decode b)}
    (λ h. let e : min a b ≡ a = omega arith in ap decode e ∙ sym (tighter_first _ _ (decode_tight a b (omega arith))))
    (λ h. let e : min a b ≡ b = omega arith in ap decode e ∙ sym (tighter_second _ _ (decode_tight b a h)))
    (cases_lt a b)

plus_none : (l : UpperBound) → plus l none ≡ none
unfolding plus
plus_none none = refl
plus_none (upto s a) = refl

none_plus : (l : UpperBound) → plus none l ≡ none
unfolding plus
none_plus l = refl

plus_both : (s t : Bool) (a b : ℤ) → plus (upto s a) (upto t b) ≡ upto (s && t) (a +ℤ b)
unfolding plus
plus_both s t a b = refl

pub decode_plus : (r s a b : ℕ) → r + s ≤ 16000000 → Near r a → Near s b → decode (code_plus a b) ≡ plus (decode a) (decode b)
unfolding code_plus
decode_plus r s a b le na nb = ⊎_elim {C = decode (code_plus a b) ≡ plus (decode a) (decode b)}
    (λ h. ⊎_elim {C = decode (code_plus a b) ≡ plus (decode a) (decode b)}
    (λ k. let e : code_plus a b ≡ (a / 2 + b / 2 - 16777216) * 2 + min (a % 2) (b % 2) = grind (arith, nat_tests) in
    let ra = na.0 h in
    let rb = nb.0 k in
    let lt : (a / 2 + b / 2 - 16777216) * 2 + min (a % 2) (b % 2) < 4294967295 = omega arith in
    let half : ((a / 2 + b / 2 - 16777216) * 2 + min (a % 2) (b % 2)) / 2 ≡ a / 2 + b / 2 - 16777216 = omega arith in
    let odd : ((a / 2 + b / 2 - 16777216) * 2 + min (a % 2) (b % 2)) % 2 ≡ min (a % 2) (b % 2) = omega arith in
    ap decode e ∙ decode_below _ lt
    ∙ ap (λ n. upto (eqb n 1) (pos (((a / 2 + b / 2 - 16777216) * 2 + min (a % 2) (b % 2)) / 2) -ℤ pos 16777216)) odd
    ∙ ap (λ t. upto t (pos (((a / 2 + b / 2 - 16777216) * 2 + min (a % 2) (b % 2)) / 2) -ℤ pos 16777216)) (odd_min (a % 2) (b % 2) (omega arith) (omega arith))
    ∙ ap (upto (eqb (a % 2) 1 && eqb (b % 2) 1)) (ap (λ n. pos n -ℤ pos 16777216) half ∙ numbers (a / 2) (b / 2) (omega arith))
    ∙ sym (ap (λ l. plus l (decode b)) (decode_below a h) ∙ ap (plus (upto (eqb (a % 2) 1) (pos (a / 2) -ℤ pos 16777216))) (decode_below b k) ∙ plus_both _ _ _ _))
    (λ k. let e : code_plus a b ≡ 4294967295 = grind (arith, nat_tests) in
    ap decode e ∙ decode_none 4294967295 (omega arith) ∙ sym (ap (plus (decode a)) (decode_none b k) ∙ plus_none (decode a)))
    (cases_lt b 4294967295))
    (λ h. let e : code_plus a b ≡ 4294967295 = grind (arith, nat_tests) in
    ap decode e ∙ decode_none 4294967295 (omega arith) ∙ sym (ap (λ l. plus l (decode b)) (decode_none a h) ∙ none_plus (decode b)))
    (cases_lt a 4294967295)
  where
    numbers : (m n : ℕ) → 16777216 ≤ m + n → pos (m + n - 16777216) -ℤ pos 16777216 ≡ (pos m -ℤ pos 16777216) +ℤ (pos n -ℤ pos 16777216)
    numbers m n h = omega (arith, ints)

-- the closed form, at (i, j)
pub decode_cut : (xs : List Code) (i j c a b : ℕ) → i < 9 → j < 9 → a < 9 → b < 9
    → ((p : ℕ) → p < 81 → Near 4000000 (code_of xs p)) → Near 1000001 c
    → decode (code_cut xs i j c (9 * a + b)) ≡ cut_at (at xs) i j (decode c) a b
unfolding code_cut
decode_cut xs i j c a b hi hj ha hb near nc =
    let row : (9 * a + b) / 9 ≡ a = omega arith in
    let column : (9 * a + b) % 9 ≡ b = omega arith in
    let x = near (9 * a + i) (omega arith) in
    let y = near (9 * j + b) (omega arith) in
    lim_min (code_of xs (9 * a + b)) _
    ∙ ap (λ n. tighter (at xs a b) (decode (code_plus (code_plus (code_of xs (9 * n + i)) c) (code_of xs (9 * j + (9 * a + b) % 9))))) row
    ∙ ap (λ n. tighter (at xs a b) (decode (code_plus (code_plus (code_of xs (9 * a + i)) c) (code_of xs (9 * j + n))))) column
    ∙ ap (tighter (at xs a b)) (decode_plus 5000001 4000000 _ _ (omega arith) (near_plus 4000000 1000001 _ _ (omega arith) x nc) y
    ∙ ap (λ l. plus l (at xs j b)) (decode_plus 4000000 1000001 _ _ (omega arith) x nc))

-- what is the same at every (i, j) is canonical alike, and holds the same states
pub canon_same : (Z Y : ℕ → ℕ → UpperBound) → ((a b : ℕ) → a < 9 → b < 9 → Z a b ≡ Y a b) → Canon Y → Canon Z
canon_same Z Y e c = record {
  diagonal = λ i h. e i i h h ∙ c.diagonal i h;
  front = λ j h. subst (λ l. Tight l level) (sym (e 0 j (omega arith) h)) (c.front j h);
  around = λ i j k hi hj hk. subst (λ l. Tight l (plus (Z i k) (Z k j))) (sym (e i j hi hj))
      (subst (λ l. Tight (Y i j) (plus l (Z k j))) (sym (e i k hi hk)) (subst (λ l. Tight (Y i j) (plus (Y i k) l)) (sym (e k j hk hj)) (c.around i j k hi hj hk)));
}

pub code_closed : (n : ℕ) (z : ℤ) → n < 1000000000 → pos n ≡ z +ℤ pos 16777216 → decode (2 * n + 1) ≡ upto true z
code_closed n z h e =
    let half : (2 * n + 1) / 2 ≡ n = omega arith in
    let odd : (2 * n + 1) % 2 ≡ 1 = omega arith in
    decode_below (2 * n + 1) (omega arith) ∙ ap (λ m. upto (eqb m 1) (pos ((2 * n + 1) / 2) -ℤ pos 16777216)) odd ∙ ap (upto true) (ap (λ m. pos m -ℤ pos 16777216) half ∙ omega (arith, ints))

pub code_open : (n : ℕ) (z : ℤ) → n < 1000000000 → pos n ≡ z +ℤ pos 16777216 → decode (2 * n) ≡ upto false z
code_open n z h e =
    let half : (2 * n) / 2 ≡ n = omega arith in
    let odd : (2 * n) % 2 ≡ 0 = omega arith in
    decode_below (2 * n) (omega arith) ∙ ap (λ m. upto (eqb m 1) (pos ((2 * n) / 2) -ℤ pos 16777216)) odd ∙ ap (upto false) (ap (λ m. pos m -ℤ pos 16777216) half ∙ omega (arith, ints))

pub lim_at : (k : ℕ) (z : ℤ) → k < 4294967295 → z ≡ pos (k / 2) -ℤ pos 16777216 → upto (eqb (k % 2) 1) z ≡ decode k
lim_at k z h e = ap (upto (eqb (k % 2) 1)) e ∙ sym (decode_below k h)
