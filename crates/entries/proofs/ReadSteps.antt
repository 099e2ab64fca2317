-- How a bound is read, step by step
use Rattle.std.proofs.Common.{◌≡◌, ℕ, ◌+◌, ◌-◌, ◌*◌, ◌<◌, ◌≤◌, Bool, true, false, cond, ◌&&◌, eqb, leb, List, [], ◌∷◌, length, get_or, take, drop, ℤ, Some, None, Option, sym, refl, ap, ◌∙◌, arith, length-drop, ne_eqb, Bor, is_some, unwrap_or, MatchOption}
use Rattle.std.proofs.Math.Bool.{and-true}
use lib.Pointwise.{pointwise}
use Rattle.std.proofs.lemmas.Bool.Decides.{nat_tests}
use Rattle.std.proofs.lemmas.Bool.{cond-true, cond-false}
use Rattle.std.proofs.lemmas.List.{take_all}
use Rattle.bounds.specs.declared.bound.Bound.{Bound}
use Rattle.byte_text.specs.Numerals.{number_to}
use Rattle.byte_text.specs.Parts.{Place, place, placed, head_place, tail_places}
use Rattle.byte_text.specs.declared.parts.Part.{Part}
use Rattle.entries.specs.Reading.{above, below, signed_of, clock, clock_of, with_number, before_number, item_of, noted, bounds_from}

-- what stands after k bytes
pub rest : (k : ℕ) (bs : List ℕ) → take (length bs - k) (drop k bs) ≡ drop k bs
rest k bs = take_all (length bs - k) (drop k bs) (omega (arith, length-drop k bs))

-- whether the bytes begin with b, as `strip_prefix` tells it
front_is : (b : ℕ) (bs : List ℕ) → 0 < b → pointwise eqb (take 1 bs) (b ∷ []) ≡ eqb (get_or bs 0 0) b
front_is b [] h = sym (ne_eqb 0 b (λ e. omega arith))
front_is b (x ∷ xs) h = and-true (eqb x b)

pub signed_minus : (bs : List ℕ) → pointwise eqb (take 1 bs) (45 ∷ []) ≡ true → below (number_to 4000001 (drop 1 bs)) ≡ signed_of bs
unfolding signed_of
signed_minus bs e = sym (cond-true (eqb (get_or bs 0 0) 45) _ _ (sym (front_is 45 bs (omega arith)) ∙ e))

pub signed_plain : (bs : List ℕ) → pointwise eqb (take 1 bs) (45 ∷ []) ≡ false → above (number_to 4000001 bs) ≡ signed_of bs
unfolding signed_of
signed_plain bs e = sym (cond-false (eqb (get_or bs 0 0) 45) _ _ (sym (front_is 45 bs (omega arith)) ∙ e))

abbrev tests : List ℕ → Bool
tests bs = leb 5 (length bs) && (clock (get_or bs 0 0) && clock (get_or bs 2 0))

pub item_short : (bs : List ℕ) → length bs < 4 → None ≡ item_of bs
unfolding item_of
item_short bs h = let t : tests bs ≡ false = grind (arith, nat_tests) in sym (cond-false (tests bs) _ _ t)

no_clock : (b : ℕ) → None ≡ clock_of b → clock b ≡ false
no_clock b e = of_none (clock b) e
  where
    of_none : (t : Bool) → None ≡ cond t (Some (b - 48)) None → t ≡ false
    of_none false e = refl
    of_none true e = let z : ◌≡◌ {A = ℕ} 0 1 = cc in absurd (omega arith)

a_clock : (b k : ℕ) → Some k ≡ clock_of b → (clock b ≡ true) × (k ≡ b - 48)
a_clock b k e = of_some (clock b) e
  where
    of_some : (t : Bool) → Some k ≡ cond t (Some (b - 48)) None → (t ≡ true) × (k ≡ b - 48)
    of_some false e = let z : ◌≡◌ {A = ℕ} 0 1 = cc in absurd (omega arith)
    of_some true e = (refl, cc)

pub item_first : (bs : List ℕ) → None ≡ clock_of (get_or bs 0 0) → None ≡ item_of bs
unfolding item_of
item_first bs e = let h = no_clock (get_or bs 0 0) e in let t : tests bs ≡ false = grind (arith, nat_tests) in sym (cond-false (tests bs) _ _ t)

pub item_third : (bs : List ℕ) → None ≡ clock_of (get_or bs 2 0) → None ≡ item_of bs
unfolding item_of
item_third bs e = let h = no_clock (get_or bs 2 0) e in let t : tests bs ≡ false = grind (arith, nat_tests) in sym (cond-false (tests bs) _ _ t)

-- what stands after `i-j<`
four : (a b c d : ℕ) (rest : List ℕ) → clock a ≡ true → clock c ≡ true
    → with_number (9 * (a - 48) + (c - 48)) (eqb (get_or rest 0 0) 61) (signed_of (cond (eqb (get_or rest 0 0) 61) (drop 1 rest) rest)) ≡ item_of (a ∷ b ∷ c ∷ d ∷ rest)
unfolding item_of signed_of
four a b c d [] h k = refl
four a b c d (x ∷ xs) h k =
    let bs = a ∷ b ∷ c ∷ d ∷ x ∷ xs in
    let t : tests bs ≡ true = grind (arith, nat_tests) in
    ap (λ (l : List ℕ). with_number (9 * (a - 48) + (c - 48)) (eqb x 61) (signed_of l)) (behind (eqb x 61)) ∙ sym (cond-true (tests bs) _ _ t)
  where
    behind : (t : Bool) → cond t xs (x ∷ xs) ≡ drop (before_number t) (a ∷ b ∷ c ∷ d ∷ x ∷ xs)
    behind true = refl
    behind false = refl

-- the item whose first three bytes name a place
pub item_made : (bs : List ℕ) (i j : ℕ) (r : Option (Bor (List ℕ))) (d : Bor (List ℕ)) → 4 ≤ length bs → d.now ≡ drop 4 bs → Some i ≡ clock_of (get_or bs 0 0) → Some j ≡ clock_of (get_or bs 2 0)
    → MatchOption r (pointwise eqb (take 1 d.now) (61 ∷ []) ≡ false) (λ x. (pointwise eqb (take 1 d.now) (61 ∷ []) ≡ true) × (x.now ≡ drop 1 d.now) × (length x.now + 1 ≡ length d.now))
    → with_number (9 * i + j) (is_some r) (signed_of (unwrap_or r d).now) ≡ item_of bs
item_made [] i j r d l e f g m = absurd (omega arith)
item_made (x ∷ []) i j r d l e f g m = absurd (omega arith)
item_made (x ∷ y ∷ []) i j r d l e f g m = absurd (omega arith)
item_made (x ∷ y ∷ z ∷ []) i j r d l e f g m = absurd (omega arith)
item_made (x ∷ y ∷ z ∷ w ∷ rest) i j None d l e f g m =
    let p = a_clock x i f in
    let q = a_clock z j g in
    let t : eqb (get_or rest 0 0) 61 ≡ false = ap (λ (l : List ℕ). eqb (get_or l 0 0) 61) (sym e) ∙ sym (front_is 61 d.now (omega arith)) ∙ m in
    let o : d.now ≡ cond (eqb (get_or rest 0 0) 61) (drop 1 rest) rest = e ∙ sym (cond-false (eqb (get_or rest 0 0) 61) _ _ t) in
    (λ k. with_number (9 * p.1 k + q.1 k) (sym t k) (signed_of (o k))) ∙ four x y z w rest p.0 q.0
item_made (x ∷ y ∷ z ∷ w ∷ rest) i j (Some s) d l e f g m =
    let p = a_clock x i f in
    let q = a_clock z j g in
    let t : eqb (get_or rest 0 0) 61 ≡ true = ap (λ (l : List ℕ). eqb (get_or l 0 0) 61) (sym e) ∙ sym (front_is 61 d.now (omega arith)) ∙ m.0 in
    let o : s.now ≡ cond (eqb (get_or rest 0 0) 61) (drop 1 rest) rest = m.1 ∙ ap (drop 1) e ∙ sym (cond-true (eqb (get_or rest 0 0) 61) _ _ t) in
    (λ k. with_number (9 * p.1 k + q.1 k) (sym t k) (signed_of (o k))) ∙ four x y z w rest p.0 q.0

abbrev place_of : Option (ℕ × Bound) → ℕ
place_of None = 0
place_of (Some i) = i.0

-- a place that is read exists
pub item_place : (bs : List ℕ) (p : ℕ) (b : Bound) → Some (p, b) ≡ item_of bs → p < 81
unfolding item_of
item_place bs p b e = read_place (tests bs) (9 * (get_or bs 0 0 - 48) + (get_or bs 2 0 - 48)) (eqb (get_or bs 4 0) 61) (signed_of (drop (before_number (eqb (get_or bs 4 0) 61)) bs)) e (λ t. let u : (get_or bs 0 0 ≤ 56) × (get_or bs 2 0 ≤ 56) = grind (arith, nat_tests) in omega (arith, u))
  where
    read_place : (t : Bool) (q : ℕ) (closed : Bool) (o : Option ℤ) → Some (p, b) ≡ cond t (with_number q closed o) None → (t ≡ true → q < 81) → p < 81
    read_place false q closed o e h = let z : ◌≡◌ {A = ℕ} 0 1 = cc in absurd (omega arith)
    read_place true q closed None e h = let z : ◌≡◌ {A = ℕ} 0 1 = cc in absurd (omega arith)
    read_place true q closed (Some z) e h = let s : p ≡ q = ap place_of e in omega (arith, h refl)

-- one item of those ahead
pub bounds_step : (ps : List Place) (bs : List (Option Bound)) (o : Option Part) (p : Part) → o ≡ Some p → placed o ≡ head_place ps → bounds_from ps bs ≡ bounds_from (tail_places ps) (noted bs (item_of p.bytes.now))
unfolding bounds_from
bounds_step [] bs o p e h = let z : ◌≡◌ {A = Option Place} (Some (place p)) None = ap placed (sym e) ∙ h in let f : ◌≡◌ {A = ℕ} 0 1 = cc in absurd (omega arith)
bounds_step (q ∷ qs) bs o p e h =
    let z : ◌≡◌ {A = Option Place} (Some (place p)) (Some q) = ap placed (sym e) ∙ h in
    let f : place p ≡ q = cc in
    ap (λ (x : Place). bounds_from qs (noted bs (item_of x.bytes))) (sym f)

-- none is ahead
pub bounds_end : (ps : List Place) (bs : List (Option Bound)) (o : Option Part) → o ≡ None → placed o ≡ head_place ps → bounds_from ps bs ≡ bs
unfolding bounds_from
bounds_end [] bs o e h = refl
bounds_end (q ∷ qs) bs o e h = let z : ◌≡◌ {A = Option Place} None (Some q) = ap placed (sym e) ∙ h in let f : ◌≡◌ {A = ℕ} 0 1 = cc in absurd (omega arith)
