-- Parts between marks.
use Rattle.std.proofs.Common.{◌≡◌, ℕ, suc, ◌+◌, ◌-◌, ◌<◌, ◌≤◌, true, false, cond, eqb, ltb, List, [], ◌∷◌, length, take, drop, Some, refl, arith, le-ltb, lt-ltb}
use lib.Dec.{leb-suc-suc}
use Rattle.std.proofs.lemmas.List.{take_rest}
use Rattle.byte_text.specs.Parts.{up_to}
use Rattle.byte_text.specs.Parts.{Place, parted, onto, head_place, tail_places}

abbrev after : ℕ → ℕ → List ℕ → ℕ → List Place
after b at xs n = cond (ltb n (length xs)) (parted b (at + suc n) (drop (suc n) xs)) []

pub parted_first : (b at : ℕ) (xs : List ℕ) → parted b at xs ≡ record { bytes = take (up_to b xs) xs; at = at } ∷ after b at xs (up_to b xs)
parted_first b at [] = refl
parted_first b at (x ∷ xs) =
    elim (eqb x b) as (λ t. cond t (record { bytes = []; at = at } ∷ parted b (at + 1) xs) (onto x at (parted b (at + 1) xs)) ≡ record { bytes = take (cond t 0 (suc (up_to b xs))) (x ∷ xs); at = at } ∷ after b at (x ∷ xs) (cond t 0 (suc (up_to b xs)))) [
      | true ↦ let e = lt-ltb 0 (suc (length xs)) (omega arith) in rw e
      | false ↦ let h = parted_first b (at + 1) xs in let e : at + suc (suc (up_to b xs)) ≡ at + 1 + suc (up_to b xs) = omega arith in rw (h, e, leb-suc-suc)
    ]

pub after_some : (b at : ℕ) (xs : List ℕ) (n : ℕ) → n ≡ up_to b xs → n < length xs → parted b (at + (n + 1)) (take (length xs - (n + 1)) (drop (n + 1) xs)) ≡ after b at xs (up_to b xs)
after_some b at xs n is h =
    let e = lt-ltb n (length xs) h in
    let o : n + 1 ≡ suc n = omega arith in
    rw (← is, e, take_rest, o)

pub after_none : (b at : ℕ) (xs : List ℕ) (n : ℕ) → n ≡ up_to b xs → length xs ≤ n → [] ≡ after b at xs (up_to b xs)
after_none b at xs n is h = let e = le-ltb n (length xs) h in rw (← is, e)

module _ (b at : ℕ) (xs : List ℕ) (n : ℕ) (is : n ≡ up_to b xs) where
  pub walk_first : Some (record { bytes = take n xs; at = at }) ≡ head_place (parted b at xs)
  walk_first = let h = parted_first b at xs in rw (h, is)

  pub walk_more : n < length xs → parted b (at + (n + 1)) (take (length xs - (n + 1)) (drop (n + 1) xs)) ≡ tail_places (parted b at xs)
  walk_more lt = let h = parted_first b at xs in let e = after_some b at xs n is lt in rw (h, e)

  pub walk_last : length xs ≤ n → [] ≡ tail_places (parted b at xs)
  walk_last le = let h = parted_first b at xs in let e = after_none b at xs n is le in rw (h, ← e)

-- a walk that gives a part has one part fewer ahead
pub first_and_rest : (p : Place) (all rest : List Place) → Some p ≡ head_place all → rest ≡ tail_places all → all ≡ p ∷ rest
first_and_rest p [] rest h e = absurd (let z : ◌≡◌ {A = ℕ} 0 1 = cc in omega arith)
first_and_rest p (q ∷ qs) rest h e = let f : p ≡ q = cc in cc
