-- The three ways of `next_line`.
use Rattle.std.proofs.Common.{◌≡◌, ℕ, ◌+◌, ◌-◌, ◌<◌, ◌≤◌, false, List, [], ◌∷◌, length, take, drop, sym, refl, ap, ◌∙◌, arith, length-drop}
use Rattle.std.proofs.lemmas.List.{take_rest, drop-drop, take_all}
use Rattle.byte_text.specs.Parts.{up_to, parted}
use Rattle.texts.specs.Readers.{whole, torn, next_of, rest_of, is_empty}
use Rattle.byte_text.proofs.Parting.{parted_first, after_some, after_none}

pub empty_not : {X : Type 0} (l : List X) → 0 < length l → is_empty l ≡ false
empty_not [] h = absurd (omega arith)
empty_not (x ∷ xs) h = refl

pub parted_some : (b at : ℕ) (xs : List ℕ) → 0 < length (parted b at xs)
parted_some b at xs = let e = ap length (parted_first b at xs) in omega arith

module _ (text : List ℕ) (at n m : ℕ) (is : n ≡ up_to 10 (take (length text - at) (drop at text))) where
  same : n ≡ up_to 10 (drop at text)
  same = is ∙ ap (up_to 10) (take_rest text at)

  long : length (take (length text - at) (drop at text)) ≡ length text - at
  long = ap length (take_rest text at) ∙ length-drop at text

  left : length (drop at text) ≡ length text - at
  left = length-drop at text

  pub line_there : n < length (take (length text - at) (drop at text)) → (whole m (record { bytes = take n (take (length text - at) (drop at text)); at = at }) ≡ next_of m (parted 10 at (drop at text))) × (parted 10 (at + n + 1) (drop (at + n + 1) text) ≡ rest_of (parted 10 at (drop at text)))
  line_there h =
      let first = parted_first 10 at (drop at text) in
      let lt : n < length (drop at text) = omega (arith, long, left) in
      let some = after_some 10 at (drop at text) n same lt in
      let k : at + (n + 1) ≡ at + n + 1 = omega arith in
      let rest : parted 10 (at + (n + 1)) (take (length (drop at text) - (n + 1)) (drop (n + 1) (drop at text))) ≡ parted 10 (at + n + 1) (drop (at + n + 1) text) = rw (take_rest, drop-drop, k) in
      let all : parted 10 at (drop at text) ≡ record { bytes = take n (drop at text); at = at } ∷ parted 10 (at + n + 1) (drop (at + n + 1) text) = first ∙ (λ i. record { bytes = take (sym same i) (drop at text); at = at } ∷ (sym some ∙ rest) i) in
      let more = empty_not (parted 10 (at + n + 1) (drop (at + n + 1) text)) (parted_some 10 (at + n + 1) (drop (at + n + 1) text)) in
      (rw (all, more, take_rest text at), rw (all, more))

  pub line_open : length (take (length text - at) (drop at text)) ≤ n → (length (take (length text - at) (drop at text)) ≡ 0 → ⊥) → (torn m (record { bytes = take (length text - at) (drop at text); at = at }) ≡ next_of m (parted 10 at (drop at text))) × (parted 10 at (drop at text) ≡ rest_of (parted 10 at (drop at text)))
  line_open h ne =
      let first = parted_first 10 at (drop at text) in
      let ge : length (drop at text) ≤ n = omega (arith, long, left) in
      let none = after_none 10 at (drop at text) n same ge in
      let cut : take n (drop at text) ≡ drop at text = take_all n (drop at text) ge in
      let all : parted 10 at (drop at text) ≡ record { bytes = drop at text; at = at } ∷ [] = first ∙ (λ i. record { bytes = (ap (λ k. take k (drop at text)) (sym same) ∙ cut) i; at = at } ∷ sym none i) in
      let more = empty_not (drop at text) (omega (arith, long, left, ne)) in
      (rw (all, more, take_rest text at), rw all)
