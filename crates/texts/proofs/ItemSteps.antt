-- The steps of the reader of a list of items.
use Rattle.std.proofs.Common.{◌≡◌, ℕ, ◌+◌, Bool, true, false, cond, eqb, List, [], ◌∷◌, Some, None, Ok, Err, Option, Result, sym, refl, ap, ◌∙◌, arith}
use Rattle.std.proofs.lemmas.Bool.{cond-true, cond-false}
use Rattle.bounds.specs.declared.refusal.Refusal.{Refusal}
use Rattle.bounds.specs.declared.refusal.Refusal.TheVariants.{Name}
use Rattle.byte_text.specs.Parts.{Place, head_place, tail_places, parted, onto}
use Rattle.texts.specs.Fields.{dash}
use Rattle.texts.specs.Items.{item_with, items_from, items_of, bytes_of}

-- where the parts begin does not change their bytes
onto_bytes : (x at at' : ℕ) (ps qs : List Place) → bytes_of ps ≡ bytes_of qs → bytes_of (onto x at ps) ≡ bytes_of (onto x at' qs)
onto_bytes x at at' [] [] e = refl
onto_bytes x at at' [] (q ∷ qs) e = absurd (let z : ◌≡◌ {A = ℕ} 0 1 = cc in omega arith)
onto_bytes x at at' (p ∷ ps) [] e = absurd (let z : ◌≡◌ {A = ℕ} 0 1 = cc in omega arith)
onto_bytes x at at' (p ∷ ps) (q ∷ qs) e = let h : p.bytes ≡ q.bytes = cc in let t : bytes_of ps ≡ bytes_of qs = cc in λ i. (x ∷ h i) ∷ t i

parted_bytes : (b at at' : ℕ) (bs : List ℕ) → bytes_of (parted b at bs) ≡ bytes_of (parted b at' bs)
parted_bytes b at at' [] = refl
parted_bytes b at at' (x ∷ xs) =
    let h = parted_bytes b (at + 1) (at' + 1) xs in
    elim (eqb x b) as (λ t. bytes_of (cond t (record { bytes = []; at = at } ∷ parted b (at + 1) xs) (onto x at (parted b (at + 1) xs))) ≡ bytes_of (cond t (record { bytes = []; at = at' } ∷ parted b (at' + 1) xs) (onto x at' (parted b (at' + 1) xs)))) [
      | true ↦ ap (λ (l : List (List ℕ)). [] ∷ l) h
      | false ↦ onto_bytes x at at' (parted b (at + 1) xs) (parted b (at' + 1) xs) h
    ]

module _ {X : Type 0} (item : X → List ℕ → Result (Option X) Refusal) where
  pub items_dash : (x : X) (p : Place) → true ≡ dash p.bytes → Ok x ≡ items_of item x p
  unfolding items_of
  items_dash x p d = sym (cond-true _ _ _ (sym d))

  pub items_begin : (x : X) (p : Place) (at : ℕ) (all : List Place) → false ≡ dash p.bytes → all ≡ parted 44 at p.bytes → items_from item true x (bytes_of all) ≡ items_of item x p
  unfolding items_of
  items_begin x p at all d e = ap (items_from item true x) (ap bytes_of e ∙ parted_bytes 44 at p.at p.bytes) ∙ sym (cond-false _ _ _ (sym d))

  pub items_end : (ok : Bool) (x : X) (all : List Place) → None ≡ head_place all → items_from item ok x (bytes_of all) ≡ cond ok (Ok x) (Err Name)
  unfolding items_from
  items_end ok x [] h = refl
  items_end ok x (q ∷ qs) h = absurd (let z : ◌≡◌ {A = ℕ} 0 1 = cc in omega arith)

  module _ (ok : Bool) (x : X) (p : Place) (all rest : List Place) (head : Some p ≡ head_place all) (tail : rest ≡ tail_places all) where
    onward : items_from item ok x (bytes_of all) ≡ item_with ok x (item x p.bytes) (λ ok' y. items_from item ok' y (bytes_of rest))
    unfolding items_from
    onward = elim all as (λ l. Some p ≡ head_place l → rest ≡ tail_places l → items_from item ok x (bytes_of l) ≡ item_with ok x (item x p.bytes) (λ ok' y. items_from item ok' y (bytes_of rest))) [
      | [] ↦ λ h t. absurd (let z : ◌≡◌ {A = ℕ} 0 1 = cc in omega arith)
      | q ∷ qs ↦ λ h t. let e : q ≡ p = cc in λ i. item_with ok x (item x (e i).bytes) (λ ok' y. items_from item ok' y (bytes_of (sym t i)))
    ] head tail

    pub item_refused : (r : Refusal) → Err r ≡ item x p.bytes → items_from item ok x (bytes_of all) ≡ Err r
    item_refused r e = onward ∙ ap (λ o. item_with ok x o (λ ok' y. items_from item ok' y (bytes_of rest))) (sym e)

    pub item_none : Ok None ≡ item x p.bytes → items_from item ok x (bytes_of all) ≡ items_from item false x (bytes_of rest)
    item_none e = onward ∙ ap (λ o. item_with ok x o (λ ok' y. items_from item ok' y (bytes_of rest))) (sym e)

    pub item_some : (y : X) → Ok (Some y) ≡ item x p.bytes → items_from item ok x (bytes_of all) ≡ items_from item ok y (bytes_of rest)
    item_some y e = onward ∙ ap (λ o. item_with ok x o (λ ok' y. items_from item ok' y (bytes_of rest))) (sym e)
