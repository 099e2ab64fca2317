-- The steps of the reader of boxes.
use Rattle.std.proofs.Common.{◌≡◌, ℕ, ◌+◌, ◌-◌, ◌<◌, ◌≤◌, Bool, true, false, cond, ◌&&◌, eqb, leb, ltb, List, [], ◌∷◌, length, get_or, take, drop, Some, None, Ok, Option, Result, sym, refl, ap, ◌∙◌, arith, lt-ltb, eq-eqb, ne_eqb}
use Rattle.std.proofs.lemmas.List.{take_rest}
use Rattle.std.proofs.lemmas.Bool.{cond-true, cond-false}
use Rattle.std.proofs.lemmas.Bool.Decides.{nat_tests}
use Rattle.std.specs.List.{position, position_or_len}
use Rattle.bounds.specs.declared.refusal.Refusal.{Refusal}
use Rattle.zones.specs.declared.boxes.Side.{Side}
use Rattle.byte_text.specs.Parts.{Place, parted}
use Rattle.texts.specs.declared.boxes.ClockBound.{ClockBound}
use Rattle.texts.specs.Fields.{dash}
use Rattle.texts.specs.Items.{item_with, items_from, items_of, bytes_of}
use Rattle.texts.specs.BoxFields.{is_sign, up_to_sign, bound_with, bound_after, bound_in, no_sides, tightened, tightened_at, bound_with_clock, bound_item, box_with, box_from, box_of}

-- where the first sign stands
sign_place : (bs : List ℕ) → up_to_sign bs ≡ position_or_len is_sign bs
sign_place [] = refl
sign_place (x ∷ xs) = let h = sign_place xs in grind arith

pub sign_there : (bs : List ℕ) (k : ℕ) → Some k ≡ position is_sign bs → (k ≡ up_to_sign bs) × (k < length bs)
sign_there bs k e = let h = sign_place bs in grind (arith, nat_tests)

pub no_sign : (bs : List ℕ) → None ≡ position is_sign bs → None ≡ bound_in bs
no_sign bs e = let h = sign_place bs in let l : ltb (up_to_sign bs) (length bs) ≡ false = grind (arith, nat_tests) in sym (cond-false _ _ _ l)

module _ (bs : List ℕ) (k : ℕ) (is : k ≡ up_to_sign bs) (inside : k < length bs) where
  open_bound : bound_in bs ≡ bound_after (eqb (get_or bs k 0) 60) (take k bs) (drop (k + 1) bs)
  open_bound = cond-true _ _ _ (lt-ltb (up_to_sign bs) (length bs) (omega arith)) ∙ ap (λ (j : ℕ). bound_after (eqb (get_or bs j 0) 60) (take j bs) (drop (j + 1) bs)) (sym is)

  -- with the bytes after the sign
  module _ (rest : List ℕ) (after : rest ≡ drop (k + 1) bs) where
    pub bound_closed : get_or rest 0 0 ≡ 61 → bound_with (eqb (get_or bs k 0) 60) true (take k bs) (take (length rest - 1) (drop 1 rest)) ≡ bound_in bs
    bound_closed e = rw (take_rest rest 1, after) (sym (cond-true _ _ _ (eq-eqb (get_or (drop (k + 1) bs) 0 0) 61 (ap (λ (l : List ℕ). get_or l 0 0) (sym after) ∙ e)))) ∙ sym open_bound

    pub bound_open : (get_or rest 0 0 ≡ 61 → ⊥) → bound_with (eqb (get_or bs k 0) 60) false (take k bs) rest ≡ bound_in bs
    bound_open ne = rw after (sym (cond-false _ _ _ (ne_eqb (get_or (drop (k + 1) bs) 0 0) 61 (λ q. ne (ap (λ (l : List ℕ). get_or l 0 0) after ∙ q))))) ∙ sym open_bound

pub none_first : (l : List ℕ) → length l ≤ 0 → get_or l 0 0 ≡ 61 → ⊥
none_first [] h e = omega arith
none_first (x ∷ xs) h e = omega arith

-- one item and those after it
bound_step : (n : ℕ) (ok : Bool) (sides : List Side) (o : Option ClockBound) (go : Bool → List Side → Result (List Side) Refusal) → item_with ok sides (bound_with_clock n sides o) go ≡ box_with n ok sides o go
unfolding tightened
bound_step n ok sides None go = refl
bound_step n ok sides (Some m) go = elim (leb 1 m.clock && leb m.clock n) as (λ t. item_with ok sides (Ok (tightened_at sides m (cond t (Some (m.clock - 1)) None))) go ≡ cond t (go ok (tightened sides m)) (go false sides)) [ true ↦ refl | false ↦ refl ]

bounds_from_items : (n : ℕ) (ok : Bool) (sides : List Side) (ps : List Place) → items_from (bound_item n) ok sides (bytes_of ps) ≡ box_from n ok sides ps
unfolding items_from box_from
bounds_from_items n ok sides [] = refl
bounds_from_items n ok sides (p ∷ ps) = (λ i. item_with ok sides (bound_item n sides p.bytes) (λ ok' y. bounds_from_items n ok' y ps i)) ∙ bound_step n ok sides (bound_in p.bytes) (λ ok' sides'. box_from n ok' sides' ps)

pub bounds_are_items : (n : ℕ) (p : Place) → items_of (bound_item n) no_sides p ≡ box_of n p
unfolding items_of box_of
bounds_are_items n p = ap (cond (dash p.bytes) (Ok no_sides)) (bounds_from_items n true no_sides (parted 44 p.at p.bytes))
