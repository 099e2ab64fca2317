-- A clock list as a list of items.
use Rattle.std.proofs.Common.{◌≡◌, ℕ, ◌+◌, min, Bool, true, false, cond, ◌&&◌, List, [], ◌∷◌, replicate, Some, None, Ok, Err, refl, ap, ◌∙◌, arith}
use Rattle.std.specs.Str.Parse.{digits_value}
use Rattle.std.proofs.lemmas.Bool.Decides.{nat_tests}
use Rattle.bounds.specs.declared.refusal.Refusal.TheVariants.{Name}
use Rattle.byte_text.specs.Numerals.{numeral, number_to}
use Rattle.byte_text.specs.Parts.{Place, parted}
use Rattle.texts.specs.Fields.{clocks_from, clock_with, clock_item, clock_list, dash}
use Rattle.texts.specs.Items.{item_with, items_from, items_of, bytes_of}

-- what number_to tells
pub numeral_none : (top : ℕ) (bs : List ℕ) → None ≡ number_to top bs → numeral bs ≡ false
numeral_none top bs e = grind arith

pub numeral_some : (top v : ℕ) (bs : List ℕ) → Some v ≡ number_to top bs → (numeral bs ≡ true) × (v ≡ min (digits_value 10 bs) top)
numeral_some top v bs e = grind arith

-- one item and those after it
clock_step : (n : ℕ) (ok : Bool) (ms : List Bool) (p : Place) (ps : List Place) → item_with ok ms (clock_item n ms p.bytes) (λ ok' ms'. clocks_from n ok' ms' ps) ≡ clocks_from n ok ms (p ∷ ps)
clock_step n ok ms p ps = elim (number_to (n + 1) p.bytes) as (λ o. o ≡ number_to (n + 1) p.bytes → item_with ok ms (clock_with n ms o) (λ ok' ms'. clocks_from n ok' ms' ps) ≡ clocks_from n ok ms (p ∷ ps)) [
  | None ↦ λ e. let h = numeral_none (n + 1) p.bytes e in grind arith
  | Some v ↦ λ e. let h = numeral_some (n + 1) v p.bytes e in grind (arith, nat_tests)
] refl

clocks_from_items : (n : ℕ) (ok : Bool) (ms : List Bool) (ps : List Place) → items_from (clock_item n) ok ms (bytes_of ps) ≡ clocks_from n ok ms ps
unfolding items_from
clocks_from_items n ok ms [] = elim ok as (λ t. cond t (Ok ms) (Err Name) ≡ cond (t && true) (Ok ms) (Err Name)) [ true ↦ refl | false ↦ refl ]
clocks_from_items n ok ms (p ∷ ps) = (λ i. item_with ok ms (clock_item n ms p.bytes) (λ ok' y. clocks_from_items n ok' y ps i)) ∙ clock_step n ok ms p ps

pub clocks_are_items : (n : ℕ) (p : Place) → items_of (clock_item n) (replicate 8 false) p ≡ clock_list n p
unfolding items_of
clocks_are_items n p = ap (cond (dash p.bytes) (Ok (replicate 8 false))) (clocks_from_items n true (replicate 8 false) (parted 44 p.at p.bytes))
