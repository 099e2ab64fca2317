-- What a list of items parted by commas reads as, from what one item makes of it.
use Rattle.std.specs.Prelude.{ℕ, Bool, true, false, cond, List, [], ◌∷◌, Some, None, Ok, Err, Option, Result, map}
use Rattle.bounds.specs.declared.refusal.Refusal.{Refusal}
use Rattle.bounds.specs.declared.refusal.Refusal.TheVariants.{Name}
use Rattle.byte_text.specs.Parts.{Place, parted}
use Rattle.texts.specs.Fields.{dash}

-- on with the list that an item makes of x; an item that names no clock leaves it as it is, and only the flag tells
abbrev pub item_with : {X : Type 0} → Bool → X → Result (Option X) Refusal → (Bool → X → Result X Refusal) → Result X Refusal
item_with ok x (Err r) go = Err r
item_with ok x (Ok None) go = go false x
item_with ok x (Ok (Some y)) go = go ok y

unfoldable pub items_from : {X : Type 0} → (X → List ℕ → Result (Option X) Refusal) → Bool → X → List (List ℕ) → Result X Refusal
items_from item ok x [] = cond ok (Ok x) (Err Name)
items_from item ok x (bs ∷ bss) = item_with ok x (item x bs) (λ ok' y. items_from item ok' y bss)

abbrev pub bytes_of : List Place → List (List ℕ)
bytes_of ps = map (λ (p : Place). p.bytes) ps

-- the list that starts as x and has the items of p, or `-` for none
unfoldable pub items_of : {X : Type 0} → (X → List ℕ → Result (Option X) Refusal) → X → Place → Result X Refusal
items_of item x p = cond (dash p.bytes) (Ok x) (items_from item true x (bytes_of (parted 44 p.at p.bytes)))
