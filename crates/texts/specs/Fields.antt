-- What the readers of numbers and clock lists answer.
use Rattle.std.specs.Prelude.{ℕ, ◌+◌, ◌-◌, Bool, true, false, cond, ◌&&◌, List, [], ◌∷◌, length, replicate, Some, None, Ok, Err, Option, Result, ◌==◌, nat_le, slice_index, slice_set}
use Rattle.std.specs.Str.Parse.{digits_value}
use Rattle.bounds.specs.declared.refusal.Refusal.{Refusal}
use Rattle.bounds.specs.declared.refusal.Refusal.TheVariants.{Number, Name}
use Rattle.zones.specs.declared.boxes.ClockBox.{ClockBox}
use Rattle.byte_text.specs.Numerals.{numeral, number_to}
use Rattle.byte_text.specs.Parts.{Place, place, parted}
use Rattle.texts.specs.declared.fault.TextFault.{TextFault}
use Rattle.texts.specs.declared.field.Field.{Field}
use Rattle.texts.specs.declared.field.Field.TheVariants as variants
use Rattle.texts.specs.declared.spot.Spot.TheVariants as spots
use Rattle.texts.specs.Faults.{Fault, fault, refused, on}

-- a field, with its part as a place
pub data Shown : Type 0 where
  word : Place → Shown
  number : ℕ → Place → Shown
  clocks : List Bool → Place → Shown
  bounds : ClockBox → Place → Shown

abbrev pub shown : Field → Shown
shown (variants.Word p) = word (place p)
shown (variants.Number n p) = number n (place p)
shown (variants.Clocks ms p) = clocks ms (place p)
shown (variants.Bounds b p) = bounds b (place p)

abbrev pub seen_field : Result Field TextFault → Result Shown Fault
seen_field (Ok f) = Ok (shown f)
seen_field (Err f) = Err (fault f)

-- what was read from a field p; a refusal is a fault of that field
abbrev pub in_field : {X : Type 0} → ℕ → ℕ → Place → Result X Refusal → Result X Fault
in_field line field p (Ok x) = Ok x
in_field line field p (Err r) = refused r (spots.Field line field) p

-- a number from low to high: else `Number` where it is no numeral, and `out` where it lies outside
abbrev pub in_range : ℕ → ℕ → Refusal → ℕ → ℕ → Place → Option ℕ → Result Shown Fault
in_range low high out line field p None = refused Number (spots.Field line field) p
in_range low high out line field p (Some v) = cond (nat_le low v && nat_le v high) (Ok (number v p)) (refused out (spots.Field line field) p)

abbrev pub number_field : ℕ → ℕ → Refusal → ℕ → ℕ → Place → Result Shown Fault
number_field low high out line field p = in_range low high out line field p (number_to (high + 1) p.bytes)

abbrev pub numerals : List Place → Bool
numerals [] = true
numerals (p ∷ ps) = numeral p.bytes && numerals ps

-- each writes a clock from 1 to n
abbrev pub named : ℕ → List Place → Bool
named n [] = true
named n (p ∷ ps) = (nat_le 1 (digits_value 10 p.bytes) && nat_le (digits_value 10 p.bytes) n) && named n ps

-- the marks ms with those that ps name
abbrev pub marked : List Bool → List Place → List Bool
marked ms [] = ms
marked ms (p ∷ ps) = marked (slice_set ms (digits_value 10 p.bytes - 1) true) ps

abbrev pub clocks_from : ℕ → Bool → List Bool → List Place → Result (List Bool) Refusal
clocks_from n ok ms ps = cond (numerals ps) (cond (ok && named n ps) (Ok (marked ms ps)) (Err Name)) (Err Number)

-- the place of a clock from 1 to n, from 0
abbrev pub named_clock : ℕ → ℕ → Option ℕ
named_clock n c = cond (nat_le 1 c && nat_le c n) (Some (c - 1)) None

abbrev pub marked_at : List Bool → Option ℕ → Option (List Bool)
marked_at ms None = None
marked_at ms (Some k) = Some (slice_set ms k true)

-- the marks with the clock that one item names: none where it names no clock from 1 to n
abbrev pub clock_with : ℕ → List Bool → Option ℕ → Result (Option (List Bool)) Refusal
clock_with n ms None = Err Number
clock_with n ms (Some c) = Ok (marked_at ms (named_clock n c))

abbrev pub clock_item : ℕ → List Bool → List ℕ → Result (Option (List Bool)) Refusal
clock_item n ms bs = clock_with n ms (number_to (n + 1) bs)

abbrev pub dash : List ℕ → Bool
dash bs = length bs == 1 && slice_index bs 0 == 45

abbrev pub clock_list : ℕ → Place → Result (List Bool) Refusal
clock_list n p = cond (dash p.bytes) (Ok (replicate 8 false)) (clocks_from n true (replicate 8 false) (parted 44 p.at p.bytes))

abbrev pub listed : ℕ → ℕ → Place → Result (List Bool) Refusal → Result Shown Fault
listed line field p r = on (in_field line field p r) (λ ms. Ok (clocks ms p))

abbrev pub clocks_field : ℕ → ℕ → ℕ → Place → Result Shown Fault
clocks_field n line field p = listed line field p (clock_list n p)
