-- What the reader of a box answers.
use Rattle.std.specs.Prelude.{ℕ, suc, ◌+◌, ◌-◌, Bool, true, false, cond, not, ◌&&◌, ◌||◌, List, [], ◌∷◌, length, take, drop, replicate, pos, Some, None, Ok, Err, Option, Result, ◌==◌, int_lt, nat_le, nat_lt, slice_index, slice_index_or, slice_set}
use Rattle.bounds.specs.declared.bound.Bound.{Bound}
use Rattle.bounds.specs.declared.refusal.Refusal.{Refusal}
use Rattle.bounds.specs.declared.refusal.Refusal.TheVariants.{Number, Name}
use Rattle.zones.specs.declared.boxes.Side.{Side}
use Rattle.zones.specs.Boxes.{no_side}
use Rattle.byte_text.specs.Numerals.{number_to}
use Rattle.byte_text.specs.Parts.{Place, parted}
use Rattle.texts.specs.declared.boxes.ClockBound.{ClockBound}
use Rattle.texts.specs.Faults.{Fault, on}
use Rattle.texts.specs.Fields.{Shown, bounds, dash, named_clock, in_field}

-- `<` or `>`
abbrev pub is_sign : ℕ → Bool
is_sign x = x == 60 || x == 62

-- how many bytes stand before the first `<` or `>`, or all
abbrev pub up_to_sign : List ℕ → ℕ
up_to_sign [] = 0
up_to_sign (x ∷ xs) = cond (x == 60 || x == 62) 0 (suc (up_to_sign xs))

-- a bound with a number from 0 to 1,000,000; every clock above 8 counts as 9
abbrev pub bound_from : Bool → Bool → Option ℕ → Option ℕ → Option ClockBound
bound_from upper closed None o = None
bound_from upper closed (Some c) None = None
bound_from upper closed (Some c) (Some v) = cond (nat_le v 1000000) (Some (record { clock = c; upper = upper; bound = record { number = pos v; closed = closed } })) None

abbrev pub bound_with : Bool → Bool → List ℕ → List ℕ → Option ClockBound
bound_with upper closed clock number = bound_from upper closed (number_to 9 clock) (number_to 1000001 number)

-- after the sign, with or without `=`
abbrev pub bound_after : Bool → List ℕ → List ℕ → Option ClockBound
bound_after upper clock rest = cond (slice_index rest 0 == 61) (bound_with upper true clock (drop 1 rest)) (bound_with upper false clock rest)

-- a clock, a sign and a number
abbrev pub bound_in : List ℕ → Option ClockBound
bound_in bs =
    cond (nat_lt (up_to_sign bs) (length bs))
    (bound_after (slice_index bs (up_to_sign bs) == 60) (take (up_to_sign bs) bs) (drop (up_to_sign bs + 1) bs))
    None

-- the new bound asks more than the old: of upper bounds the smaller number does, of lower bounds the larger, and at equal numbers the strict one
abbrev pub tighter : Bool → Bound → Bound → Bool
tighter upper new old = cond (int_lt new.number old.number) upper (cond (int_lt old.number new.number) (not upper) (not new.closed && old.closed))

abbrev pub tightest : Bool → Option Bound → Bound → Option Bound
tightest upper None new = Some new
tightest upper (Some old) new = cond (tighter upper new old) (Some new) (Some old)

abbrev pub side_with : Side → Bool → Bound → Side
side_with s true b = record { lower = s.lower; upper = tightest true s.upper b }
side_with s false b = record { lower = tightest false s.lower b; upper = s.upper }

-- no bound on any clock
abbrev pub no_sides : List Side
no_sides = replicate 8 no_side

-- the sides with one bound more
unfoldable pub tightened : List Side → ClockBound → List Side
tightened sides m = slice_set sides (m.clock - 1) (side_with (slice_index_or sides (m.clock - 1) no_side) m.upper m.bound)

abbrev pub tightened_at : List Side → ClockBound → Option ℕ → Option (List Side)
tightened_at sides m None = None
tightened_at sides m (Some k) = Some (slice_set sides k (side_with (slice_index_or sides k no_side) m.upper m.bound))

-- the sides with the bound that one item writes: none where it is on no clock from 1 to n
abbrev pub bound_with_clock : ℕ → List Side → Option ClockBound → Result (Option (List Side)) Refusal
bound_with_clock n sides None = Err Number
bound_with_clock n sides (Some m) = Ok (tightened_at sides m (named_clock n m.clock))

abbrev pub bound_item : ℕ → List Side → List ℕ → Result (Option (List Side)) Refusal
bound_item n sides bs = bound_with_clock n sides (bound_in bs)

-- what the bounds from here on make of the sides so far; `ok` says whether all clocks so far exist
abbrev pub box_with : ℕ → Bool → List Side → Option ClockBound → (Bool → List Side → Result (List Side) Refusal) → Result (List Side) Refusal
box_with n ok sides None go = Err Number
box_with n ok sides (Some m) go = cond (nat_le 1 m.clock && nat_le m.clock n) (go ok (tightened sides m)) (go false sides)

unfoldable pub box_from : ℕ → Bool → List Side → List Place → Result (List Side) Refusal
box_from n ok sides [] = cond ok (Ok sides) (Err Name)
box_from n ok sides (p ∷ ps) = box_with n ok sides (bound_in p.bytes) (λ ok' sides'. box_from n ok' sides' ps)

-- the sides that the text of a box writes, of a plan with n clocks
unfoldable pub box_of : ℕ → Place → Result (List Side) Refusal
box_of n p = cond (dash p.bytes) (Ok no_sides) (box_from n true no_sides (parted 44 p.at p.bytes))

abbrev pub boxed : ℕ → ℕ → Place → Result (List Side) Refusal → Result Shown Fault
boxed line field p r = on (in_field line field p r) (λ sides. Ok (bounds (record { sides = sides }) p))

abbrev pub box_field : ℕ → ℕ → ℕ → Place → Result Shown Fault
box_field n line field p = boxed line field p (box_of n p)
