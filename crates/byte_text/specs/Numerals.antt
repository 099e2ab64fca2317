-- Numbers written in decimal digits.
use Rattle.std.specs.Prelude.{ℕ, min, Bool, cond, not, ◌&&◌, ◌||◌, List, length, Some, None, Option, ◌==◌, nat_le, nat_lt, slice_index}
use Rattle.std.specs.Str.{all_ascii_digits}
use Rattle.std.specs.Str.Parse.{digits_value}

-- digits, one or more, with no needless 0 in front
abbrev pub numeral : List ℕ → Bool
numeral bs = nat_lt 0 (length bs) && (all_ascii_digits bs && (not (slice_index bs 0 == 48) || nat_le (length bs) 1))

-- the number that bs writes, or top where it is larger; none where bs is no numeral
abbrev pub number_to : ℕ → List ℕ → Option ℕ
number_to top bs = cond (numeral bs) (Some (min (digits_value 10 bs) top)) None
