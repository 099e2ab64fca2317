use Rattle.std.proofs.Common.{◌≡◌, min, take, drop}
use Rattle.std.specs.Str.{all_ascii_digits}
use Rattle.std.specs.Str.Parse.{digits_value}
use Rattle.byte_text.proofs.numerals.number_to.Given as goal

abbrev pub invariant-loop-b : goal.invariant-loop-b
invariant-loop-b l = (all_ascii_digits l.bytes ≡ all_ascii_digits (drop l.b-index l.bytes)) × (l.number ≡ min (digits_value 10 (take l.b-index l.bytes)) l.top)
