-- The steps of `number_to`.
use Rattle.std.proofs.Common.{◌≡◌, ℕ, ◌+◌, ◌-◌, ◌*◌, ◌<◌, ◌≤◌, true, ◌&&◌, List, length, get_or, take, drop, ap, ◌∙◌, arith}
use Rattle.std.specs.Str.{all_ascii_digits}
use Rattle.std.specs.Char.{is_ascii_digit, digit_value as digitValue}
use Rattle.std.specs.Str.Parse.{digits_value}
use Rattle.std.proofs.lemmas.Int.Digits.{digits_value_more}
use Rattle.std.proofs.lemmas.List.{at_drop_more}
use Rattle.std.proofs.lemmas.Bool.Decides.{nat_tests}

digit_true : (x : ℕ) → 48 ≤ x → x ≤ 57 → is_ascii_digit x ≡ true
digit_true x low high = grind (arith, nat_tests)

digit_value : (x : ℕ) → 48 ≤ x → x ≤ 57 → digitValue x ≡ x - 48
digit_value x low high = grind (arith, nat_tests)

pub digits_on : (bs : List ℕ) (i : ℕ) → i < length bs → 48 ≤ get_or bs i 0 → get_or bs i 0 ≤ 57 → all_ascii_digits (drop i bs) ≡ all_ascii_digits (drop (i + 1) bs)
digits_on bs i h low high = at_drop_more all_ascii_digits bs i 0 h ∙ ap (λ t. t && all_ascii_digits (drop (i + 1) bs)) (digit_true _ low high)

pub value_on : (bs : List ℕ) (i : ℕ) → i < length bs → 48 ≤ get_or bs i 0 → get_or bs i 0 ≤ 57 → digits_value 10 (take (i + 1) bs) ≡ digits_value 10 (take i bs) * 10 + (get_or bs i 0 - 48)
value_on bs i h low high = digits_value_more 10 bs i h ∙ ap (λ d. digits_value 10 (take i bs) * 10 + d) (digit_value _ low high)
