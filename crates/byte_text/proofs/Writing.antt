-- One write after another, and the digits of a number.
use Rattle.std.proofs.Common.{◌≡◌, ℕ, zero, suc, ◌+◌, ◌*◌, ◌/◌, ◌%◌, ◌^◌, ◌<◌, ◌≤◌, true, List, ◌∷◌, ◌++◌, length, take, drop, ℤ, pos, negsuc, nat_abs, decimal, sym, refl, ap, ◌∙◌, arith, length-append, length-drop}
use Rattle.std.specs.Fmt.{signed_decimal}
use Rattle.std.proofs.lemmas.List.{length-take-le, length_push}
use Rattle.std.proofs.lemmas.Fmt.{decimal_digit, decimal_step, decimal_nonempty, length-decimal-le}
use Rattle.byte_text.specs.Lines.{written}
use lib.Signed.{lt_z}
use Rattle.std.proofs.lemmas.Int.{ints}
use Rattle.std.proofs.Math.Nat.{pow-succ', one-le-pow}

pub length_written : (buf : List ℕ) (at : ℕ) (ds : List ℕ) → at + length ds ≤ length buf → length (written buf at ds) ≡ length buf
length_written buf at ds h =
    let t = length-take-le at buf (omega arith) in
    let d = length-drop (at + length ds) buf in
    let a = length-append (take at buf) (ds ++ drop (at + length ds) buf) in
    let b = length-append ds (drop (at + length ds) buf) in
    omega arith

pub length_digit : (n : ℕ) → n < 10 → 1 ≡ length (decimal n)
length_digit n h = sym (ap length (decimal_digit n h))

pub length_step : (n : ℕ) → 10 ≤ n → n < 2 ^ 64 → length (decimal (n / 10)) + 1 ≡ length (decimal n)
length_step n h f = sym (ap length (decimal_step n h f) ∙ length_push (decimal (n / 10)) (48 + n % 10))

pub length_most : (n : ℕ) → n < 2 ^ 64 → length (decimal n) ≤ 20
length_most n f = length-decimal-le 20 n (omega arith) (omega arith) f

length_least : (k n : ℕ) → 10 ^ k ≤ n → n < 2 ^ 64 → k + 1 ≤ length (decimal n)
length_least zero n h f = omega (arith, decimal_nonempty n f)
length_least (suc k) n h f =
    let p = pow-succ' 10 k in
    let q = one-le-pow k 10 (omega arith) in
    let e = length_step n (omega arith) f in
    let r = length_least k (n / 10) (omega arith) (omega arith) in
    omega arith

pub length_log : (k n : ℕ) → 10 ^ k ≤ n → n < 10 * 10 ^ k → n < 2 ^ 64 → k + 1 ≡ length (decimal n)
length_log k n h g f =
    let l = length_least k n h f in
    let m = length-decimal-le (suc k) n (omega arith) (omega (arith, pow-succ' 10 k)) f in
    omega arith

below : (z : ℤ) → lt_z z (pos 0) ≡ true → 45 ∷ decimal (nat_abs z) ≡ signed_decimal z
below (pos n) h = absurd (grind (arith, ints))
below (negsuc n) h = refl

pub signed_below : (y z : ℤ) (n : ℕ) → y ≡ z → lt_z y (pos 0) ≡ true → n ≡ nat_abs y → 45 ∷ decimal n ≡ signed_decimal z
signed_below y z n e h k = ap (λ m. 45 ∷ decimal m) k ∙ below y h ∙ ap signed_decimal e
