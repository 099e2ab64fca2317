-- Whether a difference of two readings meets a bound, in whole numbers
use Rattle.std.proofs.Common.{◌≡◌, ℕ, ◌+◌, ◌*◌, ◌/◌, ◌%◌, ◌<◌, ◌≤◌, true, false, ltb, leb, ℤ, pos, negsuc, ◌-ℤ◌, ◌*ℤ◌, sym, ap, ◌∙◌, subst, arith}
use borrow.Author.Differences.{ints}
use Rattle.std.proofs.lemmas.Bool.{leb-true, ltb-true, le-leb, lt-ltb, eq-eqb, ne_eqb}
use Rattle.bounds.specs.Bounds.{upto, Meets}
use Rattle.bounds.specs.Laws.{times_is, times_plus}
use Rattle.zones.specs.Codes.{decode}
use Rattle.zones.proofs.Decoding.{decode_below, decode_none}

product : (n D : ℕ) → (pos n -ℤ pos 16777216) *ℤ pos D ≡ pos (n * D) -ℤ pos (16777216 * D)
product n D = omega (arith, ints, times_plus (pos n) (negsuc 16777215) D, times_is (pos n) D, times_is (negsuc 16777215) D)

pub met_none : (k D : ℕ) (d : ℤ) → 4294967295 ≤ k → Meets D d (decode k)
unfolding Meets
met_none k D d h = subst (Meets D d) (sym (decode_none k h)) tt

closed_is : (k : ℕ) → k < 4294967295 → k % 2 ≡ 1 → decode k ≡ upto true (pos (k / 2) -ℤ pos 16777216)
closed_is k h e = decode_below k h ∙ ap (λ b. upto b (pos (k / 2) -ℤ pos 16777216)) (eq-eqb (k % 2) 1 e)

open_is : (k : ℕ) → k < 4294967295 → (k % 2 ≡ 1 → ⊥) → decode k ≡ upto false (pos (k / 2) -ℤ pos 16777216)
open_is k h e = decode_below k h ∙ ap (λ b. upto b (pos (k / 2) -ℤ pos 16777216)) (ne_eqb (k % 2) 1 e)

pub met_closed : (k D a b : ℕ) → k < 4294967295 → k % 2 ≡ 1
    → (leb (a + 16777216 * D) (b + (k / 2) * D) ≡ true → Meets D (pos a -ℤ pos b) (decode k)) × (Meets D (pos a -ℤ pos b) (decode k) → leb (a + 16777216 * D) (b + (k / 2) * D) ≡ true)
unfolding Meets
met_closed k D a b h e = (
  λ t. subst (Meets D (pos a -ℤ pos b)) (sym (closed_is k h e)) (let l = leb-true (a + 16777216 * D) (b + (k / 2) * D) t in omega (arith, ints, product (k / 2) D)),
  λ m. let w = subst (Meets D (pos a -ℤ pos b)) (closed_is k h e) m in le-leb _ _ (omega (arith, ints, w, product (k / 2) D)),
)

pub met_open : (k D a b : ℕ) → k < 4294967295 → (k % 2 ≡ 1 → ⊥)
    → (ltb (a + 16777216 * D) (b + (k / 2) * D) ≡ true → Meets D (pos a -ℤ pos b) (decode k)) × (Meets D (pos a -ℤ pos b) (decode k) → ltb (a + 16777216 * D) (b + (k / 2) * D) ≡ true)
unfolding Meets
met_open k D a b h e = (
  λ t. subst (Meets D (pos a -ℤ pos b)) (sym (open_is k h e)) (let l = ltb-true (a + 16777216 * D) (b + (k / 2) * D) t in omega (arith, ints, product (k / 2) D)),
  λ m. let w = subst (Meets D (pos a -ℤ pos b)) (open_is k h e) m in lt-ltb _ _ (omega (arith, ints, w, product (k / 2) D)),
)
