-- Bounds at a multiple of the scale
use Rattle.std.proofs.Common.{◌≡◌, ℕ, ◌*◌, ◌≤◌, true, false, ℤ, pos, ◌+ℤ◌, ◌*ℤ◌, ◌≤ℤ◌, ◌<ℤ◌, ap, ◌∙◌, mul_assoc, mul_comm, add-mul, arith}
use borrow.Author.Differences.{ints, up, down}
use Rattle.std.proofs.lemmas.Int.{by_lt_z}
use Rattle.bounds.specs.Bounds.{UpperBound, none, upto, Meets}
use Rattle.bounds.specs.Laws.{times_is, times_le, times_plus}

pub times_times : (c : ℤ) (D m : ℕ) → (c *ℤ pos D) *ℤ pos m ≡ c *ℤ pos (m * D)
times_times c D m =
    let u : up c * D * m ≡ up c * (m * D) = mul_assoc (up c) D m ∙ ap (λ k. up c * k) (mul_comm D m) in
    let d : down c * D * m ≡ down c * (m * D) = mul_assoc (down c) D m ∙ ap (λ k. down c * k) (mul_comm D m) in
    omega (arith, ints, times_is (c *ℤ pos D) m, times_is c (m * D), ap (λ k. k * m) (times_is c D), add-mul (up (c *ℤ pos D)) (down c * D) m, add-mul (down (c *ℤ pos D)) (up c * D) m)

times_lt : (a b : ℤ) (m : ℕ) → 1 ≤ m → a <ℤ b → (a *ℤ pos m) <ℤ (b *ℤ pos m)
times_lt a b m big h =
    let q : (a +ℤ pos 1) ≤ℤ b = omega (arith, ints) in
    omega (arith, ints, times_le (a +ℤ pos 1) b m q, times_plus a (pos 1) m, times_is (pos 1) m)

-- meeting a bound survives a change of scale, both ways
pub meets_up : (m D : ℕ) → 1 ≤ m → (d : ℤ) (b : UpperBound) → Meets D d b → Meets (m * D) (d *ℤ pos m) b
unfolding Meets
meets_up m D big d none h = tt
meets_up m D big d (upto true c) h = omega (arith, ints, times_le d (c *ℤ pos D) m h, times_times c D m)
meets_up m D big d (upto false c) h = omega (arith, ints, times_lt d (c *ℤ pos D) m big h, times_times c D m)

pub meets_down : (m D : ℕ) → 1 ≤ m → (d : ℤ) (b : UpperBound) → Meets (m * D) (d *ℤ pos m) b → Meets D d b
unfolding Meets
meets_down m D big d none h = tt
meets_down m D big d (upto true c) h = by_lt_z (c *ℤ pos D) d
    (λ l. absurd (omega (arith, ints, times_lt (c *ℤ pos D) d m big l, times_times c D m))) (λ l. l)
meets_down m D big d (upto false c) h = by_lt_z d (c *ℤ pos D) (λ l. l)
    (λ l. absurd (omega (arith, ints, times_le (c *ℤ pos D) d m l, times_times c D m)))
