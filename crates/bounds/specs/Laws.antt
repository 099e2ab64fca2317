-- The laws of bounds
use Rattle.std.specs.Prelude.{◌≡◌, ℕ, ◌+◌, ◌*◌, ◌≤◌, min, Bool, true, false, ◌&&◌, ◌⊎◌, ℤ, pos, negsuc, ◌+ℤ◌, ◌*ℤ◌, ◌≤ℤ◌, refl}
use Rattle.std.proofs.Common.{ap, ◌∙◌, inl, inr, arith, mul-le-mul_right, add-mul}
use borrow.Author.Differences.{ints, up, down}
use Rattle.std.proofs.lemmas.Int.{by_lt_z}
use Rattle.bounds.specs.Bounds.{UpperBound, none, upto, plus, level, Meets, Tight, bit}

-- ---- numbers
pub times_is : (c : ℤ) (D : ℕ) → up (c *ℤ pos D) + down c * D ≡ down (c *ℤ pos D) + up c * D
times_is (pos n) D = omega arith
times_is (negsuc n) D = omega (arith, ints)

pub times_le : (a b : ℤ) (D : ℕ) → a ≤ℤ b → (a *ℤ pos D) ≤ℤ (b *ℤ pos D)
times_le a b D h =
    let k : up a + down b ≤ up b + down a = omega (arith, ints) in
    omega (arith, ints, times_is a D, times_is b D, mul-le-mul_right D k, add-mul (up a) (down b) D, add-mul (up b) (down a) D)

pub times_plus : (a b : ℤ) (D : ℕ) → (a +ℤ b) *ℤ pos D ≡ a *ℤ pos D +ℤ b *ℤ pos D
times_plus a b D =
    let k : up (a +ℤ b) + (down a + down b) ≡ down (a +ℤ b) + (up a + up b) = omega (arith, ints) in
    omega (arith, ints, times_is a D, times_is b D, times_is (a +ℤ b) D, ap (λ n. n * D) k, add-mul (up (a +ℤ b)) (down a + down b) D, add-mul (down (a +ℤ b)) (up a + up b) D, add-mul (up a) (up b) D, add-mul (down a) (down b) D)

-- ---- the monoid
and_assoc : (r s t : Bool) → ((r && s) && t) ≡ (r && (s && t))
and_assoc true s t = refl
and_assoc false s t = refl

and_comm : (s t : Bool) → (s && t) ≡ (t && s)
and_comm true true = refl
and_comm true false = refl
and_comm false true = refl
and_comm false false = refl

pub plus_assoc : (a b c : UpperBound) → plus (plus a b) c ≡ plus a (plus b c)
unfolding plus
plus_assoc none b c = refl
plus_assoc (upto r a) none c = refl
plus_assoc (upto r a) (upto s b) none = refl
plus_assoc (upto r a) (upto s b) (upto t c) = ap (λ q. upto q ((a +ℤ b) +ℤ c)) (and_assoc r s t) ∙ ap (upto (r && (s && t))) (omega (arith, ints))

pub plus_comm : (a b : UpperBound) → plus a b ≡ plus b a
unfolding plus
plus_comm none none = refl
plus_comm none (upto t b) = refl
plus_comm (upto s a) none = refl
plus_comm (upto s a) (upto t b) = ap (λ q. upto q (a +ℤ b)) (and_comm s t) ∙ ap (upto (t && s)) (omega (arith, ints))

pub plus_level : (a : UpperBound) → plus level a ≡ a
unfolding plus
plus_level none = refl
plus_level (upto s a) = ap (upto s) (omega (arith, ints))

-- ---- the order
bit_1 : (s : Bool) → bit s ≤ 1
bit_1 true = omega arith
bit_1 false = omega arith

bit_and : (s t : Bool) → bit (s && t) ≡ min (bit s) (bit t)
bit_and true true = refl
bit_and true false = refl
bit_and false true = refl
bit_and false false = refl

pub tight_refl : (a : UpperBound) → Tight a a
unfolding Tight
tight_refl none = tt
tight_refl (upto s a) = omega (arith, ints)

pub tight_trans : (a b c : UpperBound) → Tight a b → Tight b c → Tight a c
unfolding Tight
tight_trans a b none h k = tt
tight_trans a none (upto t c) h k = absurd k
tight_trans none (upto s b) (upto t c) h k = absurd h
tight_trans (upto r a) (upto s b) (upto t c) h k = omega (arith, ints)

pub tight_total : (a b : UpperBound) → Tight a b ⊎ Tight b a
unfolding Tight
tight_total a none = inl tt
tight_total none (upto t b) = inr tt
tight_total (upto s a) (upto t b) = by_lt_z ((a +ℤ a) +ℤ pos (bit s)) ((b +ℤ b) +ℤ pos (bit t)) (λ h. inl (omega (arith, ints))) (λ h. inr h)

pub tight_same : (a b : UpperBound) → Tight a b → Tight b a → a ≡ b
unfolding Tight
tight_same none none h k = refl
tight_same none (upto t b) h k = absurd h
tight_same (upto s a) none h k = absurd k
tight_same (upto true a) (upto true b) h k = ap (upto true) (omega (arith, ints))
tight_same (upto true a) (upto false b) h k = absurd (omega (arith, ints))
tight_same (upto false a) (upto true b) h k = absurd (omega (arith, ints))
tight_same (upto false a) (upto false b) h k = ap (upto false) (omega (arith, ints))

pub tight_plus : (a a' b b' : UpperBound) → Tight a a' → Tight b b' → Tight (plus a b) (plus a' b')
unfolding Tight plus
tight_plus a none b b' h k = tt
tight_plus a (upto s' x') b none h k = tt
tight_plus none (upto s' x') b (upto t' y') h k = absurd h
tight_plus (upto s x) (upto s' x') none (upto t' y') h k = absurd k
tight_plus (upto s x) (upto s' x') (upto t y) (upto t' y') h k =
    omega (arith, ints, bit_1 s, bit_1 s', bit_1 t, bit_1 t', bit_and s t, bit_and s' t')

-- ---- what is met
pub meets_plus : (D : ℕ) (x y : ℤ) (a b : UpperBound) → Meets D x a → Meets D y b → Meets D (x +ℤ y) (plus a b)
unfolding Meets plus
meets_plus D x y none b h k = tt
meets_plus D x y (upto s a) none h k = tt
meets_plus D x y (upto true a) (upto true b) h k = omega (arith, ints, times_plus a b D)
meets_plus D x y (upto true a) (upto false b) h k = omega (arith, ints, times_plus a b D)
meets_plus D x y (upto false a) (upto true b) h k = omega (arith, ints, times_plus a b D)
meets_plus D x y (upto false a) (upto false b) h k = omega (arith, ints, times_plus a b D)

pub meets_looser : (D : ℕ) → 1 ≤ D → (d : ℤ) (a b : UpperBound) → Tight a b → Meets D d a → Meets D d b
unfolding Meets Tight
meets_looser D p d a none t h = tt
meets_looser D p d none (upto t' b) t h = absurd t
meets_looser D p d (upto true a) (upto true b) t h = let q : a ≤ℤ b = omega (arith, ints) in omega (arith, ints, times_le a b D q)
meets_looser D p d (upto true a) (upto false b) t h = let q : (a +ℤ pos 1) ≤ℤ b = omega (arith, ints) in omega (arith, ints, times_le (a +ℤ pos 1) b D q, times_plus a (pos 1) D, times_is (pos 1) D)
meets_looser D p d (upto false a) (upto true b) t h = let q : a ≤ℤ b = omega (arith, ints) in omega (arith, ints, times_le a b D q)
meets_looser D p d (upto false a) (upto false b) t h = let q : a ≤ℤ b = omega (arith, ints) in omega (arith, ints, times_le a b D q)
