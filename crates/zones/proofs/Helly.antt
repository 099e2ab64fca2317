-- One more clock: where every lower and every upper bound on it agree two by two, one value meets them all, at some multiple of the scale
use Rattle.std.proofs.Common.{◌≡◌, ℕ, zero, suc, ◌*◌, ◌<◌, ◌≤◌, Bool, true, false, ℤ, pos, negsuc, ◌+ℤ◌, ◌-ℤ◌, ◌*ℤ◌, neg_ℤ, ◌≤ℤ◌, sym, refl, ap, ◌∙◌, subst, ⊎_elim, mul_assoc, mul_comm, add-mul, arith}
use borrow.Author.Differences.{ints, up, down}
use Rattle.std.proofs.lemmas.Bool.{cases_order}
use Rattle.bounds.specs.Bounds.{UpperBound, none, upto, Meets, Tight}
use Rattle.bounds.specs.Domains.{Split}
use Rattle.bounds.specs.Laws.{tight_refl, tight_trans, tight_total, meets_looser, times_is, times_le, times_plus}

-- the tightest of the first n + 1
pub tightest_of : (L : ℕ → UpperBound) (n : ℕ) → (j : ℕ) × (j < suc n) × ((k : ℕ) → k < suc n → Tight (L j) (L k))
tightest_of L zero = (0, omega arith, λ k h. let e : 0 ≡ k = omega arith in subst (λ t. Tight (L 0) (L t)) e (tight_refl (L 0)))
tightest_of L (suc n) =
    let r = tightest_of L n in
    let j = r.0 in
    ⊎_elim {C = (j : ℕ) × (j < suc (suc n)) × ((k : ℕ) → k < suc (suc n) → Tight (L j) (L k))}
    (λ t. (j, omega (arith, r.1), λ k h. pick (λ m. Tight (L j) (L m)) n k h r.2 t))
    (λ t. (suc n, omega arith, λ k h. pick (λ m. Tight (L (suc n)) (L m)) n k h (λ m g. tight_trans _ _ _ t (r.2 m g)) (tight_refl (L (suc n)))))
    (tight_total (L j) (L (suc n)))
  where
    pick : (P : ℕ → Type 0) (n k : ℕ) → k < suc (suc n) → ((m : ℕ) → m < suc n → P m) → P (suc n) → P k
    pick P n k h f g = ⊎_elim {C = P k} (λ e. subst P (sym e) g) (λ o. f k (⊎_elim {C = k < suc n} (λ a. a) (λ a. absurd (omega arith)) o)) (cases_order k (suc n))

-- x - q m meets b at the scale m D where x meets this at the scale m
unfoldable shift : ℕ → ℤ → UpperBound → UpperBound
shift D q none = none
shift D q (upto s c) = upto s (q +ℤ (c *ℤ pos D))

pub times_times : (c : ℤ) (D m : ℕ) → (c *ℤ pos D) *ℤ pos m ≡ c *ℤ pos (m * D)
times_times c D m =
    let u : up c * D * m ≡ up c * (m * D) = mul_assoc (up c) D m ∙ ap (λ k. up c * k) (mul_comm D m) in
    let d : down c * D * m ≡ down c * (m * D) = mul_assoc (down c) D m ∙ ap (λ k. down c * k) (mul_comm D m) in
    omega (arith, ints, times_is (c *ℤ pos D) m, times_is c (m * D), ap (λ k. k * m) (times_is c D), add-mul (up (c *ℤ pos D)) (down c * D) m, add-mul (down (c *ℤ pos D)) (up c * D) m)

shift_in : (m D : ℕ) (x q : ℤ) (b : UpperBound) → Meets (m * D) (x -ℤ (q *ℤ pos m)) b → Meets m x (shift D q b)
unfolding Meets shift
shift_in m D x q none h = tt
shift_in m D x q (upto true c) h = omega (arith, ints, times_plus q (c *ℤ pos D) m, times_times c D m)
shift_in m D x q (upto false c) h = omega (arith, ints, times_plus q (c *ℤ pos D) m, times_times c D m)

shift_out : (m D : ℕ) (x q : ℤ) (b : UpperBound) → Meets m x (shift D q b) → Meets (m * D) (x -ℤ (q *ℤ pos m)) b
unfolding Meets shift
shift_out m D x q none h = tt
shift_out m D x q (upto true c) h = omega (arith, ints, times_plus q (c *ℤ pos D) m, times_times c D m)
shift_out m D x q (upto false c) h = omega (arith, ints, times_plus q (c *ℤ pos D) m, times_times c D m)

-- a value that meets them all
pub record Between (allows : ℕ → Bool) (D n : ℕ) (p : ℕ → ℤ) (a : ℕ → UpperBound) (k : ℕ) (q : ℕ → ℤ) (b : ℕ → UpperBound) : Type 0 where
  pub m : ℕ
  pub x : ℤ
  pub some : 1 ≤ m
  pub allowed : allows (m * D) ≡ true
  pub above : (i : ℕ) → i < suc n → Meets (m * D) ((p i *ℤ pos m) -ℤ x) (a i)
  pub under : (j : ℕ) → j < suc k → Meets (m * D) (x -ℤ (q j *ℤ pos m)) (b j)

pub neg_times : (z : ℤ) (m : ℕ) → (neg_ℤ z) *ℤ pos m ≡ neg_ℤ (z *ℤ pos m)
neg_times (pos zero) m = omega (arith, ints, times_is (pos 0) m)
neg_times (pos (suc n)) m = refl
neg_times (negsuc n) m = omega (arith, ints, times_is (negsuc n) m)

under_one : (m D : ℕ) → 1 ≤ m → (q y q' : ℤ) (b b' : UpperBound) → Tight (shift D q b) (shift D q' b') → Meets (m * D) y b → Meets (m * D) (((q *ℤ pos m) +ℤ y) -ℤ (q' *ℤ pos m)) b'
under_one m D big q y q' b b' t h =
    let e : ((q *ℤ pos m) +ℤ y) -ℤ (q *ℤ pos m) ≡ y = omega (arith, ints) in
    shift_out m D _ q' b' (meets_looser m big _ _ _ t (shift_in m D _ q b (subst (λ d. Meets (m * D) d b) (sym e) h)))

above_one : (m D : ℕ) → 1 ≤ m → (q x y p p' : ℤ) (a a' : UpperBound) → x +ℤ y ≡ (p -ℤ q) *ℤ pos m → Tight (shift D (neg_ℤ p) a) (shift D (neg_ℤ p') a') → Meets (m * D) x a → Meets (m * D) ((p' *ℤ pos m) -ℤ ((q *ℤ pos m) +ℤ y)) a'
above_one m D big q x y p p' a a' s t h =
    let e : neg_ℤ ((q *ℤ pos m) +ℤ y) -ℤ (neg_ℤ p *ℤ pos m) ≡ x = omega (arith, ints, neg_times p m, neg_times q m, times_plus p (neg_ℤ q) m) in
    let f : neg_ℤ ((q *ℤ pos m) +ℤ y) -ℤ (neg_ℤ p' *ℤ pos m) ≡ (p' *ℤ pos m) -ℤ ((q *ℤ pos m) +ℤ y) = omega (arith, ints, neg_times p' m) in
    subst (λ d. Meets (m * D) d a') f
    (shift_out m D _ (neg_ℤ p') a' (meets_looser m big _ _ _ t (shift_in m D _ (neg_ℤ p) a (subst (λ d. Meets (m * D) d a) (sym e) h))))

pub between : (allows : ℕ → Bool) (D n : ℕ) (p : ℕ → ℤ) (a : ℕ → UpperBound) (k : ℕ) (q : ℕ → ℤ) (b : ℕ → UpperBound)
    → ((i j : ℕ) → i < suc n → j < suc k → Split allows D (p i -ℤ q j) (a i) (b j))
    → Between allows D n p a k q b
between allows D n p a k q b splits =
    let lo = tightest_of (λ i. shift D (neg_ℤ (p i)) (a i)) n in
    let hi = tightest_of (λ j. shift D (q j) (b j)) k in
    let s = splits lo.0 hi.0 lo.1 hi.1 in
    record {
      m = s.m;
      x = (q hi.0 *ℤ pos s.m) +ℤ s.y;
      some = s.some;
      allowed = s.allowed;
      above = λ i h. above_one s.m D s.some (q hi.0) s.x s.y (p lo.0) (p i) (a lo.0) (a i) s.sum (lo.2 i h) s.first;
      under = λ j h. under_one s.m D s.some (q hi.0) s.y (q j) (b hi.0) (b j) (hi.2 j h) s.second;
    }

-- a state written at another scale
pub meets_scaled : (m D : ℕ) → 1 ≤ m → (x y : ℤ) (b : UpperBound) → Meets D (x -ℤ y) b → Meets (m * D) ((x *ℤ pos m) -ℤ (y *ℤ pos m)) b
unfolding Meets
meets_scaled m D big x y none h = tt
meets_scaled m D big x y (upto true c) h = omega (arith, ints, neg_times y m, times_plus x (neg_ℤ y) m, times_times c D m, times_le (x -ℤ y) (c *ℤ pos D) m h)
meets_scaled m D big x y (upto false c) h = let g : ((x -ℤ y) +ℤ pos 1) ≤ℤ (c *ℤ pos D) = omega (arith, ints) in omega (arith, ints, neg_times y m, times_plus x (neg_ℤ y) m, times_plus (x -ℤ y) (pos 1) m, times_is (pos 1) m, times_times c D m, times_le ((x -ℤ y) +ℤ pos 1) (c *ℤ pos D) m g)
