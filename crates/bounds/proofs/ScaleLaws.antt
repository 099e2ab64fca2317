-- The laws of a time domain, for the scales that count: those from 1 up that it allows
use Rattle.std.proofs.Common.{◌≡◌, ℕ, ◌*◌, ◌≤◌, Bool, true, false, ◌&&◌, leb, ℤ, refl, ap, ◌∙◌, mul-le-mul_right, one-mul, arith}
use Rattle.std.proofs.lemmas.Bool.{leb-true, le-leb}
use Rattle.bounds.specs.Bounds.{UpperBound, plus, level, Meets}
use Rattle.bounds.specs.Domains.{Split, Alike, Lawful, scales}

pub record ScaleLaws (allows : ℕ → Bool) (normal : UpperBound → UpperBound) : Type 0 where
  pub positive : (D : ℕ) → allows D ≡ true → 1 ≤ D
  pub one : allows 1 ≡ true
  pub same : (D : ℕ) (l : UpperBound) → allows D ≡ true → Alike D l (normal l)
  pub zero : normal level ≡ level
  pub sums : (a b : UpperBound) → normal (plus (normal a) (normal b)) ≡ plus (normal a) (normal b)
  pub splits : (D : ℕ) (d : ℤ) (a b : UpperBound) → allows D ≡ true → normal a ≡ a → normal b ≡ b → Meets D d (plus a b) → Split allows D d a b

and_left : (a b : Bool) → (a && b) ≡ true → a ≡ true
and_left true b e = refl
and_left false b e = e

and_right : (a b : Bool) → (a && b) ≡ true → b ≡ true
and_right true b e = e
and_right false b e = let z : ◌≡◌ {A = ℕ} 0 1 = cc in absurd (omega arith)

both : (a b : Bool) → a ≡ true → b ≡ true → (a && b) ≡ true
both a b e f = ap (λ t. t && b) e ∙ f

pub scale_big : (allows : ℕ → Bool) (D : ℕ) → scales allows D ≡ true → 1 ≤ D
scale_big allows D e = leb-true 1 D (and_left (leb 1 D) (allows D) e)

pub scale_allowed : (allows : ℕ → Bool) (D : ℕ) → scales allows D ≡ true → allows D ≡ true
scale_allowed allows D e = and_right (leb 1 D) (allows D) e

pub scale_is : (allows : ℕ → Bool) (D : ℕ) → 1 ≤ D → allows D ≡ true → scales allows D ≡ true
scale_is allows D h e = both (leb 1 D) (allows D) (le-leb 1 D h) e

big_times : (m D : ℕ) → 1 ≤ m → 1 ≤ D → 1 ≤ m * D
big_times m D h k = omega (arith, mul-le-mul_right D h, one-mul D)

pub scale_laws : (allows : ℕ → Bool) (normal : UpperBound → UpperBound) → Lawful allows normal → ScaleLaws (scales allows) normal
scale_laws allows normal K = record {
  positive = scale_big allows;
  one = scale_is allows 1 (omega arith) K.one;
  same = λ D l e. K.same D l (scale_big allows D e) (scale_allowed allows D e);
  zero = K.zero;
  sums = K.sums;
  splits = λ D d a b e s t h.
      let p = K.splits D d a b (scale_big allows D e) (scale_allowed allows D e) s t h in
      record {
        m = p.m;
        x = p.x;
        y = p.y;
        some = p.some;
        allowed = scale_is allows (p.m * D) (big_times p.m D p.some (scale_big allows D e)) p.allowed;
        sum = p.sum;
        first = p.first;
        second = p.second;
      };
}
