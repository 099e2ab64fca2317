-- What an array holds that a closure filled
use Rattle.std.proofs.Common.{◌≡◌, ℕ, zero, suc, ◌+◌, ◌<◌, List, get_or, subst, arith, refl, sym}
use Rattle.std.specs.Array.{IsFromFnResult, IsFromFnResultFrom}
use denote.Param.Members.{Mut, Called}

-- where each call leaves the closure as it was, and gives what has P
module _ {F B : Type 0} (g : Mut F (ℕ × Unit {0}) B) (f : F) (P : ℕ → B → Type 0) (gives : (i : ℕ) (y : B) (q : F) → Called g f (i, tt) y q → (q ≡ f) × P i y) where
  turn : (q : F) (i : ℕ) (y : B) (t : F) → q ≡ f → Called g q (i, tt) y t → (t ≡ f) × P i y
  turn q i y t s k = gives i y t (subst (λ (x : F). Called g x (i, tt) y t) s k)

  from : (ys : List B) (e : B) (q : F) (i n k : ℕ) → q ≡ f → IsFromFnResultFrom g q ys i n → k < n → P (i + k) (get_or ys (i + k) e)
  from ys e q i zero k s r h = absurd (omega arith)
  from ys e q i (suc n) zero s r h =
      let z : i ≡ i + 0 = omega arith in
      subst (λ (j : ℕ). P j (get_or ys j e)) z (subst (P i) (sym (r.2.1 e)) (turn q i r.1 r.0 s r.3).1)
  from ys e q i (suc n) (suc k) s r h =
      let z : i + 1 + k ≡ i + suc k = omega arith in
      subst (λ (j : ℕ). P j (get_or ys j e)) z (from ys e r.0 (i + 1) n k (turn q i r.1 r.0 s r.3).0 r.4 (omega arith))

  pub each_from_fn : (ys : List B) (n : ℕ) → IsFromFnResult g f ys n → (k : ℕ) (e : B) → k < n → P k (get_or ys k e)
  each_from_fn ys n r k e h = let z : 0 + k ≡ k = omega arith in subst (λ (j : ℕ). P j (get_or ys j e)) z (from ys e f 0 n k refl r.each h)
