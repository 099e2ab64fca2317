-- What the laws of a time give: one more clock, and that a canonical zone holds a state
use Rattle.std.proofs.Common.{◌≡◌, ℕ, ◌<◌, Bool, true, false, cond, ℤ, ◌-ℤ◌, sym, refl, subst, arith}
use Rattle.bounds.specs.Bounds.{UpperBound, none, upto, plus, Meets}
use Rattle.zones.specs.Matrices.{Canon, cut_at}
use Rattle.bounds.specs.Laws.{meets_looser}
use Rattle.bounds.proofs.ScaleLaws.{ScaleLaws}
use Rattle.bounds.proofs.Apart.{normal_none, normal_plus}
use Rattle.zones.proofs.Canon.{tighter_one}
use Rattle.zones.proofs.Helly.{Between, between}

plus_none : (l : UpperBound) → plus l none ≡ none
unfolding plus
plus_none none = refl
plus_none (upto s a) = refl

module _ {allows : ℕ → Bool} {normal : UpperBound → UpperBound} (K : ScaleLaws allows normal) where
  pub normal_cut : (Z : ℕ → ℕ → UpperBound) (i j : ℕ) (c : UpperBound) → i < 9 → j < 9 → normal c ≡ c → ((a b : ℕ) → a < 9 → b < 9 → normal (Z a b) ≡ Z a b)
      → (a b : ℕ) → a < 9 → b < 9 → normal (cut_at Z i j c a b) ≡ cut_at Z i j c a b
  normal_cut Z i j c hi hj e t a b ha hb = tighter_one (λ l. normal l ≡ l) (Z a b) (plus (plus (Z a i) c) (Z j b)) (t a b ha hb)
      (normal_plus K _ _ (normal_plus K _ _ (t a i ha hi) e) (t j b hj hb))

  module _ (Z : ℕ → ℕ → UpperBound) (can : Canon Z) (keeps : (a b : ℕ) → a < 9 → b < 9 → normal (Z a b) ≡ Z a b) where
    gate_normal : (b : Bool) (l : UpperBound) → normal l ≡ l → normal (cond b l none) ≡ cond b l none
    gate_normal true l e = e
    gate_normal false l e = normal_none K

    gate_met : (D : ℕ) (d : ℤ) (s t : Bool) (a b : UpperBound) → (s ≡ true → t ≡ true → Meets D d (plus a b)) → Meets D d (plus (cond s a none) (cond t b none))
    unfolding Meets plus
    gate_met D d true true a b h = h refl refl
    gate_met D d true false a b h = subst (Meets D d) (sym (plus_none a)) tt
    gate_met D d false t a b h = tt

    -- the clocks in `on` extend to one more clock k, at some multiple of the scale
    pub extend : (on : ℕ → Bool) (D : ℕ) (v : ℕ → ℤ) → allows D ≡ true
        → ((i j : ℕ) → i < 9 → j < 9 → on i ≡ true → on j ≡ true → Meets D (v i -ℤ v j) (Z i j))
        → (k : ℕ) → k < 9
        → Between allows D 8 v (λ i. cond (on i) (Z i k) none) 8 v (λ j. cond (on j) (Z k j) none)
    extend on D v ok h k hk = between allows D 8 v _ 8 v _
        (λ i j hi hj. let p : i < 9 = omega arith in let q : j < 9 = omega arith in
        K.splits D (v i -ℤ v j) _ _ ok (gate_normal (on i) (Z i k) (keeps i k p hk)) (gate_normal (on j) (Z k j) (keeps k j hk q))
        (gate_met D (v i -ℤ v j) (on i) (on j) (Z i k) (Z k j) (λ e f. meets_looser D (K.positive D ok) _ _ _ (can.around i j k p q hk) (h i j p q e f))))
