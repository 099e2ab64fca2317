-- What a zone keeps has one proof at most, so that it comes out of the truncation in its ghost field
use Rattle.zones.specs.declared.codes.Code.{Code}
use Rattle.std.proofs.Common.{◌≡◌, ℕ, Bool, true, List, ℤ, pos, ◌≤ℤ◌, refl, ap, ◌∙◌, arith}
use mathlib.Core.Logic.{∥∥₁_elim}
use mathlib.Core.Bool.{Bool-discrete}
use mathlib.Core.HLevel.{Discrete, hedberg, Π_prop, ×_prop, →_prop, ⊥_prop, Unit-prop}
use native.Mathlib.Bridge.{le_prop}
use lib.Dec.{T_prop}
use lib.IntN.{ℤ_discrete}
use Rattle.bounds.specs.Bounds.{UpperBound, none, upto, level, Tight}
use Rattle.zones.specs.Matrices.{Canon}
use Rattle.zones.specs.Codes.{Near, Sound, at}

le_one : (a b : ℤ) → IsProp (a ≤ℤ b)
le_one a b x y i = record { le = T_prop _ x.le y.le i }

tight_prop : (a b : UpperBound) → IsProp (Tight a b)
unfolding Tight
tight_prop a none = Unit-prop
tight_prop none (upto t b) = ⊥_prop
tight_prop (upto s a) (upto t b) = le_one _ _

number : UpperBound → ℤ
number none = pos 0
number (upto s a) = a

closed : UpperBound → Bool
closed none = true
closed (upto s a) = s

parts : (s t : Bool) (a b : ℤ) → Dec (s ≡ t) → Dec (a ≡ b) → Dec (upto s a ≡ upto t b)
unfolding number closed
parts s t a b (yes e) (yes f) = yes (ap (λ u. upto u a) e ∙ ap (upto t) f)
parts s t a b (yes e) (no f) = no (λ g. f (ap number g))
parts s t a b (no e) k = no (λ g. e (ap closed g))

lim_discrete : Discrete UpperBound
lim_discrete none none = yes refl
lim_discrete none (upto t b) = no (λ e. let z : ◌≡◌ {A = ℕ} 0 1 = cc in omega arith)
lim_discrete (upto s a) none = no (λ e. let z : ◌≡◌ {A = ℕ} 0 1 = cc in omega arith)
lim_discrete (upto s a) (upto t b) = parts s t a b (Bool-discrete s t) (ℤ_discrete a b)

pub canon_prop : (Z : ℕ → ℕ → UpperBound) → IsProp (Canon Z)
canon_prop Z x y i = record {
  diagonal = Π_prop (λ a. →_prop (hedberg lim_discrete (Z a a) level)) x.diagonal y.diagonal i;
  front = Π_prop (λ j. →_prop (tight_prop (Z 0 j) level)) x.front y.front i;
  around = Π_prop (λ a. Π_prop (λ b. Π_prop (λ c. →_prop (→_prop (→_prop (tight_prop _ _)))))) x.around y.around i;
}

near_prop : (r k : ℕ) → IsProp (Near r k)
near_prop r k = ×_prop (→_prop (×_prop le_prop le_prop)) le_prop

pub sound_prop : (xs : List Code) → IsProp (Sound xs)
sound_prop xs x y i = record {
  near = Π_prop (λ p. →_prop (near_prop 4000000 _)) x.near y.near i;
  canon = canon_prop (at xs) x.canon y.canon i;
}

pub sound : (xs : List Code) → ∥ Sound xs ∥₁ → Sound xs
sound xs h = ∥∥₁_elim h (sound_prop xs) (λ s. s)
