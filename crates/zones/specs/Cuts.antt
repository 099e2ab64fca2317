-- What a cut answers, and what the zone then holds.
use Rattle.zones.specs.declared.codes.Code.{Code}
use Rattle.std.specs.Prelude.{◌≡◌, ℕ, ◌<◌, Bool, true, ◌⊎◌, List, ℤ, pos, negsuc, ◌-ℤ◌, ◌≤ℤ◌, ◌<ℤ◌, Ok, Err, Result}
use Rattle.bounds.specs.declared.refusal.Refusal.{Refusal}
use Rattle.bounds.specs.Logic.{Iff}
use Rattle.bounds.specs.Bounds.{UpperBound, none, upto, Meets}
use Rattle.zones.specs.declared.zone.Cut.{Cut}
use Rattle.zones.specs.declared.zone.Cut.TheVariants as cut
use Rattle.zones.specs.Matrices.{Holds, cut_at}
use Rattle.zones.specs.Codes.{Near, at, decode, code_of}
use Rattle.zones.specs.Refused.{Refused}

-- the zone is of the time domain: every bound of it is in normal form
abbrev pub OfDomain : (UpperBound → UpperBound) → List Code → Type 0
OfDomain normal xs = (p : ℕ) → p < 81 → normal (decode (code_of xs p)) ≡ decode (code_of xs p)

-- a state of the zone that also meets the bound b at (i, j)
abbrev pub Left : (ℕ → Bool) → ℕ → ℕ → UpperBound → List Code → ℕ → (ℕ → ℤ) → Type 0
Left allows i j b xs D v = (allows D ≡ true) × (Holds (at xs) D v) × Meets D (v i -ℤ v j) b

-- none, or a number from the low one to the high one
abbrev pub FromTo : ℤ → ℤ → UpperBound → Type 0
FromTo low high none = Unit {0}
FromTo low high (upto s n) = (low ≤ℤ n) × (n ≤ℤ high)

-- a number beyond ±1,000,000, which no cut takes
unfoldable pub Beyond : UpperBound → Type 0
Beyond none = ⊥
Beyond (upto s n) = (n <ℤ negsuc 999999) ⊎ (pos 1000000 <ℤ n)

-- a number beyond ±4,000,000, which no zone has
unfoldable pub Far : UpperBound → Type 0
Far none = ⊥
Far (upto s n) = (n <ℤ negsuc 3999999) ⊎ (pos 4000000 <ℤ n)

-- some bound of the result has a number that no zone has
abbrev pub Over : (UpperBound → UpperBound) → ℕ → ℕ → UpperBound → List Code → Type 0
Over normal i j b xs = (p : ℕ) × ((q : ℕ) × ((p < 9) × (q < 9) × Far (cut_at (at xs) i j (normal b) p q)))

-- a code of the bound b, with a number that a normal form of a cut's bound may have
pub record CodeOf (b : UpperBound) (code : ℕ) : Type 0 where
  pub is : decode code ≡ b
  pub near : Near 1000001 code

-- the call is fit: the clocks exist, the number is in range, and the zone is of the time domain
pub record Fit (normal : UpperBound → UpperBound) (i j : ℕ) (b : UpperBound) (xs : List Code) : Type 0 where
  pub row : i < 9
  pub column : j < 9
  pub number : Beyond b → ⊥
  pub of_domain : OfDomain normal xs

-- a clock does not exist
pub record CutNamed (i j : ℕ) (xs ys : List Code) : Type 0 where
  pub unknown : (i < 9 × (j < 9)) → ⊥
  pub unchanged : ys ≡ xs

-- the clocks exist, and the bound's number or the zone is not fit
pub record CutNumbered (normal : UpperBound → UpperBound) (i j : ℕ) (b : UpperBound) (xs ys : List Code) : Type 0 where
  pub row : i < 9
  pub column : j < 9
  pub unfit : ((Beyond b → ⊥) × OfDomain normal xs) → ⊥
  pub unchanged : ys ≡ xs

-- some state is left, and a bound of the result is out of range
pub record CutOver (allows : ℕ → Bool) (normal : UpperBound → UpperBound) (i j : ℕ) (b : UpperBound) (xs ys : List Code) : Type 0 where
  pub fit : Fit normal i j b xs
  pub some : (D : ℕ) × ((v : ℕ → ℤ) × ((v 0 ≡ pos 0) × Left allows i j b xs D v))
  pub over : Over normal i j b xs
  pub unchanged : ys ≡ xs

-- no state is left
pub record CutEmpty (allows : ℕ → Bool) (normal : UpperBound → UpperBound) (i j : ℕ) (b : UpperBound) (xs ys : List Code) : Type 0 where
  pub fit : Fit normal i j b xs
  pub gone : (D : ℕ) (v : ℕ → ℤ) → Left allows i j b xs D v → ⊥
  pub unchanged : ys ≡ xs

-- the zone now holds exactly the states that are left
pub record CutKept (allows : ℕ → Bool) (normal : UpperBound → UpperBound) (i j : ℕ) (b : UpperBound) (xs ys : List Code) : Type 0 where
  pub fit : Fit normal i j b xs
  pub in_range : Over normal i j b xs → ⊥
  pub of_domain : OfDomain normal ys
  pub bounds : (p q : ℕ) → p < 9 → q < 9 → at ys p q ≡ cut_at (at xs) i j (normal b) p q
  pub states : (D : ℕ) (v : ℕ → ℤ) → allows D ≡ true → Iff (Holds (at ys) D v) (Left allows i j b xs D v)

-- by answer; xs is what the zone was, and ys what it is then
abbrev pub CutSays : (ℕ → Bool) → (UpperBound → UpperBound) → ℕ → ℕ → UpperBound → List Code → List Code → Result Cut Refusal → Type 0
CutSays allows normal i j b xs ys (Err e) = Refused (CutNamed i j xs ys) (CutNumbered normal i j b xs ys) ⊥ (CutOver allows normal i j b xs ys) e
CutSays allows normal i j b xs ys (Ok cut.Empty) = CutEmpty allows normal i j b xs ys
CutSays allows normal i j b xs ys (Ok cut.Kept) = CutKept allows normal i j b xs ys
