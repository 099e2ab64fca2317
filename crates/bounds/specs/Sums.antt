-- Bounds as the program holds them, and what their sum answers.
use Rattle.std.specs.Prelude.{◌≡◌, Bool, true, ◌⊎◌, ℤ, pos, negsuc, ◌≤ℤ◌, ◌<ℤ◌, Some, None, Ok, Err, Option, Result}
use Rattle.bounds.specs.declared.refusal.Refusal.{Refusal}
use Rattle.bounds.specs.declared.refusal.Refusal.TheVariants as refused
use Rattle.bounds.specs.declared.bound.Bound.{Bound}
use Rattle.bounds.specs.Bounds.{UpperBound, none, upto, plus}

-- the bound that the program holds, or none
abbrev pub bound_of : Option Bound → UpperBound
bound_of None = none
bound_of (Some b) = upto b.closed b.number

-- within ±1,000,000,000, and beyond it
abbrev pub Reached : ℤ → Type 0
Reached n = (negsuc 999999999 ≤ℤ n) × (n ≤ℤ pos 1000000000)

abbrev pub OutOfReach : ℤ → Type 0
OutOfReach n = (n <ℤ negsuc 999999999) ⊎ (pos 1000000000 <ℤ n)

-- a number beyond ±1,000,000,000, which no sum may have
unfoldable pub Vast : UpperBound → Type 0
Vast none = ⊥
Vast (upto s n) = OutOfReach n

-- what the sum of a and b answers
abbrev pub SumSays : UpperBound → UpperBound → Result (Option Bound) Refusal → Type 0
SumSays a b (Ok s) = (bound_of s ≡ plus a b) × (Vast (plus a b) → ⊥)
SumSays a b (Err e) = (e ≡ refused.Number) × Vast (plus a b)

-- r says whether a and b are the same
abbrev pub Equal : UpperBound → UpperBound → Bool → Type 0
Equal a b r = (r ≡ true → a ≡ b) × (a ≡ b → r ≡ true)
