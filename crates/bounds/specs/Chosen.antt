-- The time domain that is chosen as the program runs, and what a time domain's calls answer.
use Rattle.std.specs.Prelude.{◌≡◌, ℕ, ◌≤◌, Bool, true, Ok, Err, Option, Result}
use Rattle.bounds.specs.declared.refusal.Refusal.{Refusal}
use Rattle.bounds.specs.declared.refusal.Refusal.TheVariants as refused
use Rattle.bounds.specs.declared.bound.Bound.{Bound}
use Rattle.bounds.specs.declared.time.PlanTime.{PlanTime}
use Rattle.bounds.specs.declared.time.PlanTime.TheVariants.{Cycle, Hand}
use Rattle.bounds.specs.Bounds.{UpperBound, upto}
use Rattle.bounds.specs.Sums.{bound_of, Vast}
use Rattle.bounds.specs.Domains.{Alike, cycle_allows, cycle_normal, hand_allows, hand_normal}

abbrev pub plan_allows : PlanTime → ℕ → Bool
plan_allows Cycle = cycle_allows
plan_allows Hand = hand_allows

abbrev pub plan_normal : PlanTime → UpperBound → UpperBound
plan_normal Cycle = cycle_normal
plan_normal Hand = hand_normal

-- what the normal form of the bound b answers: a number beyond ±1,000,000,000 is refused
abbrev pub NormalSays : (UpperBound → UpperBound) → UpperBound → Result Bound Refusal → Type 0
NormalSays normal b (Ok r) = (upto r.closed r.number ≡ normal b) × (Vast b → ⊥)
NormalSays normal b (Err e) = (e ≡ refused.Number) × Vast b

-- the same, where there may be none
abbrev pub NormalOfSays : (UpperBound → UpperBound) → UpperBound → Result (Option Bound) Refusal → Type 0
NormalOfSays normal b (Ok r) = (bound_of r ≡ normal b) × (Vast b → ⊥)
NormalOfSays normal b (Err e) = (e ≡ refused.Number) × Vast b

-- at every scale that is allowed, both bounds are met by the same differences
abbrev pub AlwaysAlike : (ℕ → Bool) → UpperBound → UpperBound → Type 0
AlwaysAlike allows a b = (D : ℕ) → 1 ≤ D → allows D ≡ true → Alike D a b

-- what asking whether a and b are met by the same differences answers
abbrev pub AgreeSays : (ℕ → Bool) → UpperBound → UpperBound → Result Bool Refusal → Type 0
AgreeSays allows a b (Ok r) = (Vast a → ⊥) × (Vast b → ⊥) × (r ≡ true → AlwaysAlike allows a b) × (AlwaysAlike allows a b → r ≡ true)
AgreeSays allows a b (Err e) = (e ≡ refused.Number) × (((Vast a → ⊥) × (Vast b → ⊥)) → ⊥)
