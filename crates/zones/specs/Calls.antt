-- What `all`, `bound`, `back`, `undo`, `holds` and `within` answer, and what the zone then holds.
use Rattle.zones.specs.declared.codes.Code.{Code}
use Rattle.std.specs.Prelude.{◌≡◌, ℕ, ◌*◌, ◌<◌, ◌≤◌, Bool, true, List, length, ℤ, pos, ◌≤ℤ◌, Ok, Err, Option, Result, slice_index}
use Rattle.bounds.specs.declared.refusal.Refusal.{Refusal}
use Rattle.bounds.specs.declared.refusal.Refusal.TheVariants as refused
use Rattle.bounds.specs.declared.bound.Bound.{Bound}
use Rattle.bounds.specs.Logic.{Iff}
use Rattle.bounds.specs.Bounds.{UpperBound}
use Rattle.bounds.specs.Sums.{bound_of}
use Rattle.zones.specs.declared.zone.Cut.{Cut}
use Rattle.zones.specs.declared.zone.Cut.TheVariants as cut
use Rattle.zones.specs.Matrices.{Holds, Readings, all_at, back_at, later, zeroed, undo_at}
use Rattle.zones.specs.Codes.{at}
use Rattle.zones.specs.Refused.{Refused}
use Rattle.zones.specs.Cuts.{OfDomain}
use Rattle.zones.specs.Resets.{reset}
use Rattle.zones.specs.States.{Good, reading}

-- the zone of every state: its bounds, and that it holds each
pub record AllSays (xs : List Code) : Type 0 where
  pub bounds : (i j : ℕ) → i < 9 → j < 9 → at xs i j ≡ all_at i j
  pub states : (D : ℕ) (v : ℕ → ℤ) → Readings v → Holds (at xs) D v

-- the bound at (i, j), for clocks that exist
abbrev pub BoundSays : ℕ → ℕ → List Code → Result (Option Bound) Refusal → Type 0
BoundSays i j xs (Err e) = (e ≡ refused.Name) × ((i < 9 × (j < 9)) → ⊥)
BoundSays i j xs (Ok b) = (i < 9) × (j < 9) × (bound_of b ≡ at xs i j)

-- some wait, written at some multiple of the scale, leads into the zone
abbrev pub Leads : (ℕ → Bool) → List Code → ℕ → (ℕ → ℤ) → Type 0
Leads allows xs D v = (m : ℕ) × ((w : ℤ) × ((1 ≤ m) × (allows (m * D) ≡ true) × (pos 0 ≤ℤ w) × Holds (at xs) (m * D) (later m w v)))

-- the zone now holds exactly the states from which some wait leads into what it was
pub record BackDone (allows : ℕ → Bool) (normal : UpperBound → UpperBound) (xs ys : List Code) : Type 0 where
  pub was_of_domain : OfDomain normal xs
  pub of_domain : OfDomain normal ys
  pub bounds : (i j : ℕ) → i < 9 → j < 9 → at ys i j ≡ back_at (at xs) i j
  pub states : (D : ℕ) (v : ℕ → ℤ) → allows D ≡ true → Readings v → Iff (Holds (at ys) D v) (Leads allows xs D v)

abbrev pub BackSays : (ℕ → Bool) → (UpperBound → UpperBound) → List Code → List Code → Result (Unit {0}) Refusal → Type 0
BackSays allows normal xs ys (Err e) = (e ≡ refused.Number) × (OfDomain normal xs → ⊥) × (ys ≡ xs)
BackSays allows normal xs ys (Ok u) = BackDone allows normal xs ys

-- every clock of the list exists
abbrev pub Known : List ℕ → Type 0
Known cs = (k : ℕ) → k < length cs → slice_index cs k < 9

-- the state lies in the zone once the clocks are set to 0
abbrev pub ResetInto : List ℕ → List Code → ℕ → (ℕ → ℤ) → Type 0
ResetInto cs xs D v = Holds (at xs) D (λ k. v (zeroed (reset cs) k))

-- no state lies in the zone once the clocks are set to 0
pub record UndoEmpty (allows : ℕ → Bool) (normal : UpperBound → UpperBound) (cs : List ℕ) (xs ys : List Code) : Type 0 where
  pub known : Known cs
  pub was_of_domain : OfDomain normal xs
  pub gone : (D : ℕ) (v : ℕ → ℤ) → allows D ≡ true → Readings v → ResetInto cs xs D v → ⊥
  pub unchanged : ys ≡ xs

-- the zone now holds exactly the states that lie in what it was once the clocks are set to 0
pub record UndoKept (allows : ℕ → Bool) (normal : UpperBound → UpperBound) (cs : List ℕ) (xs ys : List Code) : Type 0 where
  pub known : Known cs
  pub was_of_domain : OfDomain normal xs
  pub of_domain : OfDomain normal ys
  pub bounds : (i j : ℕ) → i < 9 → j < 9 → at ys i j ≡ undo_at (reset cs) (at xs) i j
  pub states : (D : ℕ) (v : ℕ → ℤ) → allows D ≡ true → Readings v → Iff (Holds (at ys) D v) (ResetInto cs xs D v)

-- undo is never refused by Range
abbrev pub UndoSays : (ℕ → Bool) → (UpperBound → UpperBound) → List ℕ → List Code → List Code → Result Cut Refusal → Type 0
UndoSays allows normal cs xs ys (Err e) = Refused ((Known cs → ⊥) × (ys ≡ xs)) (Known cs × (OfDomain normal xs → ⊥) × (ys ≡ xs)) ⊥ ⊥ e
UndoSays allows normal cs xs ys (Ok cut.Empty) = UndoEmpty allows normal cs xs ys
UndoSays allows normal cs xs ys (Ok cut.Kept) = UndoKept allows normal cs xs ys

-- the zone is looked at before the state
abbrev pub HoldsSays : (ℕ → Bool) → (UpperBound → UpperBound) → ℕ → List ℕ → List Code → Result Bool Refusal → Type 0
HoldsSays allows normal D rs xs (Err e) = Refused ⊥ (OfDomain normal xs → ⊥) (OfDomain normal xs × (Good allows D rs → ⊥)) ⊥ e
HoldsSays allows normal D rs xs (Ok b) = OfDomain normal xs × Good allows D rs × Iff (b ≡ true) (Holds (at xs) D (reading rs))

-- every state of xs, at every scale that counts, lies in ys
abbrev pub Inside : (ℕ → Bool) → List Code → List Code → Type 0
Inside allows xs ys = (D : ℕ) (v : ℕ → ℤ) → allows D ≡ true → Readings v → Holds (at xs) D v → Holds (at ys) D v

abbrev pub WithinSays : (ℕ → Bool) → (UpperBound → UpperBound) → List Code → List Code → Result Bool Refusal → Type 0
WithinSays allows normal xs ys (Err e) = (e ≡ refused.Number) × ((OfDomain normal xs × OfDomain normal ys) → ⊥)
WithinSays allows normal xs ys (Ok b) = OfDomain normal xs × OfDomain normal ys × Iff (b ≡ true) (Inside allows xs ys)

-- a zone of the time domain holds a state at a scale that counts
abbrev pub HasState : (ℕ → Bool) → List Code → Type 0
HasState allows xs = (D : ℕ) × ((v : ℕ → ℤ) × ((allows D ≡ true) × Readings v × Holds (at xs) D v))
