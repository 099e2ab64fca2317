-- The functions on codes are what a zone's own calls say, and those calls say nothing else.
use Rattle.std.specs.Prelude.{◌≡◌, ℕ, ◌<◌, Bool, true, false, List, ℤ, Ok, Result}
use Rattle.bounds.specs.declared.refusal.Refusal.{Refusal}
use Rattle.bounds.specs.Bounds.{UpperBound}
use Rattle.bounds.specs.Domains.{Lawful, scales}
use Rattle.bounds.specs.Logic.{Iff}
use Rattle.zones.specs.declared.zone.Cut.{Cut}
use Rattle.zones.specs.declared.codes.Code.{Code}
use Rattle.zones.specs.declared.boxes.Side.{Side}
use Rattle.zones.specs.Codes.{at}
use Rattle.zones.specs.Matrices.{Holds, Readings, undo_at, zeroed}
use Rattle.zones.specs.Cuts.{OfDomain}
use Rattle.zones.specs.Boxes.{Plain, BoxSays}
use Rattle.zones.specs.Resets.{reset}
use Rattle.zones.specs.States.{reading}
use Rattle.zones.specs.Calls.{AllSays, BackSays, BackDone, Known, UndoSays, HoldsSays, WithinSays, Inside}
use Rattle.rounds.specs.Codes.{Remains, whole, cut_box, back_zone, undo_zone, within_zone, holds_zone}
use Rattle.rounds.specs.Codes.Remains.{kept, empty, beyond}
use Rattle.rounds.specs.Answers.{answered, left, ZoneCodes, Valid}
use Rattle.rounds.specs.Unused.{Unasked}

-- what remains of xs once the clocks in r are set back
pub record Undone (allows : ℕ → Bool) (normal : UpperBound → UpperBound) (r : ℕ → Bool) (xs ys : List Code) : Type 0 where
  pub codes : ZoneCodes ys
  pub of_domain : OfDomain normal ys
  pub bounds : (i j : ℕ) → i < 9 → j < 9 → at ys i j ≡ undo_at r (at xs) i j
  pub states : (D : ℕ) (v : ℕ → ℤ) → allows D ≡ true → Readings v → (Holds (at ys) D v → Holds (at xs) D (λ k. v (zeroed r k))) × (Holds (at xs) D (λ k. v (zeroed r k)) → Holds (at ys) D v)
  pub unasked : (n : ℕ) → ((j : ℕ) → n < j → r j ≡ false) → Unasked n (at xs) → Unasked n (at ys)

abbrev pub Undoes : (ℕ → Bool) → (UpperBound → UpperBound) → (ℕ → Bool) → List Code → Remains → Type 0
Undoes allows normal r xs (kept ys) = Undone allows normal r xs ys
Undoes allows normal r xs empty = (D : ℕ) (v : ℕ → ℤ) → allows D ≡ true → Readings v → Holds (at xs) D (λ k. v (zeroed r k)) → ⊥
Undoes allows normal r xs beyond = ⊥

-- what remains of xs is what the call answered, and what it left
abbrev pub Is : Remains → List Code → List Code → Result Cut Refusal → Type 0
Is o xs ys r = (answered o ≡ r) × (left xs o ≡ ys)

-- a zone of the time domain
pub record ZoneOf (normal : UpperBound → UpperBound) (xs : List Code) : Type 0 where
  pub codes : ZoneCodes xs
  pub of_domain : OfDomain normal xs

-- for each call: what the function says, and that whatever the call says is what the function gives
pub record CallsGiven (allows : ℕ → Bool) (normal : UpperBound → UpperBound) : Type 0 where
  pub all_only : (xs : List Code) → ZoneCodes xs → AllSays xs → xs ≡ whole
  pub box_says : (sides : List Side) (xs : List Code) → Plain sides → ZoneOf normal xs
      → BoxSays (scales allows) normal sides xs (left xs (cut_box normal sides xs)) (answered (cut_box normal sides xs)) × Valid (cut_box normal sides xs)
  pub box_only : (sides : List Side) (xs ys : List Code) (r : Result Cut Refusal) → Plain sides → ZoneOf normal xs → ZoneCodes ys
      → BoxSays (scales allows) normal sides xs ys r → Is (cut_box normal sides xs) xs ys r
  pub back_says : (xs : List Code) → ZoneOf normal xs → (ys : List Code) × (back_zone xs ≡ kept ys) × ZoneCodes ys × BackDone (scales allows) normal xs ys
  pub back_only : (xs ys : List Code) (u : Unit {0}) → ZoneOf normal xs → ZoneCodes ys → BackSays (scales allows) normal xs ys (Ok u) → back_zone xs ≡ kept ys
  pub undo_says : (r : ℕ → Bool) (xs : List Code) → r 0 ≡ false → ZoneOf normal xs → Undoes (scales allows) normal r xs (undo_zone r xs)
  pub undo_only : (cs : List ℕ) (r : ℕ → Bool) (xs ys : List Code) (a : Result Cut Refusal) → Known cs → r 0 ≡ false → ((i : ℕ) → i < 9 → r i ≡ reset cs i) → ZoneOf normal xs → ZoneCodes ys
      → UndoSays (scales allows) normal cs xs ys a → Is (undo_zone r xs) xs ys a
  pub within_says : (xs ys : List Code) → ZoneOf normal xs → ZoneCodes ys → Iff (within_zone xs ys ≡ true) (Inside (scales allows) xs ys)
  pub within_only : (xs ys : List Code) (b : Bool) → ZoneOf normal xs → ZoneCodes ys → WithinSays (scales allows) normal xs ys (Ok b) → within_zone xs ys ≡ b
  pub holds_says : (xs : List Code) (D : ℕ) (v : ℕ → ℤ) → Iff (holds_zone xs D v ≡ true) (Holds (at xs) D v)
  pub holds_only : (D : ℕ) (rs : List ℕ) (xs : List Code) (b : Bool) → HoldsSays allows normal D rs xs (Ok b) → holds_zone xs D (reading rs) ≡ b

-- for every lawful time domain
abbrev pub ZoneCallsGiven : Type 0
ZoneCallsGiven = (allows : ℕ → Bool) (normal : UpperBound → UpperBound) → Lawful allows normal → CallsGiven allows normal
