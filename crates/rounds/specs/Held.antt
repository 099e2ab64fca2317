-- States of a plan, and the zones that hold them.
use Rattle.std.specs.Prelude.{◌≡◌, ℕ, zero, suc, ◌*◌, ◌≤◌, Bool, true, List, ℤ, pos}
use Rattle.zones.specs.declared.codes.Code.{Code}
use Rattle.zones.specs.Codes.{at}
use Rattle.zones.specs.Matrices.{Holds}
use Rattle.zones.specs.Cuts.{OfDomain}
use Rattle.plans.specs.Boxes.{later, scaled}
use Rattle.plans.specs.Meaning.{PlanMeaning}
use Rattle.rounds.specs.Codes.{Remains, holds_zone}
use Rattle.rounds.specs.Codes.Remains.{kept, empty, beyond}
use Rattle.rounds.specs.Answers.{ZoneCodes}
use Rattle.rounds.specs.Unused.{Unasked}

-- what the clocks 0 to 8 read: clock 0 reads 0
abbrev pub clock : (ℕ → ℕ) → ℕ → ℤ
clock v zero = pos 0
clock v (suc k) = pos (v (suc k))

-- the zone holds the state with the readings v at the scale D
abbrev pub Held : List Code → ℕ → (ℕ → ℕ) → Type 0
Held z D v = Holds (at z) D (clock v)

-- and a test for it
abbrev pub holds_state : List Code → ℕ → (ℕ → ℕ) → Bool
holds_state z D v = holds_zone z D (clock v)

-- a scale that states of the plan may be written at
abbrev pub Scale : PlanMeaning → ℕ → Type 0
Scale M D = (1 ≤ D) × (M.allows D ≡ true)

-- a zone of the plan's time domain that asks nothing of a clock that the plan has not
pub record Fits (M : PlanMeaning) (z : List Code) : Type 0 where
  pub codes : ZoneCodes z
  pub of_domain : OfDomain M.normal z
  pub unasked : Unasked M.clocks (at z)

-- some delay leads into S, at some multiple of the scale that is allowed
abbrev pub Earlier : PlanMeaning → (ℕ → (ℕ → ℕ) → Type 0) → ℕ → (ℕ → ℕ) → Type 0
Earlier M S D v = ∥ ((m : ℕ) × (w : ℕ) × (1 ≤ m) × (M.allows (m * D) ≡ true) × S (m * D) (later w (scaled m v))) ∥₁

-- what remains holds exactly the states in S
abbrev pub Exact : PlanMeaning → (ℕ → (ℕ → ℕ) → Type 0) → Remains → Type 0
Exact M S (kept z) = Fits M z × ((D : ℕ) (v : ℕ → ℕ) → Scale M D → (Held z D v → S D v) × (S D v → Held z D v))
Exact M S empty = (D : ℕ) (v : ℕ → ℕ) → Scale M D → S D v → ⊥
Exact M S beyond = Unit {0}
