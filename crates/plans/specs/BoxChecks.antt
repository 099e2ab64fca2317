-- Which boxes are refused for a plan of n clocks, and by what.
use Rattle.std.specs.Prelude.{◌≡◌, ℕ, ◌<◌, ◌≤◌, true, ◌⊎◌, List, length, slice_index_or}
use Rattle.bounds.specs.declared.refusal.Refusal.{Refusal}
use Rattle.bounds.specs.declared.refusal.Refusal.TheVariants as refused
use Rattle.zones.specs.declared.boxes.Side.{Side}
use Rattle.zones.specs.declared.boxes.ClockBox.{ClockBox}
use Rattle.plans.specs.Boxes.{blank, InRange, BoxOf}
use Rattle.zones.specs.Boxes.{no_side}
use Rattle.plans.specs.Meaning.{no_box}

-- both numbers of a side are in range
abbrev pub SideInRange : Side → Type 0
SideInRange s = InRange s.lower × InRange s.upper

-- the numbers of the sides are in range
abbrev pub Numbers : List Side → Type 0
Numbers ss = (i : ℕ) → i < length ss → SideInRange (slice_index_or ss i no_side)

-- the sides ask nothing of the clocks above n
abbrev pub Free : ℕ → List Side → Type 0
Free n ss = (i : ℕ) → i < length ss → n ≤ i → blank (slice_index_or ss i no_side) ≡ true

-- the box is refused: by Number, and then by Name
abbrev pub Wrong : ℕ → ClockBox → Refusal → Type 0
Wrong n b e = ((Numbers b.sides → ⊥) × (e ≡ refused.Number)) ⊎ (Numbers b.sides × (Free n b.sides → ⊥) × (e ≡ refused.Name))

-- the first k boxes are fine
abbrev pub AllBoxes : ℕ → List ClockBox → ℕ → Type 0
AllBoxes n bs k = (j : ℕ) → j < k → BoxOf n (slice_index_or bs j no_box)

-- the first box that is wrong is refused
abbrev pub FirstWrong : ℕ → List ClockBox → Refusal → Type 0
FirstWrong n bs e = (k : ℕ) × (k < length bs) × AllBoxes n bs k × Wrong n (slice_index_or bs k no_box) e
