-- What a restriction makes of the meaning below.
use Rattle.std.specs.Prelude.{◌≡◌, ℕ, ◌-◌, ◌<◌, ◌≢◌, ◌⊎◌, List, [], ◌∷◌, length, slice_index_or}
use Rattle.bounds.specs.declared.refusal.Refusal.{Refusal}
use Rattle.bounds.specs.declared.refusal.Refusal.TheVariants as refused
use Rattle.zones.specs.declared.boxes.ClockBox.{ClockBox}
use Rattle.plans.specs.declared.rows.Position.{Position}
use Rattle.plans.specs.Boxes.{InBox, later, BoxOf}
use Rattle.plans.specs.BoxChecks.{FirstWrong}
use Rattle.plans.specs.Meaning.{PlanMeaning, no_box}
use Rattle.plans.specs.Routes.{Run}
use Rattle.plans.specs.Routes.Run.{last, first}
use Rattle.layers.specs.Narrowing.{narrow_box}

-- each invariant narrowed by the box of its own, on the first n clocks
abbrev pub narrowed : ℕ → List ClockBox → List Position → List Position
narrowed n [] ps = ps
narrowed n (b ∷ bs) [] = []
narrowed n (b ∷ bs) (p ∷ ps) = record { invariant = narrow_box n b p.invariant } ∷ narrowed n bs ps

abbrev pub restricted : List ClockBox → PlanMeaning → PlanMeaning
restricted bs m = record {
  allows = m.allows;
  normal = m.normal;
  clocks = m.clocks;
  positions = narrowed m.clocks bs m.positions;
  moves = m.moves;
  outcomes = m.outcomes;
  goals = m.goals;
}

-- the box of position p, from 1
abbrev pub box_of : List ClockBox → ℕ → ClockBox
box_of bs p = slice_index_or bs (p - 1) no_box

-- boxes for a plan: one for each position, that ask something only of its clocks
pub record BoxesFor (m : PlanMeaning) (bs : List ClockBox) : Type 0 where
  pub count : length bs ≡ length m.positions
  pub boxes : (k : ℕ) → k < length bs → BoxOf m.clocks (slice_index_or bs k no_box)

-- the run stays in the boxes: before and after each wait the state lies in the box of its position
abbrev pub Stays : (bs : List ClockBox) (m : PlanMeaning) (D : ℕ) {p k t : ℕ} {v : ℕ → ℕ} → Run m D p v k t → Type 0
Stays bs m D {p} {v = v} (last w g a r) = InBox (box_of bs p) D v × InBox (box_of bs p) D (later w v)
Stays bs m D {p} {v = v} (first w o a c rest) = InBox (box_of bs p) D v × InBox (box_of bs p) D (later w v) × Stays bs m D rest

-- by Rows for their count, then the first wrong box by Number and then by Name
abbrev pub RestrictionRefused : PlanMeaning → List ClockBox → Refusal → Type 0
RestrictionRefused m bs e =
    ((length bs ≢ length m.positions) × (e ≡ refused.Rows))
    ⊎ ((length bs ≡ length m.positions) × FirstWrong m.clocks bs e)
