-- What a box and a clock list mean, from what is written.
use Rattle.std.specs.Prelude.{◌≡◌, ℕ, suc, ◌≤◌, true, false, ◌⊎◌, List, [], ◌∷◌, slice_index_or}
use Rattle.bounds.specs.Logic.{Iff}
use Rattle.zones.specs.Boxes.{no_side}
use Rattle.plans.specs.Boxes.{InBox, InSide}
use Rattle.texts.specs.BoxFields.{side_with}
use Rattle.grammar.specs.BoxesWritten.{BoundText, OneOf, FineBound, All, held, box_by, resets_by}

-- the readings v, by clock, meet the bound m, taken alone, at the scale D
abbrev pub MeetsBound : ℕ → (ℕ → ℕ) → BoundText → Type 0
MeetsBound D v m = InSide D (v m.clock) (side_with no_side m.upper (held m).bound)

-- a box holds exactly the readings that meet all its bounds, so of several on one side of a clock the tightest counts
abbrev pub BoxMeans : Type 0
BoxMeans = (n D : ℕ) (v : ℕ → ℕ) (ms : List BoundText) → n ≤ 8 → 1 ≤ D → All (FineBound n) ms → Iff (InBox (box_by ms) D v) (All (MeetsBound D v) ms)

-- c is one of cs
abbrev pub Named : ℕ → List ℕ → Type 0
Named c [] = ⊥
Named c (x ∷ xs) = (c ≡ x) ⊎ Named c xs

-- a clock list resets exactly the clocks that it names, however often
abbrev pub ClocksMean : Type 0
ClocksMean = (n i : ℕ) (cs : List ℕ) → n ≤ 8 → All (OneOf n) cs → Iff (slice_index_or (resets_by cs) i false ≡ true) (Named (suc i) cs)
