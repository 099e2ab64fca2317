-- Boxes narrowed by boxes.
use Rattle.std.specs.Prelude.{ℕ, zero, suc, List, [], ◌∷◌}
pub use Rattle.bounds.specs.Tighter.{below, above, lowest, highest}
use Rattle.zones.specs.declared.boxes.Side.{Side}
use Rattle.zones.specs.declared.boxes.ClockBox.{ClockBox}

-- both sides at once
abbrev pub both : Side → Side → Side
both a b = record { lower = highest a.lower b.lower; upper = lowest a.upper b.upper }

-- the first n sides narrowed
abbrev pub narrow_sides : ℕ → List Side → List Side → List Side
narrow_sides n [] ss = ss
narrow_sides n (b ∷ bs) [] = []
narrow_sides zero (b ∷ bs) (s ∷ ss) = s ∷ ss
narrow_sides (suc n) (b ∷ bs) (s ∷ ss) = both b s ∷ narrow_sides n bs ss

abbrev pub narrow_box : ℕ → ClockBox → ClockBox → ClockBox
narrow_box n b c = record { sides = narrow_sides n b.sides c.sides }
