-- What the text of a box and of a clock list writes down.
use Rattle.std.specs.Prelude.{ℕ, ◌-◌, ◌≤◌, Bool, true, false, List, [], ◌∷◌, ◌++◌, replicate, pos, decimal, slice_set}
use Rattle.zones.specs.declared.boxes.Side.{Side}
use Rattle.zones.specs.declared.boxes.ClockBox.{ClockBox}
use Rattle.texts.specs.declared.boxes.ClockBound.{ClockBound}
use Rattle.texts.specs.BoxFields.{no_sides, tightened}

-- a bound as it is written: a clock, `<` or `>`, `=` if it is closed, and a number
pub record BoundText : Type 0 where
  pub clock : ℕ
  pub upper : Bool
  pub closed : Bool
  pub number : ℕ

-- `<` or `>`
abbrev pub sign : Bool → ℕ
sign true = 60
sign false = 62

abbrev pub after_sign : Bool → ℕ → List ℕ
after_sign true v = 61 ∷ decimal v
after_sign false v = decimal v

abbrev pub spell_bound : BoundText → List ℕ
spell_bound m = decimal m.clock ++ (sign m.upper ∷ after_sign m.closed m.number)

-- things with commas between them
abbrev pub commas : {X : Type 0} → (X → List ℕ) → X → List X → List ℕ
commas f x [] = f x
commas f x (y ∷ ys) = f x ++ (44 ∷ commas f y ys)

-- a box, or `-` where there is no bound
abbrev pub spell_box : List BoundText → List ℕ
spell_box [] = 45 ∷ []
spell_box (m ∷ ms) = commas spell_bound m ms

-- a clock list, or `-` where there is no clock
abbrev pub spell_clocks : List ℕ → List ℕ
spell_clocks [] = 45 ∷ []
spell_clocks (c ∷ cs) = commas decimal c cs

-- one of n, from 1, as a clock of a plan with n clocks; and a bound on such a clock
pub record OneOf (n c : ℕ) : Type 0 where
  pub low : 1 ≤ c
  pub high : c ≤ n

pub record FineBound (n : ℕ) (m : BoundText) : Type 0 where
  pub clock : OneOf n m.clock
  pub number : m.number ≤ 1000000

-- all of them
abbrev pub All : {X : Type 0} → (X → Type 0) → List X → Type 0
All P [] = Unit {0}
All P (x ∷ xs) = P x × All P xs

-- the bound as the program holds it
abbrev pub held : BoundText → ClockBound
held m = record { clock = m.clock; upper = m.upper; bound = record { number = pos m.number; closed = m.closed } }

-- the sides with all bounds ms: of several on one side of a clock the tightest counts
unfoldable pub tightened_by : List Side → List BoundText → List Side
tightened_by sides [] = sides
tightened_by sides (m ∷ ms) = tightened_by (tightened sides (held m)) ms

abbrev pub box_by : List BoundText → ClockBox
box_by ms = record { sides = tightened_by no_sides ms }

-- the clocks cs marked: one that is named twice counts once
unfoldable pub marked_by : List Bool → List ℕ → List Bool
marked_by ms [] = ms
marked_by ms (c ∷ cs) = marked_by (slice_set ms (c - 1) true) cs

abbrev pub resets_by : List ℕ → List Bool
resets_by cs = marked_by (replicate 8 false) cs
