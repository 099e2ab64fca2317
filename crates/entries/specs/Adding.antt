-- What is added to a line step by step: where a step finds no room, the line is given up.
use Rattle.std.specs.Prelude.{◌≡◌, ℕ, ◌+◌, ◌<◌, Bool, true, cond, List, [], ◌∷◌, ◌++◌, length, Ok, Err, Result}
use Rattle.bounds.specs.declared.refusal.Refusal.{Refusal}
use Rattle.bounds.specs.declared.refusal.Refusal.TheVariants as refused
use Rattle.bounds.specs.Bounds.{UpperBound, none, upto}
use Rattle.entries.specs.Lines.{item}

abbrev pub AddedSays : List ℕ → List ℕ → Result (Unit {0}) Refusal → List ℕ → Type 0
AddedSays before ds (Ok u) after = after ≡ before ++ ds
AddedSays before ds (Err e) after = (e ≡ refused.Buffer) × (1200 < length before + length ds)

-- what a bound at p adds after those before it, if there are any
abbrev pub placed : Bool → ℕ → UpperBound → List ℕ
placed any p none = []
placed any p (upto closed c) = cond any (44 ∷ []) [] ++ item p closed c

-- whether there are any with it
abbrev pub any_with : Bool → UpperBound → Bool
any_with any none = any
any_with any (upto closed c) = true
