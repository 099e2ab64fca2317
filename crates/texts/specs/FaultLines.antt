-- The line that a refused text is told by.
use Rattle.std.specs.Prelude.{ℕ, List, [], ◌∷◌, ◌++◌, decimal, unwrap_or}
use Rattle.bounds.specs.declared.refusal.Refusal.{Refusal}
use Rattle.bounds.specs.Refusals.{number}
use Rattle.texts.specs.Spots.{spot_line}
use Rattle.texts.specs.Faults.{Fault}

-- `E`, a tab, the refusal's number, a tab, the line's number, byte 10
abbrev pub told_line : Refusal → ℕ → List ℕ
told_line r n = 69 ∷ 9 ∷ (decimal (number r) ++ (9 ∷ (decimal n ++ (10 ∷ []))))

-- of a fault of the text as a whole the line is 0
abbrev pub fault_line : Fault → List ℕ
fault_line f = told_line f.refusal (unwrap_or (spot_line f.spot) 0)
