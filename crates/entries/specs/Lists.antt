-- Entries one after the other, and their lines.
use Rattle.std.specs.Prelude.{ℕ, List, [], ◌∷◌, ◌++◌}
use Rattle.entries.specs.declared.entry.Entry.{Entry}
use Rattle.entries.specs.Entries.{IsEntry}
use Rattle.entries.specs.Lines.{line}

abbrev pub lines : ℕ → List Entry → List ℕ
lines n [] = []
lines n (e ∷ es) = line n e ++ lines n es

-- each is an entry for n clocks
abbrev pub AllEntries : ℕ → List Entry → Type 0
AllEntries n [] = Unit {0}
AllEntries n (e ∷ es) = IsEntry n e × AllEntries n es
