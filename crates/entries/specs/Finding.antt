-- The entry of which something was read.
use Rattle.std.specs.Prelude.{◌≡◌, ℕ, Some, None, Option}
use Rattle.entries.specs.declared.entry.Entry.{Entry}
use Rattle.entries.specs.declared.reading.Draft.{Draft}
use Rattle.entries.specs.Entries.{IsEntry}
use Rattle.entries.specs.Reading.{Drawn}

-- it is an entry, and that of which the draft was read, or there is none such
abbrev pub FoundSays : ℕ → Draft → Option Entry → Type 0
FoundSays n d (Some e) = IsEntry n e × ((f : Entry) → IsEntry n f → Drawn n f d → f ≡ e)
FoundSays n d None = (f : Entry) → IsEntry n f → Drawn n f d → ⊥
