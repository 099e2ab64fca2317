-- Fields as they are written.
use Rattle.std.specs.Prelude.{◌≡◌, ℕ, Ok, Err, Result}
use Rattle.byte_text.specs.Parts.{Place, place}
use Rattle.texts.specs.declared.fault.TextFault.{TextFault}
use Rattle.texts.specs.declared.written.Written.{Written}
use Rattle.texts.specs.Faults.{Fault, fault}

abbrev pub seen_part : Result Written TextFault → Result Place Fault
seen_part (Ok w) = Ok (place w.part)
seen_part (Err f) = Err (fault f)

-- a field that was read bears these numbers
abbrev pub Numbered : ℕ → ℕ → Result Written TextFault → Type 0
Numbered line k (Ok w) = (w.line ≡ line) × (w.number ≡ k)
Numbered line k (Err f) = Unit {0}
