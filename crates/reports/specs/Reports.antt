-- The line that says where a Search stands.
use Rattle.std.specs.Prelude.{◌≡◌, ℕ, List, [], ◌∷◌, ◌++◌, Ok, Err, codes, decimal, Result}
use Rattle.bounds.specs.declared.refusal.Refusal.{Refusal}
use Rattle.byte_text.specs.declared.line.Line.{Line}
use Rattle.byte_text.specs.Lines.{text}
use Rattle.rounds.specs.declared.replies.Phase.{Phase}
use Rattle.rounds.specs.declared.replies.Phase.TheVariants.{Open, Closed, Stopped, Unfit}

abbrev pub phase_word : Phase → List ℕ
phase_word Open = codes "open"
phase_word Closed = codes "closed"
phase_word Stopped = codes "stopped"
phase_word Unfit = codes "unfit"

-- `S`, tab, phase, tab, finished rounds, byte 10
abbrev pub status_line : Phase → ℕ → List ℕ
status_line phase rounds = 83 ∷ 9 ∷ (phase_word phase ++ (9 ∷ (decimal rounds ++ (10 ∷ []))))

-- the line was put together; none is too long for that
abbrev pub ReportSays : List ℕ → Result Line Refusal → Type 0
ReportSays ds (Ok l) = text l ≡ ds
ReportSays ds (Err e) = ⊥
