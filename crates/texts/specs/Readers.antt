-- What a reader of lines gives.
use Rattle.std.specs.Prelude.{ℕ, ◌+◌, Bool, true, false, cond, List, [], ◌∷◌, drop}
use Rattle.byte_text.specs.Parts.{Place, place, parted}
use Rattle.texts.specs.declared.reader.Reader.{Reader}
use Rattle.texts.specs.declared.reader.NextLine.{NextLine}
use Rattle.texts.specs.declared.reader.NextLine.TheVariants as lines

-- what a walk over lines comes to, with the number of the line
pub data Next : Type 0 where
  whole : ℕ → Place → Next
  torn : ℕ → Place → Next
  over : ℕ → Place → Next

abbrev pub seen_next : NextLine → Next
seen_next (lines.Whole l) = whole l.number (place l.whole)
seen_next (lines.Torn l) = torn l.number (place l.whole)
seen_next (lines.Over l) = over l.number (place l.whole)

abbrev pub is_empty : {X : Type 0} → List X → Bool
is_empty [] = true
is_empty (x ∷ xs) = false

-- the last part is no line if it is empty, and a line with no end if it is not; n is the number of the line
abbrev pub next_of : ℕ → List Place → Next
next_of n [] = over n (record { bytes = []; at = 0 })
next_of n (p ∷ ps) = cond (is_empty ps) (cond (is_empty p.bytes) (over n p) (torn n p)) (whole n p)

-- past a whole line
abbrev pub rest_of : List Place → List Place
rest_of [] = []
rest_of (p ∷ ps) = cond (is_empty ps) (p ∷ ps) ps

abbrev pub lines_ahead : Reader → List Place
lines_ahead r = parted 10 r.at (drop r.at r.text.now)

abbrev pub counted : NextLine → ℕ → ℕ
counted (lines.Whole l) n = n + 1
counted (lines.Torn l) n = n
counted (lines.Over l) n = n
