-- An entry's line: `Z`, tab, position, tab, round, tab, bounds, byte 10.
use Rattle.std.specs.Prelude.{◌≡◌, ℕ, zero, suc, ◌+◌, ◌/◌, ◌%◌, Bool, true, false, cond, not, ◌&&◌, List, [], ◌∷◌, ◌++◌, ℤ, Ok, Err, decimal, Result, ◌==◌, ◌≢◌, nat_le}
use Rattle.std.specs.Fmt.{signed_decimal}
use Rattle.bounds.specs.declared.refusal.Refusal.{Refusal}
use Rattle.bounds.specs.declared.refusal.Refusal.TheVariants as refused
use Rattle.bounds.specs.Bounds.{UpperBound, none, upto}
use Rattle.zones.specs.Codes.{at}
use Rattle.byte_text.specs.declared.line.Line.{Line}
use Rattle.byte_text.specs.Lines.{text}
use Rattle.entries.specs.declared.entry.Entry.{Entry}
use Rattle.entries.specs.Entries.{IsEntry}

-- the place p, which is (p / 9, p % 9), is written: its clocks are two, and none is above n
abbrev pub shown : ℕ → ℕ → Bool
shown n p = nat_le (p / 9) n && (nat_le (p % 9) n && not (p / 9 == p % 9))

-- the bound that is written there, or none
unfoldable pub seen : ℕ → (ℕ → ℕ → UpperBound) → ℕ → UpperBound
seen n Z p = cond (shown n p) (Z (p / 9) (p % 9)) none

-- `=` after the `<` of a bound that is closed
abbrev pub equals : Bool → List ℕ
equals closed = cond closed (61 ∷ []) []

-- `i-j<c` or `i-j<=c`
abbrev pub item : ℕ → Bool → ℤ → List ℕ
item p closed c = (48 + p / 9) ∷ 45 ∷ (48 + p % 9) ∷ 60 ∷ (equals closed ++ signed_decimal c)

abbrev pub item_at : ℕ → UpperBound → List (List ℕ)
item_at p none = []
item_at p (upto closed c) = item p closed c ∷ []

-- the bounds at the places below p, each as it is written
unfoldable pub items : ℕ → (ℕ → ℕ → UpperBound) → ℕ → List (List ℕ)
items n Z zero = []
items n Z (suc p) = items n Z p ++ item_at p (seen n Z p)

-- whether there are any
abbrev pub some : List (List ℕ) → Bool
some [] = false
some (w ∷ ws) = true

-- parted by commas
abbrev pub commas : List (List ℕ) → List ℕ
commas [] = []
commas (w ∷ []) = w
commas (w ∷ (v ∷ vs)) = w ++ (44 ∷ commas (v ∷ vs))

-- a line without its end
unfoldable pub body : ℕ → Entry → List ℕ
body n e = 90 ∷ 9 ∷ (decimal e.position ++ (9 ∷ (decimal e.round ++ (9 ∷ commas (items n (at e.zone.codes) 81)))))

unfoldable pub line : ℕ → Entry → List ℕ
line n e = body n e ++ (10 ∷ [])

-- the line was put together; no entry's line is too long for that
abbrev pub LineSays : List ℕ → Result Line Refusal → Type 0
LineSays ds (Ok l) = text l ≡ ds
LineSays ds (Err e) = ⊥

-- the entry whose line the bytes are, or Line where they are no entry's
pub record Read (n : ℕ) (bs : List ℕ) (e : Entry) : Type 0 where
  pub is_entry : IsEntry n e
  pub writes : line n e ≡ bs
  pub only : (f : Entry) → IsEntry n f → line n f ≡ bs → f ≡ e

abbrev pub ReadSays : ℕ → List ℕ → Result Entry Refusal → Type 0
ReadSays n bs (Ok e) = Read n bs e
ReadSays n bs (Err e) = (e ≡ refused.Line) × ((f : Entry) → IsEntry n f → line n f ≢ bs)
