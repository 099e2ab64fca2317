-- Bounds as they are read: whatever is no bound counts for nothing, since a line is taken only if it is the line of what was read.
use Rattle.std.specs.Prelude.{◌≡◌, ℕ, ◌+◌, ◌-◌, ◌*◌, ◌<◌, Bool, cond, ◌&&◌, List, [], ◌∷◌, length, drop, ℤ, pos, neg_ℤ, Some, None, Option, ◌==◌, nat_le, slice_index, slice_index_or, slice_set}
use Rattle.bounds.specs.declared.bound.Bound.{Bound}
use Rattle.bounds.specs.Sums.{bound_of}
use Rattle.zones.specs.Codes.{at}
use Rattle.byte_text.specs.Numerals.{number_to}
use Rattle.byte_text.specs.Parts.{Place}
use Rattle.entries.specs.declared.entry.Entry.{Entry}
use Rattle.entries.specs.declared.reading.Draft.{Draft}
use Rattle.entries.specs.Entries.{IsEntry}
use Rattle.entries.specs.Lines.{body, seen}

abbrev pub above : Option ℕ → Option ℤ
above None = None
above (Some n) = Some (pos n)

abbrev pub below : Option ℕ → Option ℤ
below None = None
below (Some n) = Some (neg_ℤ (pos n))

-- a number with `-` before it or not, of which those beyond ±4,000,001 are not told apart
unfoldable pub signed_of : List ℕ → Option ℤ
signed_of bs = cond (slice_index bs 0 == 45) (below (number_to 4000001 (drop 1 bs))) (above (number_to 4000001 bs))

-- a clock's digit, 0 to 8
abbrev pub clock : ℕ → Bool
clock b = nat_le 48 b && nat_le b 56

-- the clock that such a digit names
abbrev pub clock_of : ℕ → Option ℕ
clock_of b = cond (clock b) (Some (b - 48)) None

abbrev pub with_number : ℕ → Bool → Option ℤ → Option (ℕ × Bound)
with_number p closed None = None
with_number p closed (Some z) = Some (p, record { number = z; closed = closed })

-- how many bytes stand before the number
abbrev pub before_number : Bool → ℕ
before_number closed = cond closed 5 4

-- a place and its bound
unfoldable pub item_of : List ℕ → Option (ℕ × Bound)
item_of bs =
    cond (nat_le 5 (length bs) && (clock (slice_index bs 0) && clock (slice_index bs 2)))
    (with_number (9 * (slice_index bs 0 - 48) + (slice_index bs 2 - 48)) (slice_index bs 4 == 61) (signed_of (drop (before_number (slice_index bs 4 == 61)) bs)))
    None

abbrev pub noted : List (Option Bound) → Option (ℕ × Bound) → List (Option Bound)
noted bs None = bs
noted bs (Some i) = slice_set bs i.0 (Some i.1)

-- the bounds with those that the items give
unfoldable pub bounds_from : List Place → List (Option Bound) → List (Option Bound)
bounds_from [] bs = bs
bounds_from (p ∷ ps) bs = bounds_from ps (noted bs (item_of p.bytes))

-- position, round and the bounds that were written
pub record Drawn (n : ℕ) (e : Entry) (d : Draft) : Type 0 where
  pub position : d.position ≡ e.position
  pub round : d.round ≡ e.round
  pub bounds : (p : ℕ) → p < 81 → bound_of (slice_index_or d.bounds p None) ≡ seen n (at e.zone.codes) p

-- of a line without its end all is read
abbrev pub Drafted : ℕ → Entry → Option Draft → Type 0
Drafted n e None = ⊥
Drafted n e (Some d) = Drawn n e d

abbrev pub DraftSays : List ℕ → Option Draft → Type 0
DraftSays bs r = (n : ℕ) (e : Entry) → IsEntry n e → bs ≡ body n e → Drafted n e r
