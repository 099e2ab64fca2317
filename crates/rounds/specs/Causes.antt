-- Why a round ends as it does.
use Rattle.std.specs.Prelude.{◌≡◌, ℕ, ◌+◌, ◌<◌, false, List, [], ◌∷◌, ◌++◌, length, slice_index_or}
use Rattle.zones.specs.declared.codes.Code.{Code}
use Rattle.plans.specs.Meaning.{PlanMeaning}
use Rattle.rounds.specs.Codes.Remains.{kept, empty, beyond}
use Rattle.rounds.specs.Rounds.{Entry, Start, covering, starts, Turn, round}
use Rattle.rounds.specs.Rounds.Turn.{done, full, range}

-- what entries need together
abbrev pub needs : (Entry → ℕ) → List Entry → ℕ
needs need [] = 0
needs need (e ∷ es) = need e + needs need es

-- entries were put at the end, and the room fell by their needs
abbrev pub Spent : (Entry → ℕ) → List Entry → ℕ → List Entry → ℕ → Type 0
Spent need es room fs left = (gs : List Entry) × (fs ≡ es ++ gs) × (needs need gs + left ≡ room)

abbrev pub start_at : List Start → ℕ → Start
start_at cs k = slice_index_or cs k (record { position = 0; zone = empty })

-- some start's zone lies within no held one, and its entry's need is above the room left
abbrev pub NoRoom : (Entry → ℕ) → ℕ → List Start → List Entry → ℕ → Type 0
NoRoom need f cs fs left = (k : ℕ) × (z : List Code) × (k < length cs) × ((start_at cs k).zone ≡ kept z) × (covering fs (start_at cs k).position z ≡ false)
    × (left < need (record { position = (start_at cs k).position; round = f; zone = z }))

-- a zone call of some start left the range
abbrev pub OutOfRange : List Start → Type 0
OutOfRange cs = (k : ℕ) × (k < length cs) × ((start_at cs k).zone ≡ beyond)

abbrev pub Because : (Entry → ℕ) → ℕ → List Start → List Entry → ℕ → Turn → Type 0
Because need f cs es room (done fs left) = Spent need es room fs left × (OutOfRange cs → ⊥)
Because need f cs es room (full fs left) = Spent need es room fs left × NoRoom need f cs fs left
Because need f cs es room (range fs left) = Spent need es room fs left × OutOfRange cs

-- for any plan, entries, room and round
abbrev pub RoundsCaused : Type 0
RoundsCaused = (M : PlanMeaning) (need : Entry → ℕ) (f : ℕ) (es : List Entry) (room : ℕ) → Because need f (starts M f es) es room (round M need f es room)
