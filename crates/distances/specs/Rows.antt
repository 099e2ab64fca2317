-- The entries of a store as a round has them.
use Rattle.std.specs.Prelude.{ℕ, ◌<◌, List, map, length}
use Rattle.bounds.specs.Bounds.{UpperBound}
use Rattle.entries.specs.declared.entry.Entry.{Entry}
use Rattle.rounds.specs.Calls.{ZoneOf}
use Rattle.rounds.specs.Rounds.{Entry as Row, entry_at}

-- position, round and the codes of the zone
abbrev pub row : Entry → Row
row e = record { position = e.position; round = e.round; zone = e.zone.codes }

abbrev pub rows : List Entry → List Row
rows es = map row es

-- the zones held are of the time domain
abbrev pub Zones : (UpperBound → UpperBound) → List Entry → Type 0
Zones normal es = (k : ℕ) → k < length es → ZoneOf normal (entry_at (rows es) k).zone
