-- Whether a held zone has another within it.
use Rattle.std.specs.Prelude.{◌≡◌, ℕ, Bool, List}
use Rattle.bounds.specs.Bounds.{UpperBound}
use Rattle.zones.specs.declared.codes.Code.{Code}
use Rattle.entries.specs.declared.entry.Entry.{Entry}
use Rattle.rounds.specs.Codes.{within_zone}
use Rattle.rounds.specs.Calls.{ZoneOf}
use Rattle.rounds.specs.Rounds.{covering}
use Rattle.distances.specs.Rows.{rows, Zones}

abbrev pub WithinTells : (UpperBound → UpperBound) → List Code → List Code → Bool → Type 0
WithinTells normal xs ys r = ZoneOf normal xs → ZoneOf normal ys → r ≡ within_zone xs ys

abbrev pub CoverTells : (UpperBound → UpperBound) → List Entry → ℕ → List Code → Bool → Type 0
CoverTells normal es p xs r = Zones normal es → ZoneOf normal xs → r ≡ covering (rows es) p xs
