-- The first entry that holds a state.
use Rattle.std.specs.Prelude.{◌≡◌, ℕ, Bool, List, Option}
use Rattle.bounds.specs.Bounds.{UpperBound}
use Rattle.zones.specs.declared.codes.Code.{Code}
use Rattle.zones.specs.States.{Good, value_of}
use Rattle.entries.specs.declared.entry.Entry.{Entry}
use Rattle.rounds.specs.Calls.{ZoneOf}
use Rattle.rounds.specs.Held.{holds_state}
use Rattle.rounds.specs.Searches.{find}
use Rattle.distances.specs.Rows.{rows, Zones}

abbrev pub HoldTells : (ℕ → Bool) → (UpperBound → UpperBound) → ℕ → List ℕ → List Code → Bool → Type 0
HoldTells allows normal D rs xs r = ZoneOf normal xs → Good allows D rs → r ≡ holds_state xs D (value_of rs)

abbrev pub FindTells : (ℕ → Bool) → (UpperBound → UpperBound) → List Entry → ℕ → ℕ → List ℕ → Option ℕ → Type 0
FindTells allows normal es D p rs r = Zones normal es → Good allows D rs → r ≡ find (rows es) D p (value_of rs)
