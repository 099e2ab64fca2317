-- What remains of a zone, as code tells it.
use Rattle.std.specs.Prelude.{◌≡◌, ℕ, ◌<◌, Bool, List, Some, None, Ok, Err, Option, Result}
use Rattle.bounds.specs.declared.refusal.Refusal.{Refusal}
use Rattle.bounds.specs.declared.refusal.Refusal.TheVariants as refused
use Rattle.bounds.specs.Bounds.{UpperBound}
use Rattle.zones.specs.declared.codes.Code.{Code}
use Rattle.zones.specs.declared.boxes.Side.{Side}
use Rattle.zones.specs.declared.zone.Cut.{Cut}
use Rattle.zones.specs.declared.zone.Cut.TheVariants as cut
use Rattle.zones.specs.declared.zone.Zone.{Zone}
use Rattle.zones.specs.Boxes.{Plain}
use Rattle.zones.specs.Calls.{Known}
use Rattle.zones.specs.Resets.{reset}
use Rattle.rounds.specs.Codes.{Remains, then, cut_box, back_zone, undo_zone}
use Rattle.rounds.specs.Codes.Remains.{kept, empty, beyond}
use Rattle.rounds.specs.Calls.{ZoneOf}
use Rattle.rounds.specs.Rounds.{resets_of}

-- a zone, or none where no state remains
abbrev pub remains : Option Zone → Remains
remains (Some z) = kept z.codes
remains None = empty

-- and the refusal by Range where a number left the range
abbrev pub Tells : Remains → Result (Option Zone) Refusal → Type 0
Tells o (Ok left) = o ≡ remains left
Tells o (Err e) = (o ≡ beyond) × (e ≡ refused.Range)

-- a zone of the time domain, if a zone remains
abbrev pub RemainsOf : (UpperBound → UpperBound) → Remains → Type 0
RemainsOf normal (kept xs) = ZoneOf normal xs
RemainsOf normal empty = Unit {0}
RemainsOf normal beyond = Unit {0}

-- the zone, if the call kept some of its states
abbrev pub zone_left : Zone → Cut → Option Zone
zone_left z cut.Kept = Some z
zone_left z cut.Empty = None

-- a zone alone, which is never empty
abbrev pub TellsZone : Remains → Result Zone Refusal → Type 0
TellsZone o (Ok z) = o ≡ kept z.codes
TellsZone o (Err e) = (o ≡ beyond) × (e ≡ refused.Range)

-- calls on a zone of the time domain
abbrev pub CutTells : (UpperBound → UpperBound) → List Side → List Code → Result (Option Zone) Refusal → Type 0
CutTells normal sides xs r = Plain sides → ZoneOf normal xs → Tells (cut_box normal sides xs) r

abbrev pub BackTells : (UpperBound → UpperBound) → List Code → Result Zone Refusal → Type 0
BackTells normal xs r = ZoneOf normal xs → TellsZone (back_zone xs) r

abbrev pub HomeTells : (UpperBound → UpperBound) → List Side → List Code → Result (Option Zone) Refusal → Type 0
HomeTells normal sides xs r = Plain sides → ZoneOf normal xs → Tells (then (back_zone xs) (cut_box normal sides)) r

abbrev pub UndoTells : (UpperBound → UpperBound) → List Bool → List Code → Result (Option Zone) Refusal → Type 0
UndoTells normal rs xs r = ZoneOf normal xs → Tells (undo_zone (resets_of rs) xs) r

-- the list names exactly the clocks that are reset, and clock 0
pub record Lists (rs : List Bool) (cs : List ℕ) : Type 0 where
  pub known : Known cs
  pub same : (i : ℕ) → i < 9 → resets_of rs i ≡ reset cs i
