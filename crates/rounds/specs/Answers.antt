-- What remains of a zone, as the zone's own calls answer it.
use Rattle.std.specs.Prelude.{◌≡◌, List, length, Ok, Err, Result}
use Rattle.bounds.specs.declared.refusal.Refusal.{Refusal}
use Rattle.bounds.specs.declared.refusal.Refusal.TheVariants as refused
use Rattle.zones.specs.declared.zone.Cut.{Cut}
use Rattle.zones.specs.declared.zone.Cut.TheVariants as cut
use Rattle.zones.specs.declared.codes.Code.{Code}
use Rattle.zones.specs.Codes.{Sound}
use Rattle.rounds.specs.Codes.{Remains}
use Rattle.rounds.specs.Codes.Remains.{kept, empty, beyond}

-- what the call answers
abbrev pub answered : Remains → Result Cut Refusal
answered (kept zs) = Ok cut.Kept
answered empty = Ok cut.Empty
answered beyond = Err refused.Range

-- and the codes of the zone, xs before it, then
abbrev pub left : List Code → Remains → List Code
left xs (kept zs) = zs
left xs empty = xs
left xs beyond = xs

-- the codes of a zone
pub record ZoneCodes (xs : List Code) : Type 0 where
  pub many : length xs ≡ 81
  pub sound : Sound xs

abbrev pub Valid : Remains → Type 0
Valid (kept zs) = ZoneCodes zs
Valid empty = Unit {0}
Valid beyond = Unit {0}
