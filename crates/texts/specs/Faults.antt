-- Faults without their references, and the steps of a line that refuse it as a whole.
use Rattle.std.specs.Prelude.{ℕ, Bool, cond, List, [], ◌∷◌, Ok, Err, Result}
use Rattle.bounds.specs.declared.refusal.Refusal.{Refusal}
use Rattle.bounds.specs.declared.refusal.Refusal.TheVariants.{Line}
use Rattle.byte_text.specs.Parts.{Place, place, parted}
use Rattle.texts.specs.declared.fault.TextFault.{TextFault}
use Rattle.texts.specs.declared.spot.Spot.{Spot}
use Rattle.texts.specs.declared.spot.Spot.TheVariants as spots

-- a fault, with its part as a place
pub record Fault : Type 0 where
  pub refusal : Refusal
  pub spot : Spot
  pub part : Place

abbrev pub fault : TextFault → Fault
fault f = record { refusal = f.refusal; spot = f.spot; part = place f.part }

-- a result without its references, where the value has none
abbrev pub faulty : {X : Type 0} → Result X TextFault → Result X Fault
faulty (Ok x) = Ok x
faulty (Err f) = Err (fault f)

abbrev pub refused : {X : Type 0} → Refusal → Spot → Place → Result X Fault
refused r spot p = Err (record { refusal = r; spot = spot; part = p })

-- go on with what was read; a fault passes as it is
abbrev pub on : {X Y : Type 0} → Result X Fault → (X → Result Y Fault) → Result Y Fault
on (Ok x) f = f x
on (Err e) f = Err e

-- the fields of the line p
abbrev pub fields_of : Place → List Place
fields_of p = parted 9 p.at p.bytes

-- the next field of the line p
abbrev pub field_next : ℕ → Place → List Place → Result Place Fault
field_next line p [] = refused Line (spots.Line line) p
field_next line p (q ∷ qs) = Ok q

abbrev pub no_field : ℕ → Place → List Place → Result (Unit {0}) Fault
no_field line p [] = Ok tt
no_field line p (q ∷ qs) = refused Line (spots.Line line) p

abbrev pub demanded : Bool → Refusal → ℕ → Place → Result (Unit {0}) Fault
demanded b r line p = cond b (Ok tt) (refused r (spots.Line line) p)
