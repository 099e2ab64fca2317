-- The calls of a zone, given by functions on codes
use Rattle.std.proofs.Common.{ℕ, Bool}
use Rattle.bounds.specs.Bounds.{UpperBound}
use Rattle.bounds.specs.Domains.{scales}
use Rattle.bounds.proofs.ScaleLaws.{ScaleLaws, scale_laws}
use Rattle.rounds.specs.Calls.{CallsGiven, ZoneCallsGiven}
use Rattle.rounds.proofs.Cutting.{box_fine, box_only}
use Rattle.rounds.proofs.Calling.{whole_only, back_fine, back_only, undo_fine, undo_only, within_inside, inside_within, within_only, holds_yes, yes_holds, holds_only}

given : (allows : ℕ → Bool) (normal : UpperBound → UpperBound) → ScaleLaws (scales allows) normal → CallsGiven allows normal
given allows normal K = record {
  all_only = whole_only;
  box_says = λ sides xs p z. box_fine K sides p xs z.of_domain z.codes;
  box_only = λ sides xs ys r p z y b. box_only K sides xs p z.of_domain z.codes ys y r b;
  back_says = λ xs z. back_fine K xs z.codes z.of_domain;
  back_only = λ xs ys u z y b. back_only K xs z.codes z.of_domain ys y u b;
  undo_says = λ r xs r0 z. undo_fine K r r0 xs z.codes z.of_domain;
  undo_only = λ cs r xs ys a known r0 agree z y b. undo_only K r r0 xs z.codes z.of_domain cs known agree ys y a b;
  within_says = λ xs ys z y. (within_inside K xs ys z.codes y z.of_domain, inside_within K xs ys z.codes y z.of_domain);
  within_only = λ xs ys b z y w. within_only K xs ys z.codes y z.of_domain b w;
  holds_says = λ xs D v. (holds_yes xs D v, yes_holds xs D v);
  holds_only = holds_only allows normal;
}

pub zone_calls_given : ZoneCallsGiven
zone_calls_given allows normal K = given allows normal (scale_laws allows normal K)
