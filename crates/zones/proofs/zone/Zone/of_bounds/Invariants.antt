use Rattle.std.proofs.Common.{◌≡◌, ℕ, ◌<◌, length, get_or, None}
use Rattle.bounds.specs.Sums.{bound_of}
use Rattle.zones.specs.Codes.{Near, decode, code_of}
use Rattle.zones.proofs.zone.Zone.of_bounds.Given as goal

abbrev pub invariant-loop-p : goal.invariant-loop-p
invariant-loop-p l = (length l.code-items ≡ 81) × ((q : ℕ) → q < l.p → Near 4000000 (code_of l.code-items q) × (decode (code_of l.code-items q) ≡ bound_of (get_or l.bounds q None)))
