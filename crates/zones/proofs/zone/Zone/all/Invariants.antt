use Rattle.std.proofs.Common.{◌≡◌, ℕ, ◌<◌, length}
use Rattle.zones.specs.Codes.{code_all, code_of}
use Rattle.zones.proofs.zone.Zone.all.Given as goal

abbrev pub invariant-loop-p : goal.invariant-loop-p
invariant-loop-p l = (length l.code-items ≡ 81) × ((q : ℕ) → q < l.p → code_of l.code-items q ≡ code_all q)
