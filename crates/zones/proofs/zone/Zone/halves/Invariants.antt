use Rattle.std.proofs.Common.{◌≡◌, ℕ, ◌+◌, ◌*◌, ◌<◌, length}
use Rattle.zones.specs.Codes.{code_plus, code_of}
use Rattle.zones.proofs.zone.Zone.halves.Given as goal

abbrev pub invariant-loop-a : goal.invariant-loop-a
invariant-loop-a l = (length l.half-items ≡ 9) × ((q : ℕ) → q < l.a → code_of l.half-items q ≡ code_plus (code_of l.self.codes (9 * q + l.new.row)) l.new.code.0)
