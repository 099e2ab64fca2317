use Rattle.std.proofs.Common.{◌≡◌, ℕ, ◌<◌, length}
use Rattle.zones.specs.Codes.{code_front, code_of}
use Rattle.zones.proofs.zone.Zone.backed.Given as goal

abbrev pub invariant-loop-j : goal.invariant-loop-j
invariant-loop-j l = (length l.code-items ≡ 9) × ((q : ℕ) → q < l.j → code_of l.code-items q ≡ code_front l.self.codes 8 q)
