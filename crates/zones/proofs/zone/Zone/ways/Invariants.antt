use Rattle.std.proofs.Common.{◌≡◌, ℕ, ◌+◌, ◌*◌, ◌/◌, ◌%◌, ◌<◌, min, length}
use Rattle.zones.specs.Codes.{code_plus, code_of}
use Rattle.zones.proofs.zone.Zone.ways.Given as goal

abbrev pub invariant-loop-p : goal.invariant-loop-p
invariant-loop-p l = (length l.next ≡ 81) × ((q : ℕ) → q < l.p → code_of l.next q ≡ min (code_of l.self.codes q) (code_plus (code_of l.halves (q / 9)) (code_of l.self.codes (9 * l.new.column + q % 9))))
