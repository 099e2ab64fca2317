use Rattle.std.proofs.Common.{ℕ, ◌/◌, ◌%◌, ◌<◌, ◌-ℤ◌}
use Rattle.bounds.specs.Bounds.{Meets}
use Rattle.zones.specs.Codes.{decode, code_of}
use Rattle.zones.specs.States.{reading}
use Rattle.zones.proofs.zone.Zone.met.Given as goal

abbrev pub invariant-loop-p : goal.invariant-loop-p
invariant-loop-p l = (q : ℕ) → q < l.p → Meets l.state.scale (reading l.state.readings.now (q / 9) -ℤ reading l.state.readings.now (q % 9)) (decode (code_of l.self.codes q))
