use Rattle.std.proofs.Common.{◌≤◌, length}
use Rattle.print_zones.proofs.fill.Given as goal

abbrev pub invariant-loop : goal.invariant-loop
invariant-loop g l = l.length ≤ length l.buffer
