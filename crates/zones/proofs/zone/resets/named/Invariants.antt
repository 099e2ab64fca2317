use Rattle.std.proofs.Common.{◌≡◌, ℕ, ◌<◌, false, length, get_or}
use Rattle.zones.specs.Resets.{among}
use Rattle.zones.proofs.zone.resets.named.Given as goal

abbrev pub invariant-loop-c : goal.invariant-loop-c
invariant-loop-c l = (length l.on ≡ 9) × ((k : ℕ) → k < l.c-index → get_or l.clocks k 0 < 9) × ((i : ℕ) → i < 9 → get_or l.on i false ≡ among l.clocks l.c-index i)
