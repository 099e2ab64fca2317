use Rattle.std.proofs.Common.{◌≡◌, ℕ, ◌<◌, false, length, get_or}
use Rattle.zones.specs.Codes.{code_free, code_of}
use Rattle.zones.proofs.zone.Zone.freed.Given as goal

abbrev pub invariant-loop-p : goal.invariant-loop-p
invariant-loop-p l = (length l.code-items ≡ 81) × ((q : ℕ) → q < l.p → code_of l.code-items q ≡ code_free (λ i. get_or l.on i false) l.self.codes q)
