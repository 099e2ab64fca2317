use Rattle.std.proofs.Common.{◌≡◌, ℕ, ◌<◌, true, false}
use Rattle.zones.specs.Codes.{code_at}
use Rattle.zones.proofs.codes.every.Given as goal

abbrev pub invariant-loop-code : goal.invariant-loop-code
invariant-loop-code g l = (l.every ≡ true → (q : ℕ) → q < l.code-index → g.F.Fn.post l.test (code_at l.codes q, tt) true) × (l.every ≡ false → (q : ℕ) × (q < l.code-index) × g.F.Fn.post l.test (code_at l.codes q, tt) false)
