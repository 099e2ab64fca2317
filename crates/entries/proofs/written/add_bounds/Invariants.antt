use Rattle.std.proofs.Common.{◌≡◌, cond, [], ◌∷◌, ◌++◌}
use Rattle.zones.specs.Codes.{at}
use Rattle.byte_text.specs.Lines.{text}
use Rattle.entries.specs.Lines.{items, some, commas}
use Rattle.entries.proofs.written.add_bounds.Given as goal

abbrev pub invariant-loop-p : goal.invariant-loop-p
invariant-loop-p l = (l.separator ≡ cond (some (items l.clocks.count (at l.zone.codes) l.p)) (44 ∷ []) []) × (text l.line ≡ text l.initial.line ++ commas (items l.clocks.count (at l.zone.codes) l.p))
