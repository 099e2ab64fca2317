use Rattle.std.proofs.Common.{◌≡◌, length, replicate, None}
use Rattle.byte_text.specs.Parts.{parted, within, ahead}
use Rattle.entries.specs.Reading.{bounds_from}
use Rattle.entries.proofs.reading.read_bounds.Given as goal

abbrev pub invariant-loop-item : goal.invariant-loop-item
invariant-loop-item l = (length l.bounds ≡ 81) × (bounds_from (ahead l.item-iterator) l.bounds ≡ bounds_from (parted 44 (within l.part.at l.part.bytes.now) l.part.bytes.now) (replicate 81 None))
