use Rattle.std.proofs.Common.{◌≡◌}
use Rattle.byte_text.specs.Parts.{place, ahead}
use Rattle.texts.specs.Items.{items_from, items_of, bytes_of}
use Rattle.texts.proofs.items.read_items.Given as goal

abbrev pub invariant-loop-item : goal.invariant-loop-item
invariant-loop-item g l = items_from (g.L.Listed.item l.standing.clocks) l.named l.list (bytes_of (ahead l.item-iterator)) ≡ items_of (g.L.Listed.item l.standing.clocks) l.fn.list (place l.part)
