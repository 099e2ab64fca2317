use Rattle.std.proofs.Common.{ℕ, ◌<◌, List, set, Some, Option, sym, ap, ◌∙◌, length-set, rules}
use Rattle.bounds.specs.declared.bound.Bound.{Bound}
use Rattle.byte_text.specs.Parts.{Place, ahead, tail_places}
use Rattle.entries.specs.Reading.{noted, bounds_from}
use Rattle.entries.proofs.ReadSteps.{item_place, bounds_step, bounds_end}
use Rattle.entries.proofs.reading.read_bounds.Goals as goal

pub bounds-bounds-place : goal.bounds-bounds-place
bounds-bounds-place c = item_place c.in-Some.item.bytes.now c.in-Some-read_item.place c.in-Some-read_item.bound c.in-Some-read_item.ensures

pub offset_bounds-bounds-place : goal.offset_bounds-bounds-place
offset_bounds-bounds-place c =
    let h : c.in-Some-read_item.place < 81 = item_place c.in-Some.item.bytes.now c.in-Some-read_item.place c.in-Some-read_item.bound c.in-Some-read_item.ensures in
    search rules

pub loop-item-preserved-in-Some-read_item : goal.loop-item-preserved-in-Some-read_item
loop-item-preserved-in-Some-read_item c =
    let ps = ahead c.loop-item.item-iterator in
    let bs = c.loop-item.bounds in (
      simp length-set c.loop-item.invariant.0,
      ap (λ (l : List Place). bounds_from l (set bs c.in-Some-read_item.place (Some c.in-Some-read_item.bound))) c.next.ensures.steps.rest
          ∙ ap (λ (o : Option (ℕ × Bound)). bounds_from (tail_places ps) (noted bs o)) c.in-Some-read_item.ensures
          ∙ sym (bounds_step ps bs c.next.result c.in-Some.item c.in-Some.is c.next.ensures.steps.first)
          ∙ c.loop-item.invariant.1,
    )

pub loop-item-preserved : goal.loop-item-preserved
loop-item-preserved c =
    let ps = ahead c.loop-item.item-iterator in
    let bs = c.loop-item.bounds in (
      c.loop-item.invariant.0,
      ap (λ (l : List Place). bounds_from l bs) c.next.ensures.steps.rest
          ∙ ap (λ (o : Option (ℕ × Bound)). bounds_from (tail_places ps) (noted bs o)) c.in_default.ensures
          ∙ sym (bounds_step ps bs c.next.result c.in-Some.item c.in-Some.is c.next.ensures.steps.first)
          ∙ c.loop-item.invariant.1,
    )

pub returns : goal.returns
returns c = sym (bounds_end (ahead c.loop-item.item-iterator) c.loop-item.bounds c.next.result c.in-None.is c.next.ensures.steps.first) ∙ c.loop-item.invariant.1
