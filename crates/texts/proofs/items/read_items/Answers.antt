use Rattle.std.proofs.Common.{Ok, Err, sym, ap, ◌∙◌}
use Rattle.std.proofs.lemmas.Bool.{cond-true, cond-false}
use Rattle.std.proofs.lemmas.Result.{err_from_is_err_and}
use Rattle.byte_text.specs.Parts.{place, ahead}
use Rattle.texts.proofs.ItemSteps.{items_dash, items_begin, items_end, item_refused, item_none, item_some}
use Rattle.texts.proofs.items.read_items.Goals as goal

pub returns-then-is_dash : goal.returns-then-is_dash
returns-then-is_dash g c = items_dash (g.L.Listed.item c.args.standing.clocks) c.args.list (place c.args.part) c.if-is_dash.ensures

pub loop-item-init : goal.loop-item-init
loop-item-init g c =
    items_begin (g.L.Listed.item c.args.standing.clocks) c.args.list (place c.args.part) _ _ c.if-is_dash.ensures
    (ap ahead c.into_iter-item-iterator.ensures.into_iter_gives ∙ c.new-item-items.ensures)

pub returns-in_err-more : goal.returns-in_err-more
returns-in_err-more g c =
    let p = err_from_is_err_and c.from_residual.result c.from_residual.ensures.1 in
    let s = c.in-Some.ensures.steps in
    p.1 ∙ (ap (λ r. Err r) p.2 ∙ (sym (item_refused (g.L.Listed.item c.args.standing.clocks) c.loop-item.named c.loop-item.list (place c.in-Some.item) (ahead c.loop-item.item-iterator) (ahead c.next.new.self) s.first s.rest c.in_err-more.field-0.0 c.in_err-more.ensures) ∙ c.loop-item.invariant))

pub loop-item-preserved-in-Some-2 : goal.loop-item-preserved-in-Some-2
loop-item-preserved-in-Some-2 g c =
    let s = c.in-Some.ensures.steps in
    sym (item_some (g.L.Listed.item c.args.standing.clocks) c.loop-item.named c.loop-item.list (place c.in-Some.item) (ahead c.loop-item.item-iterator) (ahead c.next.new.self) s.first s.rest c.in-Some-2.more (ap Ok (sym c.in-Some-2.is) ∙ c.in_ok-more.ensures)) ∙ c.loop-item.invariant

pub loop-item-preserved : goal.loop-item-preserved
loop-item-preserved g c =
    let s = c.in-Some.ensures.steps in
    sym (item_none (g.L.Listed.item c.args.standing.clocks) c.loop-item.named c.loop-item.list (place c.in-Some.item) (ahead c.loop-item.item-iterator) (ahead c.next.new.self) s.first s.rest (ap Ok (sym c.in-None-2.is) ∙ c.in_ok-more.ensures)) ∙ c.loop-item.invariant

pub returns-then-named : goal.returns-then-named
returns-then-named g c =
    sym (items_end (g.L.Listed.item c.args.standing.clocks) c.loop-item.named c.loop-item.list (ahead c.loop-item.item-iterator) c.in-None.ensures.steps.first ∙ cond-true _ _ _ c.if-named.true) ∙ c.loop-item.invariant

pub returns-else-named : goal.returns-else-named
returns-else-named g c =
    sym (items_end (g.L.Listed.item c.args.standing.clocks) c.loop-item.named c.loop-item.list (ahead c.loop-item.item-iterator) c.in-None.ensures.steps.first ∙ cond-false _ _ _ c.if-named.false) ∙ c.loop-item.invariant
