use Rattle.std.proofs.Common.{◌+◌, ◌*◌, Bor, List, ℕ, Some, ap, ◌∙◌, to_z-of_z, w32, SFits, is_some, rules}
use Rattle.entries.specs.Reading.{with_number, signed_of}
use Rattle.entries.proofs.ReadSteps.{rest, item_short, item_first, item_third, item_made}
use Rattle.entries.proofs.reading.read_item.Goals as goal

pub returns-in_default : goal.returns-in_default
returns-in_default c = item_short c.args.bytes.now c.in_default.len_below

pub returns-in_err-read_clock : goal.returns-in_err-read_clock
returns-in_err-read_clock c = c.from_residual.ensures ∙ item_first c.args.bytes.now c.in_err-read_clock.ensures

pub returns-in_err-place : goal.returns-in_err-place
returns-in_err-place c = c.from_residual-in_err-place.ensures ∙ item_third c.args.bytes.now c.in_err-place.ensures

pub returns-in_err-number : goal.returns-in_err-number
returns-in_err-number c =
    let bs = c.args.bytes.now in
    let r = c.strip_prefix-after_equals.result in
    let p = 9 * c.in_ok-read_clock.field-0 + c.in_ok-place.field-0 in
    c.from_residual-in_err-number.ensures
    ∙ ap (with_number p (is_some r)) (c.in_err-number.ensures ∙ ap (λ (x : Bor (List ℕ)). signed_of x.now) c.unwrap_or.ensures)
    ∙ item_made bs _ _ r _ c.in-len4-up.len_at_least (rest 4 bs) c.in_ok-read_clock.ensures c.in_ok-place.ensures c.strip_prefix-after_equals.ensures.cases

pub returns : goal.returns
returns c =
    let bs = c.args.bytes.now in
    let r = c.strip_prefix-after_equals.result in
    let p = 9 * c.in_ok-read_clock.field-0 + c.in_ok-place.field-0 in
    let f : SFits w32 c.in_ok-number.number = search rules in
    (λ k. with_number p (c.is_some-closed.ensures k) (Some (to_z-of_z f k)))
    ∙ ap (with_number p (is_some r)) (c.in_ok-number.ensures ∙ ap (λ (x : Bor (List ℕ)). signed_of x.now) c.unwrap_or.ensures)
    ∙ item_made bs _ _ r _ c.in-len4-up.len_at_least (rest 4 bs) c.in_ok-read_clock.ensures c.in_ok-place.ensures c.strip_prefix-after_equals.ensures.cases
