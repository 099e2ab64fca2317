use Rattle.std.proofs.Common.{List, [], get_or, None, Option, refl, ap, ◌∙◌}
use Rattle.bounds.specs.declared.bound.Bound.{Bound}
use Rattle.bounds.specs.Sums.{bound_of}
use Rattle.byte_text.specs.Parts.{ahead, tail_places}
use Rattle.entries.proofs.Drafts.{clash, no_number, same_part, same_number, walk, head_0, head_1, head_2, head_3, position_back, round_back, all_back}
use Rattle.entries.proofs.reading.read_draft.Goals as goal

pub returns-in_err-_letter : goal.returns-in_err-_letter
returns-in_err-_letter c = λ n e is eq. clash _ (c.in_err-_letter.ensures.steps.first ∙ head_0 n e c.args.body.now (ahead c.new-fields.result) (tail_places (ahead c.new-fields.result)) [] [] c.new-fields.ensures refl is eq)

pub returns-in_err-position : goal.returns-in_err-position
returns-in_err-position c = λ n e is eq. clash _ (c.in_err-position.ensures.steps.first ∙ head_1 n e c.args.body.now (ahead c.new-fields.result) (ahead c.next.new.self) [] [] c.new-fields.ensures c.next.ensures.steps.rest is eq)

pub returns-in_err-round : goal.returns-in_err-round
returns-in_err-round c = λ n e is eq. clash _ (c.in_err-round.ensures.steps.first ∙ head_2 n e c.args.body.now (ahead c.new-fields.result) (ahead c.next.new.self) (ahead c.next-2.new.self) [] c.new-fields.ensures c.next.ensures.steps.rest is eq c.next-2.ensures.steps.rest)

pub returns-in_err-bounds : goal.returns-in_err-bounds
returns-in_err-bounds c = λ n e is eq. clash _ (c.in_err-bounds.ensures.steps.first ∙ head_3 n e c.args.body.now (ahead c.new-fields.result) (ahead c.next.new.self) (ahead c.next-2.new.self) (ahead c.next-3.new.self) c.new-fields.ensures c.next.ensures.steps.rest is eq c.next-2.ensures.steps.rest c.next-3.ensures.steps.rest)

pub returns-in_err-p : goal.returns-in_err-p
returns-in_err-p c = λ n e is eq.
    let h = same_part _ _ (c.in_ok-position.ensures.steps.first ∙ head_1 n e c.args.body.now (ahead c.new-fields.result) (ahead c.next.new.self) (ahead c.next-2.new.self) (ahead c.next-3.new.self) c.new-fields.ensures c.next.ensures.steps.rest is eq) in
    let w = walk n e c.args.body.now (ahead c.new-fields.result) (ahead c.next.new.self) (ahead c.next-2.new.self) (ahead c.next-3.new.self) c.new-fields.ensures c.next.ensures.steps.rest is eq in
    no_number _ (c.in_err-p.ensures ∙ position_back n e is _ (h ∙ w.position))

pub returns-in_err-r : goal.returns-in_err-r
returns-in_err-r c = λ n e is eq.
    let h = same_part _ _ (c.in_ok-round.ensures.steps.first ∙ head_2 n e c.args.body.now (ahead c.new-fields.result) (ahead c.next.new.self) (ahead c.next-2.new.self) (ahead c.next-3.new.self) c.new-fields.ensures c.next.ensures.steps.rest is eq c.next-2.ensures.steps.rest) in
    let w = walk n e c.args.body.now (ahead c.new-fields.result) (ahead c.next.new.self) (ahead c.next-2.new.self) (ahead c.next-3.new.self) c.new-fields.ensures c.next.ensures.steps.rest is eq in
    no_number _ (c.in_err-r.ensures ∙ round_back n e is _ (h ∙ w.round))

pub returns : goal.returns
returns c = λ n e is eq.
    let w = walk n e c.args.body.now (ahead c.new-fields.result) (ahead c.next.new.self) (ahead c.next-2.new.self) (ahead c.next-3.new.self) c.new-fields.ensures c.next.ensures.steps.rest is eq in
    let h1 = same_part _ _ (c.in_ok-position.ensures.steps.first ∙ head_1 n e c.args.body.now (ahead c.new-fields.result) (ahead c.next.new.self) (ahead c.next-2.new.self) (ahead c.next-3.new.self) c.new-fields.ensures c.next.ensures.steps.rest is eq) in
    let h2 = same_part _ _ (c.in_ok-round.ensures.steps.first ∙ head_2 n e c.args.body.now (ahead c.new-fields.result) (ahead c.next.new.self) (ahead c.next-2.new.self) (ahead c.next-3.new.self) c.new-fields.ensures c.next.ensures.steps.rest is eq c.next-2.ensures.steps.rest) in
    let h3 = same_part _ _ (c.in_ok-bounds.ensures.steps.first ∙ head_3 n e c.args.body.now (ahead c.new-fields.result) (ahead c.next.new.self) (ahead c.next-2.new.self) (ahead c.next-3.new.self) c.new-fields.ensures c.next.ensures.steps.rest is eq c.next-2.ensures.steps.rest c.next-3.ensures.steps.rest) in
    record {
      position = same_number _ _ (c.in_ok-p.ensures ∙ position_back n e is _ (h1 ∙ w.position));
      round = same_number _ _ (c.in_ok-r.ensures ∙ round_back n e is _ (h2 ∙ w.round));
      bounds = λ p l. ap (λ (bs : List (Option Bound)). bound_of (get_or bs p None)) c.read_bounds.ensures ∙ all_back n e is _ _ (h3 ∙ w.bounds) p l;
    }
