use Rattle.std.proofs.Common.{◌+◌, ◌∙◌, rules}
use Rattle.std.proofs.lemmas.List.{take_rest}
use Rattle.texts.proofs.BoxSteps.{sign_there, no_sign, bound_closed, bound_open, none_first}
use Rattle.texts.proofs.boxes.bound_in.Goals as goal

pub returns-in_err-k : goal.returns-in_err-k
returns-in_err-k c = c.from_residual.ensures ∙ no_sign c.args.bytes.now c.in_err-k.ensures

pub returns-in-61 : goal.returns-in-61
returns-in-61 c =
    let s = sign_there c.args.bytes.now c.in_ok-k.k c.in_ok-k.ensures in
    c.bound_of.ensures ∙ bound_closed c.args.bytes.now c.in_ok-k.k s.0 s.1 _ (take_rest c.args.bytes.now (c.in_ok-k.k + 1)) (search rules)

pub returns-in_default : goal.returns-in_default
returns-in_default c =
    let s = sign_there c.args.bytes.now c.in_ok-k.k c.in_ok-k.ensures in
    c.bound_of-in_default.ensures ∙ bound_open c.args.bytes.now c.in_ok-k.k s.0 s.1 _ (take_rest c.args.bytes.now (c.in_ok-k.k + 1)) (search (rules, none_first))
