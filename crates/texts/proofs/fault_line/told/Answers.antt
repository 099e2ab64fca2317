use Rattle.std.proofs.Common.{[], ◌∷◌, length, decimal, ap, arith}
use Rattle.texts.proofs.Telling.{longer, few_digits}
use Rattle.texts.proofs.fault_line.told.Goals as goal

pub returns-in_err-number : goal.returns-in_err-number
returns-in_err-number c =
    absurd (omega (arith, c.in_err-number.ensures.1, few_digits c.from.result c.from.type_inv, ap length c.new-line.ensures, longer _ _ (69 ∷ 9 ∷ []) c.in_ok-word.ensures.1))

pub returns-in_err-push : goal.returns-in_err-push
returns-in_err-push c =
    absurd (omega (arith, c.in_err-push.ensures.1, few_digits c.from.result c.from.type_inv, ap length c.new-line.ensures, longer _ _ (69 ∷ 9 ∷ []) c.in_ok-word.ensures.1, longer _ _ (decimal c.from.result) c.in_ok-number.ensures.1))

pub returns-in_err-number-2 : goal.returns-in_err-number-2
returns-in_err-number-2 c =
    absurd (omega (arith, c.in_err-number-2.ensures.1, few_digits c.from.result c.from.type_inv, few_digits c.args.number c.ranges.number.fits, ap length c.new-line.ensures, longer _ _ (69 ∷ 9 ∷ []) c.in_ok-word.ensures.1, longer _ _ (decimal c.from.result) c.in_ok-number.ensures.1, longer _ _ (9 ∷ []) c.in_ok-push.ensures.1))

pub returns-in_err-push-2 : goal.returns-in_err-push-2
returns-in_err-push-2 c =
    absurd (omega (arith, c.in_err-push-2.ensures.1, few_digits c.from.result c.from.type_inv, few_digits c.args.number c.ranges.number.fits, ap length c.new-line.ensures, longer _ _ (69 ∷ 9 ∷ []) c.in_ok-word.ensures.1, longer _ _ (decimal c.from.result) c.in_ok-number.ensures.1, longer _ _ (9 ∷ []) c.in_ok-push.ensures.1, longer _ _ (decimal c.args.number) c.in_ok-number-2.ensures.1))
