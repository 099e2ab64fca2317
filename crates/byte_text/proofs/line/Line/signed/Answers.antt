use Rattle.std.proofs.Common.{[], ◌∷◌, ◌++◌, length, decimal, ap, ◌∙◌, append_assoc, arith, length-append, to_z-of_z}
use Rattle.byte_text.specs.Lines.{text}
use Rattle.byte_text.proofs.Writing.{signed_below}
use Rattle.byte_text.proofs.line.Line.signed.Goals as goal

pub digits-requires : goal.digits-requires
digits-requires c = omega (arith, ap length c.lay.ensures, length-append (text c.args.self.now) (45 ∷ []))

pub returns-then-z-lt0 : goal.returns-then-z-lt0
returns-then-z-lt0 c =
    let e = signed_below _ c.args.z c.from-n.result (to_z-of_z c.ranges.z) c.if-z-lt0.true (c.from-n.ensures ∙ c.unsigned_abs.ensures.value) in (
      omega (arith, ap length e),
      c.digits.ensures ∙ ap (λ l. l ++ decimal c.from-n.result) c.lay.ensures ∙ append_assoc (text c.args.self.now) (45 ∷ []) (decimal c.from-n.result) ∙ ap (λ l. text c.args.self.now ++ l) e,
    )
