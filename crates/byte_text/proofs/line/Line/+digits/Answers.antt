use Rattle.std.proofs.Common.{◌≡◌, ◌+◌, ◌/◌, ◌%◌, [], ◌∷◌, ◌++◌, length, decimal, sym, ap, ◌∙◌, append_assoc, arith, length-append}
use Rattle.std.proofs.lemmas.Fmt.{decimal_digit, decimal_step}
use Rattle.byte_text.specs.Lines.{text}
use Rattle.byte_text.proofs.Writing.{length_digit, length_step}
use Rattle.byte_text.proofs.line.Line.+digits.Goals as goal
use Rattle.byte_text.proofs.line.Line.+digits.Goals.{then-n-ge10, else-n-ge10}

pub digits-requires : goal.digits-requires
digits-requires t c = let e = length_step c.args.n c.if-n-ge10.true c.ranges.n.fits in (omega arith, omega arith)

pub lay-requires : goal.lay-requires
lay-requires t c =
    elim c.if-n-ge10.branch [
      | then-n-ge10 w ↦ let e = length_step c.args.n w.if-n-ge10.true c.ranges.n.fits in
          omega (arith, ap length (ap text w.self-is ∙ w.digits.ensures), length-append (text c.args.self.now) (decimal (c.args.n / 10)))
      | else-n-ge10 w ↦ let e = length_digit c.args.n w.if-n-ge10.false in omega (arith, ap length (ap text w.self-is))
    ]

pub returns : goal.returns
returns t c =
    elim c.if-n-ge10.branch [
      | then-n-ge10 w ↦
          c.lay.ensures
          ∙ ap (λ l. l ++ ((48 + c.args.n % 10) ∷ [])) (ap text w.self-is ∙ w.digits.ensures)
          ∙ append_assoc (text c.args.self.now) (decimal (c.args.n / 10)) ((48 + c.args.n % 10) ∷ [])
          ∙ ap (λ l. text c.args.self.now ++ l) (sym (decimal_step c.args.n w.if-n-ge10.true c.ranges.n.fits))
      | else-n-ge10 w ↦
          let m : c.args.n % 10 ≡ c.args.n = omega arith in
          c.lay.ensures
          ∙ (λ i. text (w.self-is i) ++ ((48 + m i) ∷ []))
          ∙ ap (λ l. text c.args.self.now ++ l) (sym (decimal_digit c.args.n w.if-n-ge10.false))
    ]
