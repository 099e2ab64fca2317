use Rattle.std.proofs.Common.{◌+◌, ◌^◌, ◌<◌, length, Option, IfSome, subst, sym, ap, ◌∙◌, arith}
use Rattle.std.proofs.lemmas.List.{length-take-le}
use Rattle.byte_text.specs.declared.parts.Part.{Part}
use Rattle.byte_text.specs.Parts.{parts_left, head_place, tail_places}
use Rattle.byte_text.proofs.Parting.{walk_first, walk_more, walk_last, first_and_rest}
use Rattle.byte_text.proofs.parts.walk.PartsIterator.next.Goals as goal
use Rattle.byte_text.proofs.parts.walk.PartsIterator.next.Goals.{then-n-bytes, else-n-bytes}

pub returns-clause-steps : goal.returns-clause-steps
returns-clause-steps c =
    let b = c.args.self.now.mark in
    let p = c.in_ok-bytes.field-0 in
    record {
      first = walk_first b p.at p.bytes.now c.up_to-n.result c.up_to-n.ensures.value ∙ ap (λ o. head_place (parts_left b o)) (sym c.in_ok-bytes.was);
      rest =
          (elim c.if-n-bytes.branch [
            | then-n-bytes w ↦ ap (parts_left b) w.self-is ∙ walk_more b p.at p.bytes.now c.up_to-n.result c.up_to-n.ensures.value w.if-n-bytes.true
            | else-n-bytes w ↦ ap (parts_left b) w.self-is ∙ walk_last b p.at p.bytes.now c.up_to-n.result c.up_to-n.ensures.value w.if-n-bytes.false
          ])
          ∙ ap (λ o. tail_places (parts_left b o)) (sym c.in_ok-bytes.was);
      low =
          let f = subst (λ (o : Option Part). IfSome o (λ q. q.at + length q.bytes.now < 2 ^ 64)) c.in_ok-bytes.was c.args.self.now.fits in
          omega (arith, f, length-take-le c.up_to-n.result p.bytes.now c.up_to-n.ensures.bound);
    }

pub returns-clause-goes : goal.returns-clause-goes
returns-clause-goes c =
    let s = returns-clause-steps c in
    let e = ap length (first_and_rest _ _ _ s.first s.rest) in
    record { on = λ _. (tt, tt, omega (arith, e)); keeps = tt; rests = λ _. tt }
