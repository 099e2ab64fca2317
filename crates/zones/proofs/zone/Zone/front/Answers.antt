use Rattle.std.proofs.Common.{◌≡◌, ◌+◌, ◌-◌, ◌*◌, min, refl, ap, ◌∙◌, arith}
use Rattle.zones.specs.Codes.{code_front, code_of}
use Rattle.zones.proofs.Codings.{front_more}
use Rattle.zones.proofs.zone.Zone.front.Goals as goal

pub loop-k-init : goal.loop-k-init
unfolding code_front
loop-k-init c = (omega arith, refl)

pub loop-k-preserved : goal.loop-k-preserved
loop-k-preserved c =
    let xs = c.args.self.now.codes in
    let place : 9 * c.loop-k.k + c.args.j ≡ 9 * (c.loop-k.k - 1) + 9 + c.args.j = omega arith in
    let next : c.loop-k.k - 1 + 1 ≡ c.loop-k.k + 1 - 1 = omega arith in (
      omega arith,
      front_more xs (c.loop-k.k - 1) c.args.j c.loop-k.best.0 _ c.loop-k.invariant.1 (c.tighter-best.ensures ∙ ap (λ n. min c.loop-k.best.0 (code_of c.args.self.now.codes n)) place) ∙ ap (λ n. code_front c.args.self.now.codes n c.args.j) next,
    )

pub returns : goal.returns
returns c =
    let e : c.loop-k.k - 1 ≡ 8 = omega arith in
    c.loop-k.invariant.1 ∙ ap (λ n. code_front c.args.self.now.codes n c.args.j) e
