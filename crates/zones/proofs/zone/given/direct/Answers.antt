use Rattle.std.proofs.Common.{◌+◌, ◌*◌, ◌/◌, ◌%◌, ◌≤◌, refl, rules}
use Rattle.std.proofs.lemmas.Iterator.{cases_from_all, YieldsList-from_range}
use Rattle.zones.specs.Codes.{code_of, code_plus}
use Rattle.zones.proofs.Ranges.{below_all}
use Rattle.zones.proofs.zone.given.direct.Goals as goal

pub returns : goal.returns
returns c =
    let a = below_all (λ k. code_of c.args.codes.now c.args.p ≤ code_plus (code_of c.args.codes.now (9 * (c.args.p / 9) + k)) (code_of c.args.codes.now (9 * k + c.args.p % 9))) 9 c.all.result
    (cases_from_all _ _ c.all.result (λ k. code_of c.args.codes.now c.args.p ≤ code_plus (code_of c.args.codes.now (9 * (c.args.p / 9) + k)) (code_of c.args.codes.now (9 * k + c.args.p % 9))) (λ k. code_of c.args.codes.now c.args.p ≤ code_plus (code_of c.args.codes.now (9 * (c.args.p / 9) + k)) (code_of c.args.codes.now (9 * k + c.args.p % 9)) → ⊥) c.all.ensures.ran (YieldsList-from_range 0 9 9 refl refl) (λ x q k. search rules) (λ x q k. search rules)) in
    (λ e. record { diagonal = search rules; front = search rules; around = a.0 e }, λ d. a.1 d.around)
