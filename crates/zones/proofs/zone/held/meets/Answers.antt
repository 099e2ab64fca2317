use Rattle.std.proofs.Common.{◌≡◌, ◌<◌, refl, arith}
use Rattle.std.proofs.lemmas.Bool.Decides.{nat_tests}
use Rattle.zones.proofs.Meeting.{met_none, met_closed, met_open}
use Rattle.zones.proofs.zone.held.meets.Goals as goal

pub returns-then-eq : goal.returns-then-eq
returns-then-eq c =
    let e : c.args.code.0 ≡ 4294967295 = grind (arith, nat_tests) in
    (λ _. met_none _ _ _ (omega arith), λ _. refl)

pub returns-then-code-eq1 : goal.returns-then-code-eq1
returns-then-code-eq1 c =
    let e : c.args.code.0 < 4294967295 = grind (arith, nat_tests) in
    let m = met_closed c.args.code.0 c.args.scale c.args.a c.args.b e c.if-code-eq1.true in
    let f1 = c.from.ensures in let f2 = c.from-2.ensures in let f3 = c.from-3.ensures in
    let f4 = c.from-4.ensures in let f5 = c.from-5.ensures in let f6 = c.from-6.ensures in
    (λ t. m.0 (cc), λ w. let q = m.1 w in cc)

pub returns-else-code-eq1 : goal.returns-else-code-eq1
returns-else-code-eq1 c =
    let e : c.args.code.0 < 4294967295 = grind (arith, nat_tests) in
    let m = met_open c.args.code.0 c.args.scale c.args.a c.args.b e c.if-code-eq1.false in
    let f1 = c.from.ensures in let f2 = c.from-2.ensures in let f3 = c.from-3.ensures in
    let f4 = c.from-4.ensures in let f5 = c.from-5.ensures in let f6 = c.from-6.ensures in
    (λ t. m.0 (cc), λ w. let q = m.1 w in cc)
