use Rattle.std.proofs.Common.{◌≡◌, ◌<◌, sym, arith}
use borrow.Author.Differences.{ints}
use Rattle.std.proofs.lemmas.Bool.Decides.{nat_tests}
use Rattle.zones.proofs.Decoding.{decode_none, lim_at}
use Rattle.zones.proofs.codes.Code.bound.Goals as goal

pub returns-then-eq : goal.returns-then-eq
returns-then-eq c =
    let e : c.args.self.0 ≡ 4294967295 = grind (arith, nat_tests) in
    sym (decode_none c.args.self.0 (omega arith))

pub returns : goal.returns
returns c =
    let e : c.args.self.0 < 4294967295 = grind (arith, nat_tests) in
    lim_at c.args.self.0 _ e (omega (arith, ints))
