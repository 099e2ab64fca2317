use Rattle.std.proofs.Common.{◌≡◌, get_or, ap, ◌∙◌, rules}
use Rattle.zones.proofs.Lists.{value_in, value_out}
use Rattle.zones.proofs.state.State.reading.Goals as goal

pub returns-in-Some : goal.returns-in-Some
returns-in-Some c =
    let e : c.unwrap_or.result ≡ get_or c.args.self.now.readings.now c.in-Some.k 0 = search rules in
    e ∙ ap (λ n. get_or c.args.self.now.readings.now n 0) c.in-Some.ensures.1 ∙ value_in c.args.self.now.readings.now c.args.i c.in-Some.ensures.0

pub returns-in-None : goal.returns-in-None
returns-in-None c = value_out c.args.self.now.readings.now c.args.i (λ h. absurd (c.in-None.ensures h))
