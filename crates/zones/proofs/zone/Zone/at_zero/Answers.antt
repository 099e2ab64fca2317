use Rattle.std.proofs.Common.{◌≤◌, rules}
use Rattle.zones.specs.Codes.{code_of}
use Rattle.zones.proofs.Props.{sound}
use Rattle.zones.proofs.Zero.{zero_sound}
use Rattle.zones.proofs.zone.Zone.at_zero.Goals as goal

pub invariant_of-result : goal.invariant_of-result
invariant_of-result c =
    let xs = c.args.self.now.codes in
    let ok : 33554433 ≤ code_of c.args.self.now.codes c.args.k = search rules in
    record { ok = ∣ zero_sound xs (sound xs c.args.self.now.ok) c.args.k c.requires ok c.ways-codes.result c.ways-codes.ensures ∣₁ }
