use Rattle.zones.proofs.Codings.{free_diagonal, free_gone, free_zero, free_other}
use Rattle.zones.proofs.zone.Zone.free_code.Goals as goal

pub returns-then-a-b : goal.returns-then-a-b
returns-then-a-b c = free_diagonal _ _ c.args.p c.if-a-b.true

pub returns-then-on-a : goal.returns-then-on-a
returns-then-on-a c = free_gone _ _ c.args.p c.if-a-b.false c.if-on-a.true

pub returns-then-on-b : goal.returns-then-on-b
returns-then-on-b c = free_zero _ _ c.args.p c.if-a-b.false c.if-on-a.false c.if-on-b.true

pub returns-else-on-b : goal.returns-else-on-b
returns-else-on-b c = free_other _ _ c.args.p c.if-a-b.false c.if-on-a.false c.if-on-b.false
