use Rattle.std.proofs.Common.{arith}
use Rattle.stores.proofs.HeldFacts.{kept_none}
use Rattle.stores.proofs.line_store.LineStore.new.Goals as goal

pub invariant_of-result : goal.invariant_of-result
invariant_of-result c = record { fits = omega arith; kept = kept_none c.args.clocks.count }
