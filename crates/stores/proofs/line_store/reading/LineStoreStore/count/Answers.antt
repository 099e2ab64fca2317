use Rattle.std.proofs.Common.{take}
use Rattle.stores.proofs.HeldFacts.{count_is}
use Rattle.stores.proofs.line_store.reading.LineStoreStore.count.Goals as goal

pub returns : goal.returns
returns c = let s = c.args.self.now in count_is s.clocks.count s.count (take s.used s.bytes.now) s.kept
