use Rattle.std.proofs.Common.{◌≡◌, ℕ, ◌/◌, ◌%◌, None, Option, rules}
use Rattle.bounds.specs.declared.bound.Bound.{Bound}
use Rattle.bounds.specs.Sums.{bound_of}
use Rattle.entries.specs.Entries.{whole, bounds_at}
use Rattle.entries.proofs.FromFn.{each_from_fn}
use Rattle.entries.proofs.clock_count.ClockCount.whole_bounds.Goals as goal

pub returns : goal.returns
returns c = λ p h. each_from_fn _ _ (λ (i : ℕ) (b : Option Bound). bound_of b ≡ whole c.args.self.count (bounds_at c.args.bounds.now) (i / 9) (i % 9)) (λ i y q k. search rules) c.from_fn.result 81 c.from_fn.ensures.items p None h
