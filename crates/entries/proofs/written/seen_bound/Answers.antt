use Rattle.std.proofs.Common.{◌∙◌, arith}
use Rattle.zones.specs.Codes.{at}
use Rattle.entries.proofs.Items.{seen_row, seen_column, seen_same, seen_shown}
use Rattle.entries.proofs.written.seen_bound.Goals as goal
use Rattle.entries.proofs.written.seen_bound.Goals.{then-i-get-via-then-i-get, then-i-get-via-else-i-get+then-j-get, then-i-get-via-else-i-get+else-j-get+then-i-j}

pub returns-then-i-get : goal.returns-then-i-get
returns-then-i-get c =
    elim c.then-i-get.branch [
      | then-i-get-via-then-i-get w ↦ seen_row c.args.clocks.count (at c.args.zone.now.codes) c.args.place.number (omega arith)
      | then-i-get-via-else-i-get+then-j-get w ↦ seen_column c.args.clocks.count (at c.args.zone.now.codes) c.args.place.number (omega arith)
      | then-i-get-via-else-i-get+else-j-get+then-i-j w ↦ seen_same c.args.clocks.count (at c.args.zone.now.codes) c.args.place.number (omega arith)
    ]

pub returns : goal.returns
returns c = c.bound_at.ensures ∙ seen_shown c.args.clocks.count (at c.args.zone.now.codes) c.args.place.number (omega arith) (omega arith) (λ e. omega arith)
