use Rattle.std.proofs.Common.{◌≡◌, ◌+◌, ◌*◌, ◌/◌, ◌%◌, get_or, Some, None, ap, ◌∙◌, arith}
use Rattle.bounds.specs.Sums.{bound_of}
use Rattle.entries.specs.Entries.{bounds_at}
use Rattle.entries.proofs.Wholes.{whole_same, whole_none, whole_kept, whole_zero, whole_first}
use Rattle.entries.proofs.clock_count.ClockCount.whole_bound.Goals as goal

pub returns-then-i-j : goal.returns-then-i-j
returns-then-i-j c =
    ap (λ b. bound_of (Some b)) c.at_most.ensures
    ∙ whole_same c.args.self.count (bounds_at c.args.bounds.now) (c.args.place.number / 9) (c.args.place.number % 9) (omega arith)

pub returns-then-i-get : goal.returns-then-i-get
returns-then-i-get c = whole_none c.args.self.count (bounds_at c.args.bounds.now) (c.args.place.number / 9) (c.args.place.number % 9) (λ e. omega arith) (omega arith)

pub returns-then-j-get : goal.returns-then-j-get
returns-then-j-get c =
    (λ k. bound_of (get_or c.args.bounds.now (9 * c.row-i.ensures.value k + c.column-j.ensures.value k) None))
    ∙ whole_kept c.args.self.count (bounds_at c.args.bounds.now) (c.args.place.number / 9) (c.args.place.number % 9) (λ e. omega arith) (omega arith) (omega arith)

pub returns-then-i-eq0 : goal.returns-then-i-eq0
returns-then-i-eq0 c =
    ap (λ b. bound_of (Some b)) c.at_most-then-i-eq0.ensures
    ∙ whole_zero c.args.self.count (bounds_at c.args.bounds.now) (c.args.place.number / 9) (c.args.place.number % 9) (λ e. omega arith) (omega arith) (omega arith) (omega arith)

pub returns : goal.returns
returns c =
    let e : 9 * c.row-i.result ≡ 9 * (c.args.place.number / 9) + 0 = omega arith in
    ap (λ k. bound_of (get_or c.args.bounds.now k None)) e
    ∙ whole_first c.args.self.count (bounds_at c.args.bounds.now) (c.args.place.number / 9) (c.args.place.number % 9) (λ e. omega arith) (omega arith) (omega arith) (λ e. omega arith)
