use Rattle.std.proofs.Common.{◌≡◌, ◌+◌, ◌*◌, ◌<◌, Ok, Err, refl, ap, subst, arith, rules}
use Rattle.bounds.specs.Domains.{scales}
use Rattle.zones.specs.Boxes.{Boxed, BoxSays}
use Rattle.zones.proofs.BoxFacts.{lower_says, upper_says, passed_on, box_start, box_more, box_empty, box_refused, box_done}
use Rattle.zones.proofs.zone.Zone.cut_box.Goals as goal

pub loop-k-init : goal.loop-k-init
loop-k-init g c = box_start _ _ _ _ c.in_ok-check.ensures

pub turned_lower-requires : goal.turned_lower-requires
turned_lower-requires g c = (c.is_plain.ensures.0 c.if-not-is_plain.false c.loop-k.k c.loop-k-test.true).0

pub returns-in_err-cut : goal.returns-in_err-cut
returns-in_err-cut g c =
    let A = scales (g.T.TimeDomain.allows c.args.time.now) in
    let N = g.T.TimeDomain.normal c.args.time.now in
    let sides = c.args.clock_box.now.sides in
    let xs = c.args.self.now.codes in
    let at : 2 * c.loop-k.k < 16 = omega (arith, c.loop-k-test.true) in
    passed_on c.from_residual-in_err-cut.result _ (BoxSays A N sides xs xs) c.from_residual-in_err-cut.ensures.1 (λ e q.
    let same : c.in_err-cut.field-0.0 ≡ e = search rules in
    box_refused A N sides xs c.loop-k.next.codes (2 * c.loop-k.k) at c.loop-k.invariant c.cut.new.self.codes e (c.is_plain.ensures.0 c.if-not-is_plain.false) c.in_ok-check.ensures
    (lower_says A N sides c.loop-k.next.codes c.cut.new.self.codes c.loop-k.k _ (Err c.in_err-cut.field-0.0) (Err e) c.turned_lower.ensures (ap Err same) c.in_err-cut.ensures))

pub returns-in_default : goal.returns-in_default
returns-in_default g c =
    let A = scales (g.T.TimeDomain.allows c.args.time.now) in
    let N = g.T.TimeDomain.normal c.args.time.now in
    let sides = c.args.clock_box.now.sides in
    let xs = c.args.self.now.codes in
    let at : 2 * c.loop-k.k < 16 = omega (arith, c.loop-k-test.true) in
    box_empty A N sides xs c.loop-k.next.codes (2 * c.loop-k.k) at c.loop-k.invariant c.cut.new.self.codes (c.is_plain.ensures.0 c.if-not-is_plain.false) c.in_ok-check.ensures
    (lower_says A N sides c.loop-k.next.codes c.cut.new.self.codes c.loop-k.k _ (Ok c.in_ok-cut.field-0) _ c.turned_lower.ensures (ap Ok c.in_default.is) c.in_ok-cut.ensures)

pub returns-in_err-cut-2 : goal.returns-in_err-cut-2
returns-in_err-cut-2 g c =
    let A = scales (g.T.TimeDomain.allows c.args.time.now) in
    let N = g.T.TimeDomain.normal c.args.time.now in
    let sides = c.args.clock_box.now.sides in
    let xs = c.args.self.now.codes in
    let at : 2 * c.loop-k.k < 16 = omega (arith, c.loop-k-test.true) in
    let at_odd : 2 * c.loop-k.k + 1 < 16 = omega (arith, c.loop-k-test.true) in
    let half = box_more A N sides xs c.loop-k.next.codes (2 * c.loop-k.k) at c.loop-k.invariant c.cut.new.self.codes
    (lower_says A N sides c.loop-k.next.codes c.cut.new.self.codes c.loop-k.k _ (Ok c.in_ok-cut.field-0) _ c.turned_lower.ensures (ap Ok c.in-Kept.is) c.in_ok-cut.ensures) in
    passed_on c.from_residual-in_err-cut-2.result _ (BoxSays A N sides xs xs) c.from_residual-in_err-cut-2.ensures.1 (λ e q.
    let same : c.in_err-cut-2.field-0.0 ≡ e = search rules in
    box_refused A N sides xs c.cut.new.self.codes (2 * c.loop-k.k + 1) at_odd half c.cut-in-loop-k.new.self.codes e (c.is_plain.ensures.0 c.if-not-is_plain.false) c.in_ok-check.ensures
    (upper_says A N sides c.cut.new.self.codes c.cut-in-loop-k.new.self.codes c.loop-k.k _ (Err c.in_err-cut-2.field-0.0) (Err e) refl (ap Err same) c.in_err-cut-2.ensures))

pub returns-in_default-2 : goal.returns-in_default-2
returns-in_default-2 g c =
    let A = scales (g.T.TimeDomain.allows c.args.time.now) in
    let N = g.T.TimeDomain.normal c.args.time.now in
    let sides = c.args.clock_box.now.sides in
    let xs = c.args.self.now.codes in
    let at : 2 * c.loop-k.k < 16 = omega (arith, c.loop-k-test.true) in
    let at_odd : 2 * c.loop-k.k + 1 < 16 = omega (arith, c.loop-k-test.true) in
    let half = box_more A N sides xs c.loop-k.next.codes (2 * c.loop-k.k) at c.loop-k.invariant c.cut.new.self.codes
    (lower_says A N sides c.loop-k.next.codes c.cut.new.self.codes c.loop-k.k _ (Ok c.in_ok-cut.field-0) _ c.turned_lower.ensures (ap Ok c.in-Kept.is) c.in_ok-cut.ensures) in
    box_empty A N sides xs c.cut.new.self.codes (2 * c.loop-k.k + 1) at_odd half c.cut-in-loop-k.new.self.codes (c.is_plain.ensures.0 c.if-not-is_plain.false) c.in_ok-check.ensures
    (upper_says A N sides c.cut.new.self.codes c.cut-in-loop-k.new.self.codes c.loop-k.k _ (Ok c.in_ok-cut-2.field-0) _ refl (ap Ok c.in_default-2.is) c.in_ok-cut-2.ensures)

pub loop-k-preserved : goal.loop-k-preserved
loop-k-preserved g c =
    let A = scales (g.T.TimeDomain.allows c.args.time.now) in
    let N = g.T.TimeDomain.normal c.args.time.now in
    let sides = c.args.clock_box.now.sides in
    let xs = c.args.self.now.codes in
    let at : 2 * c.loop-k.k < 16 = omega (arith, c.loop-k-test.true) in
    let at_odd : 2 * c.loop-k.k + 1 < 16 = omega (arith, c.loop-k-test.true) in
    let next : 2 * c.loop-k.k + 1 + 1 ≡ 2 * (c.loop-k.k + 1) = omega arith in
    let half = box_more A N sides xs c.loop-k.next.codes (2 * c.loop-k.k) at c.loop-k.invariant c.cut.new.self.codes
    (lower_says A N sides c.loop-k.next.codes c.cut.new.self.codes c.loop-k.k _ (Ok c.in_ok-cut.field-0) _ c.turned_lower.ensures (ap Ok c.in-Kept.is) c.in_ok-cut.ensures) in
    subst (Boxed A N sides xs c.cut-in-loop-k.new.self.codes) next (box_more A N sides xs c.cut.new.self.codes (2 * c.loop-k.k + 1) at_odd half c.cut-in-loop-k.new.self.codes
    (upper_says A N sides c.cut.new.self.codes c.cut-in-loop-k.new.self.codes c.loop-k.k _ (Ok c.in_ok-cut-2.field-0) _ refl (ap Ok c.in-Kept-2.is) c.in_ok-cut-2.ensures))

pub returns : goal.returns
returns g c =
    let A = scales (g.T.TimeDomain.allows c.args.time.now) in
    let N = g.T.TimeDomain.normal c.args.time.now in
    let e : 2 * c.loop-k.k ≡ 16 = omega arith in
    box_done A N c.args.clock_box.now.sides c.args.self.now.codes c.loop-k.next.codes (c.is_plain.ensures.0 c.if-not-is_plain.false) c.in_ok-check.ensures
    (subst (Boxed A N c.args.clock_box.now.sides c.args.self.now.codes c.loop-k.next.codes) e c.loop-k.invariant)
