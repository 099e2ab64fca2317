use Rattle.std.proofs.Common.{Ok, pos, negsuc, refl, subst, sym, arith, w32, SFits, rules}
use borrow.Author.Differences.{ints}
use Rattle.bounds.specs.Bounds.{upto}
use Rattle.bounds.specs.Sums.{bound_of}
use Rattle.bounds.specs.Domains.{scales}
use Rattle.bounds.proofs.ScaleLaws.{scale_laws}
use Rattle.zones.specs.Cuts.{FromTo, CutSays}
use Rattle.zones.specs.declared.zone.Cut.TheVariants as cut
use Rattle.zones.proofs.Props.{sound}
use Rattle.zones.proofs.Limits.{not_beyond_in, beyond_out}
use Rattle.zones.proofs.CutFacts.{none_beyond, none_is, none_over, none_exact, not_vast, close}
use Rattle.zones.proofs.zone.Zone.cut.Goals as goal

pub returns-then-not-is_from_to : goal.returns-then-not-is_from_to
returns-then-not-is_from_to g c = record {
  row = c.in_ok-check_clocks.ensures.0;
  column = c.in_ok-check_clocks.ensures.1;
  unfit = λ h. h.0 (beyond_out _ (λ f. let e = c.is_from_to.ensures.1 f in cc));
  unchanged = refl;
}

pub returns-in_default : goal.returns-in_default
returns-in_default g c =
    let k = c.args.time.now in
    let t = g.T.TimeDomain in
    let laws = scale_laws (t.allows k) (t.normal k) (t.lawful k) in
    let xs = c.args.self.now.codes in
    let s = sound xs c.args.self.now.ok in
    let keeps = c.in_ok-check.ensures in
    subst (λ o. CutSays (scales (t.allows k)) (t.normal k) c.args.i c.args.j (bound_of o) xs xs (Ok cut.Kept)) (sym c.in_default.is) (record {
      fit = record { row = c.in_ok-check_clocks.ensures.0; column = c.in_ok-check_clocks.ensures.1; number = none_beyond; of_domain = keeps };
      in_range = none_over laws xs s keeps c.args.i c.args.j;
      of_domain = keeps;
      bounds = none_is laws xs s keeps c.args.i c.args.j;
      states = none_exact laws xs s keeps c.args.i c.args.j;
    })

pub returns-in_err-normal : goal.returns-in_err-normal
returns-in_err-normal g c =
    let f : SFits w32 c.in-Some.bound.number = search rules in
    let h : FromTo (negsuc 999999) (pos 1000000) (upto c.in-Some.bound.closed c.in-Some.bound.number) = subst (λ o. FromTo (negsuc 999999) (pos 1000000) (bound_of o)) c.in-Some.is (c.is_from_to.ensures.0 c.if-not-is_from_to.false) in
    absurd (not_vast _ c.in-Some.bound.number (omega (arith, ints, h.0)) (omega (arith, ints, h.1)) c.in_err-normal.ensures.1)

pub of-requires : goal.of-requires
of-requires g c =
    let t = g.T.TimeDomain in
    let k = c.args.time.now in
    let f : SFits w32 c.in-Some.bound.number = search rules in
    let h : FromTo (negsuc 999999) (pos 1000000) (upto c.in-Some.bound.closed c.in-Some.bound.number) = subst (λ o. FromTo (negsuc 999999) (pos 1000000) (bound_of o)) c.in-Some.is (c.is_from_to.ensures.0 c.if-not-is_from_to.false) in
    let near = close (scale_laws (t.allows k) (t.normal k) (t.lawful k)) c.in-Some.bound.closed c.in_ok-normal.normal.closed c.in-Some.bound.number c.in_ok-normal.normal.number c.in_ok-normal.ensures.0 in
    (omega (arith, ints, near.1, h.0), omega (arith, ints, near.0, h.1))

pub invariant_of-new : goal.invariant_of-new
invariant_of-new g c =
    let t = g.T.TimeDomain in
    let k = c.args.time.now in
    let f : SFits w32 c.in-Some.bound.number = search rules in
    let h : FromTo (negsuc 999999) (pos 1000000) (upto c.in-Some.bound.closed c.in-Some.bound.number) = subst (λ o. FromTo (negsuc 999999) (pos 1000000) (bound_of o)) c.in-Some.is (c.is_from_to.ensures.0 c.if-not-is_from_to.false) in
    let near = close (scale_laws (t.allows k) (t.normal k) (t.lawful k)) c.in-Some.bound.closed c.in_ok-normal.normal.closed c.in-Some.bound.number c.in_ok-normal.normal.number c.in_ok-normal.ensures.0 in
    record { inside = c.in_ok-check_clocks.ensures; near = c.of.ensures.near 1000001 (omega arith) (omega (arith, ints, near.1, h.0)) (omega (arith, ints, near.0, h.1)) }

pub tighten-requires-clause-fit : goal.tighten-requires-clause-fit
tighten-requires-clause-fit g c =
    let h : FromTo (negsuc 999999) (pos 1000000) (upto c.in-Some.bound.closed c.in-Some.bound.number) = subst (λ o. FromTo (negsuc 999999) (pos 1000000) (bound_of o)) c.in-Some.is (c.is_from_to.ensures.0 c.if-not-is_from_to.false) in
    record {
      row = c.in_ok-check_clocks.ensures.0;
      column = c.in_ok-check_clocks.ensures.1;
      number = not_beyond_in _ h;
      of_domain = c.in_ok-check.ensures;
    }
