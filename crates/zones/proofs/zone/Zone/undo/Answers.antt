use Rattle.std.proofs.Common.{◌≡◌, ℕ, Bool, false, get_or, sym, refl, ◌∙◌, arith}
use Rattle.bounds.proofs.ScaleLaws.{scale_laws, scale_big}
use Rattle.std.proofs.lemmas.Option.{MatchOption-at_some}
use Rattle.zones.specs.Codes.{at}
use Rattle.zones.specs.Resets.{reset}
use Rattle.zones.proofs.Props.{sound}
use Rattle.zones.proofs.Lists.{reset_0}
use Rattle.zones.proofs.Outcomes.{held_same, undo_same, undo_is, undo_sound, undo_kept, undo_exact}
use Rattle.zones.proofs.zone.Zone.undo.Goals as goal

pub invariant_of-self : goal.invariant_of-self
invariant_of-self g c =
    let xs = c.args.self.now.codes in
    let n = MatchOption-at_some _ _ _ c.in_ok-on.ensures.ok_part c.named.ensures in
    let r0 : get_or c.in_ok-on.on 0 false ≡ false = n.1 0 (omega arith) ∙ reset_0 c.args.clocks.now in
    record { ok = ∣ undo_sound (λ i. get_or c.in_ok-on.on i false) r0 xs c.in-Some.zero.codes c.freed-self.result c.in-Some.ensures c.freed-self.ensures ∣₁ }

pub returns-in_default : goal.returns-in_default
returns-in_default g c =
    let k = c.args.time.now in
    let t = g.T.TimeDomain in
    let laws = scale_laws (t.allows k) (t.normal k) (t.lawful k) in
    let xs = c.args.self.now.codes in
    let s = sound xs c.args.self.now.ok in
    let n = MatchOption-at_some _ _ _ c.in_ok-on.ensures.ok_part c.named.ensures in
    let q : ℕ → Bool = reset c.args.clocks.now in
    let r : ℕ → Bool = λ i. get_or c.in_ok-on.on i false in
    let keeps = c.in_ok-check.ensures in
    record {
      known = n.0;
      was_of_domain = keeps;
      gone = λ D v al rd h. c.in_default.ensures D (scale_big (t.allows k) D al) v rd.0 (held_same q r (λ i l. sym (n.1 i l)) (at xs) D v h);
      unchanged = refl;
    }

pub returns : goal.returns
returns g c =
    let k = c.args.time.now in
    let t = g.T.TimeDomain in
    let laws = scale_laws (t.allows k) (t.normal k) (t.lawful k) in
    let xs = c.args.self.now.codes in
    let s = sound xs c.args.self.now.ok in
    let n = MatchOption-at_some _ _ _ c.in_ok-on.ensures.ok_part c.named.ensures in
    let q : ℕ → Bool = reset c.args.clocks.now in
    let r : ℕ → Bool = λ i. get_or c.in_ok-on.on i false in
    let r0 : get_or c.in_ok-on.on 0 false ≡ false = n.1 0 (omega arith) ∙ reset_0 c.args.clocks.now in
    let zs = c.in-Some.zero.codes in
    let z = c.in-Some.ensures in
    let ys = c.freed-self.result in
    let is = c.freed-self.ensures in
    let keeps = c.in_ok-check.ensures in
    record {
      known = n.0;
      was_of_domain = keeps;
      of_domain = undo_kept r r0 xs zs ys z is laws keeps;
      bounds = λ a b ha hb. undo_is r r0 xs zs ys z is a b ha hb ∙ undo_same r q n.1 (at zs) (at xs) z.is a b ha hb;
      states = λ D v al rd. (
        λ h. held_same r q n.1 (at xs) D v ((undo_exact r r0 xs zs ys z is laws keeps D v al rd).0 h),
        λ h. (undo_exact r r0 xs zs ys z is laws keeps D v al rd).1 (held_same q r (λ i l. sym (n.1 i l)) (at xs) D v h),
      );
    }
