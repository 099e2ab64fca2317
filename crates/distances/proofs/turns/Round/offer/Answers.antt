use Rattle.std.proofs.Common.{Ok, refl, subst}
use Rattle.starts.specs.Told.{Tells}
use Rattle.distances.proofs.Offering.{lawful_of, offer_none, offer_dropped, offer_put}
use Rattle.distances.proofs.turns.Round.offer.Goals as goal

pub returns-in_default : goal.returns-in_default
returns-in_default g c =
    let p = c.args.self.now.plan.now in
    let s = c.args.store.now in
    let n = g.S.Store.dimension s in
    record {
      says = λ need' a r o t f. offer_none (g.P.Plan.meaning p) (g.P.Plan.sound p) n (g.S.Store.need n) c.args.self.now.number c.args.position (g.S.Store.entries s) (g.S.Store.room s) need' a r tt o (subst (λ x. Tells o (Ok x)) c.in_default.is t);
      clocks = refl;
    }

pub returns-then-is_covered : goal.returns-then-is_covered
returns-then-is_covered g c =
    let p = c.args.self.now.plan.now in
    let s = c.args.store.now in
    let n = g.S.Store.dimension s in
    record {
      says = λ need' a r o t f. offer_dropped (g.P.Plan.meaning p) (g.P.Plan.sound p) n (g.S.Store.need n) c.args.self.now.number c.args.position (g.S.Store.entries s) (g.S.Store.room s) need' a r
          _ c.time.ensures.normal c.in-Some.zone o (subst (λ x. Tells o (Ok x)) c.in-Some.is t) (f (lawful_of (g.P.Plan.meaning p) _ _ c.time.ensures.allows c.time.ensures.normal (g.P.Time.TimeDomain.lawful c.time.result))) c.is_covered.result c.is_covered.ensures tt c.if-is_covered.true;
      clocks = refl;
    }

pub returns : goal.returns
returns g c =
    let p = c.args.self.now.plan.now in
    let s = c.args.store.now in
    let n = g.S.Store.dimension s in
    record {
      says = λ need' a r o t f. offer_put (g.P.Plan.meaning p) (g.P.Plan.sound p) n (g.S.Store.need n) c.args.self.now.number c.args.position (g.S.Store.entries s) (g.S.Store.room s) need' a r
          _ c.time.ensures.normal c.in-Some.zone o (subst (λ x. Tells o (Ok x)) c.in-Some.is t) (f (lawful_of (g.P.Plan.meaning p) _ _ c.time.ensures.allows c.time.ensures.normal (g.P.Time.TimeDomain.lawful c.time.result))) c.is_covered.result c.is_covered.ensures c.if-is_covered.false c.args.self.now.fits
          c.put.result (g.S.Store.entries c.put.new.self) (g.S.Store.room c.put.new.self) c.put.ensures.says;
      clocks = c.put.ensures.clocks;
    }
