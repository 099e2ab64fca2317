-- A stack of both layers, from the laws of each over runs
use Rattle.std.proofs.Common.{◌≡◌, ℕ, suc, ◌*◌, List, sym, refl, ap, ◌∙◌, subst, mul-zero, add-one, arith}
use Rattle.zones.specs.declared.boxes.ClockBox.{ClockBox}
use Rattle.plans.specs.Meaning.{PlanMeaning, WellFormed}
use Rattle.layers.specs.Restrictions.{restricted, Stays}
use Rattle.plans.specs.Routes.{Route, SameWay, Within}
use Rattle.layers.specs.Theorems.{Matches, MixedRoutes}
use Rattle.layers.proofs.Timed.{under_is, run_below, run_under}
use Rattle.layers.proofs.Narrowed.{some_scale, run_out, run_in}

pub mixed_routes : (T : ℕ) (bs : List ClockBox) (m : PlanMeaning) → WellFormed m → WellFormed (restricted bs m) → MixedRoutes T bs m
mixed_routes T bs m ok rok fit n< D p v k D≥ z =
    let z' : v (suc m.clocks) ≡ 0 = ap v (sym (add-one m.clocks)) ∙ z in
    subst (λ x. Matches (Route x D p v k) ((r : Route m D p v k) × Stays bs m (r.multiple * D) r.run × Within T m D p v k r) (λ r s. SameWay r s.0)) (sym (under_is T (restricted bs m) n<)) (
      λ r.
          (let a = run_below T (r.multiple * D) (restricted bs m) n< rok r.run in
          let b = run_out bs m ok fit (r.multiple * D) (some_scale r.multiple D r.some D≥) a.0.0 in
          ((record { multiple = r.multiple; some = r.some; allowed = r.allowed; lasts = r.lasts; run = b.0.0 }, b.0.1, omega (arith, a.0.1)), (refl, a.1 ∙ b.1))),
      λ t.
          (let r = t.0 in
          let b = run_in bs m ok fit (r.multiple * D) (some_scale r.multiple D r.some D≥) r.run t.1 in
          let a = run_under T (r.multiple * D) (restricted bs m) n< rok b.0 (omega (arith, t.2, ap (λ x. r.multiple * x) z', mul-zero r.multiple)) in
          (record { multiple = r.multiple; some = r.some; allowed = r.allowed; lasts = r.lasts; run = a.0 }, (refl, a.1 ∙ b.1))),
    )
