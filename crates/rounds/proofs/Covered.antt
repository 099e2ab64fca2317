-- Routes and the entries that cover them.
use Rattle.std.proofs.Common.{ℕ, suc, ◌+◌, ◌*◌, ◌<◌, ◌≤◌, List, sym, subst, arith}
use mathlib.Core.Logic.{∥∥₁_elim, ∥∥₁_map, ∥∥₁_prop}
use Rattle.plans.specs.Boxes.{scaled}
use Rattle.plans.specs.Meaning.{PlanMeaning}
use Rattle.plans.specs.Routes.{Waits, Run, Route}
use Rattle.rounds.specs.Held.{Scale}
use Rattle.rounds.specs.Rounds.{Entry, entry_at}
use Rattle.rounds.specs.Stands.{Covers, AllBased, Founded, Complete}
use Rattle.plans.specs.Routes.Run.{last, first}
use Rattle.rounds.proofs.Readings.{held_down}
use Rattle.rounds.proofs.Exacts.{times_scale}
use Rattle.rounds.proofs.Entries.{covers_later}

module _ (M : PlanMeaning) (es : List Entry) where
  -- the entries of f finished rounds cover each run of fewer crossings
  pub run_covered : (f : ℕ) → Founded M es f → (D : ℕ) → Scale M D → {p : ℕ} {v : ℕ → ℕ} {k t : ℕ} → Run M D p v k t → k < f → Covers es k D p v
  run_covered f w D s (last {p} {v} d g st r) l =
      subst (λ x. Covers es 0 D x v) r.here (w.based l g r.exists D v d s (subst (λ x. Waits M D x v d) (sym r.here) st) r.inside)
  run_covered f w D s (first {p} {v} {k} {t} d o st c rest) l =
      ∥∥₁_elim (run_covered f w D s rest (omega arith)) ∥∥₁_prop (λ x.
      covers_later es ((entry_at es x.0).round + 1) (suc k) D p v (omega (arith, x.3))
      (subst (λ y. Covers es ((entry_at es x.0).round + 1) D y v) c.from
      (w.stepped x.0 x.1 (omega (arith, x.3, l)) o c.exists D v d s c.likely (subst (λ y. Waits M D y v d) (sym c.from) st) c.guarded x.2)))

  -- and, where every entry's crossings are covered, each run
  pub run_complete : AllBased M es → Complete M es → (D : ℕ) → Scale M D → {p : ℕ} {v : ℕ → ℕ} {k t : ℕ} → Run M D p v k t → Covers es k D p v
  run_complete b a D s (last {p} {v} d g st r) =
      subst (λ y. Covers es 0 D y v) r.here (b g r.exists D v d s (subst (λ y. Waits M D y v d) (sym r.here) st) r.inside)
  run_complete b a D s (first {p} {v} {k} {t} d o st c rest) =
      ∥∥₁_elim (run_complete b a D s rest) ∥∥₁_prop (λ x.
      covers_later es ((entry_at es x.0).round + 1) (suc k) D p v (omega (arith, x.3))
      (subst (λ y. Covers es ((entry_at es x.0).round + 1) D y v) c.from
      (a x.0 x.1 o c.exists D v d s c.likely (subst (λ y. Waits M D y v d) (sym c.from) st) c.guarded x.2)))

  -- a state covered at a multiple of its scale is covered at its own
  pub covers_unscaled : (n m D p : ℕ) (v : ℕ → ℕ) → 1 ≤ m → Covers es n (m * D) p (scaled m v) → Covers es n D p v
  covers_unscaled n m D p v h c = ∥∥₁_map c (λ x. (x.0, x.1, (x.2.0, held_down m D h (entry_at es x.0).zone v x.2.1), x.3))

  pub route_covered : (f : ℕ) → Founded M es f → (D p : ℕ) (v : ℕ → ℕ) (n : ℕ) → Scale M D → Route M D p v n → n < f → Covers es n D p v
  route_covered f w D p v n s r l = covers_unscaled n r.multiple D p v r.some (run_covered f w (r.multiple * D) (times_scale M r.multiple D r.some s r.allowed) r.run l)

  pub route_complete : AllBased M es → Complete M es → (D p : ℕ) (v : ℕ → ℕ) (n : ℕ) → Scale M D → Route M D p v n → Covers es n D p v
  route_complete b a D p v n s r = covers_unscaled n r.multiple D p v r.some (run_complete b a (r.multiple * D) (times_scale M r.multiple D r.some s r.allowed) r.run)
