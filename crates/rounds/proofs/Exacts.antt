-- One exact operation after another.
use Rattle.std.proofs.Common.{◌≡◌, ℕ, ◌*◌, ◌≤◌, true, sym, subst, one-mul, arith}
use mathlib.Core.Logic.{∥∥₁_elim, ∥∥₁_map}
use Rattle.zones.specs.declared.boxes.ClockBox.{ClockBox}
use Rattle.plans.specs.Boxes.{InBox, later, scaled}
use Rattle.plans.specs.Meaning.{PlanMeaning}
use Rattle.rounds.specs.Codes.{Remains, then, back_zone}
use Rattle.rounds.specs.Codes.Remains.{kept, empty, beyond}
use Rattle.rounds.specs.Held.{Held, Scale, Earlier, Exact}
use Rattle.rounds.specs.Rounds.{cut_by}
use Rattle.rounds.proofs.Readings.{scaled_one, times_some}
use Rattle.rounds.proofs.Laws.{Laws, Fair}

pub times_scale : (M : PlanMeaning) (m D : ℕ) → 1 ≤ m → Scale M D → M.allows (m * D) ≡ true → Scale M (m * D)
times_scale M m D h s a = (times_some m D h s.0, a)

-- a delay at the scale itself
pub earlier_now : (M : PlanMeaning) (S : ℕ → (ℕ → ℕ) → Type 0) (D w : ℕ) (v : ℕ → ℕ) → M.allows D ≡ true → S D (later w v) → Earlier M S D v
earlier_now M S D w v a s =
    let e : 1 * D ≡ D = one-mul D in
    ∣ (
      1,
      w,
      omega arith,
      subst (λ n. M.allows n ≡ true) (sym e) a,
      subst (λ n. S n (later w (scaled 1 v))) (sym e) (subst (λ u. S D (later w u)) (sym (scaled_one v)) s),
    ) ∣₁

pub exact_map : (M : PlanMeaning) (S T : ℕ → (ℕ → ℕ) → Type 0) → ((D : ℕ) (v : ℕ → ℕ) → Scale M D → (S D v → T D v) × (T D v → S D v)) → (o : Remains) → Exact M S o → Exact M T o
exact_map M S T i (kept z) e = (e.0, λ D v s. (λ h. (i D v s).0 ((e.1 D v s).0 h), λ h. (e.1 D v s).1 ((i D v s).1 h)))
exact_map M S T i empty e = λ D v s h. e D v s ((i D v s).1 h)
exact_map M S T i beyond e = tt

pub exact_cut : (M : PlanMeaning) → Laws M → (b : ClockBox) → Fair M.clocks b → (S : ℕ → (ℕ → ℕ) → Type 0) (o : Remains) → Exact M S o → Exact M (λ D v. S D v × InBox b D v) (then o (cut_by M b))
exact_cut M L b fair S (kept z) e =
    exact_map M (λ D v. Held z D v × InBox b D v) (λ D v. S D v × InBox b D v)
    (λ D v s. (λ h. ((e.1 D v s).0 h.0, h.1), λ h. ((e.1 D v s).1 h.0, h.1))) (cut_by M b z) (L.cut_exact b z fair e.0)
exact_cut M L b fair S empty e = λ D v s h. e D v s h.0
exact_cut M L b fair S beyond e = tt

pub exact_back : (M : PlanMeaning) → Laws M → (S : ℕ → (ℕ → ℕ) → Type 0) (o : Remains) → Exact M S o → Exact M (Earlier M S) (then o back_zone)
exact_back M L S (kept z) e =
    exact_map M (Earlier M (Held z)) (Earlier M S)
    (λ D v s. (
      λ h. ∥∥₁_map h (λ t. (t.0, t.1, t.2, t.3, (e.1 (t.0 * D) (later t.1 (scaled t.0 v)) (times_scale M t.0 D t.2 s t.3)).0 t.4)),
      λ h. ∥∥₁_map h (λ t. (t.0, t.1, t.2, t.3, (e.1 (t.0 * D) (later t.1 (scaled t.0 v)) (times_scale M t.0 D t.2 s t.3)).1 t.4)),
    ))
    (back_zone z) (L.back_exact z e.0)
exact_back M L S empty e = λ D v s h. ∥∥₁_elim h (λ x y. absurd x) (λ t. e (t.0 * D) (later t.1 (scaled t.0 v)) (times_scale M t.0 D t.2 s t.3) t.4)
exact_back M L S beyond e = tt
