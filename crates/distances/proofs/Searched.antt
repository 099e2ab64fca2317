-- What a search does is what the state machine does
use Rattle.std.proofs.Common.{◌≡◌, ℕ, ◌+◌, ◌<◌, cond, eqb, List, length, Ok, Err, Result, ◌⊎◌, inl, inr, sym, refl, ap, ◌∙◌, subst}
use Rattle.std.proofs.lemmas.Bool.{cond-true, cond-false, eq-eqb, ne_eqb}
use Rattle.bounds.specs.declared.refusal.Refusal.{Refusal}
use Rattle.bounds.specs.declared.refusal.Refusal.TheVariants as refused
use Rattle.plans.specs.Meaning.{PlanMeaning}
use Rattle.entries.specs.declared.entry.Entry.{Entry}
use Rattle.rounds.specs.declared.replies.Phase.{Phase}
use Rattle.rounds.specs.declared.replies.Phase.TheVariants.{Open, Closed, Stopped, Unfit}
use Rattle.rounds.specs.Rounds.{Entry as Row, Turn, round}
use Rattle.rounds.specs.Rounds.Turn.{done}
use Rattle.rounds.specs.Searches.{step, ended}
use Rattle.rounds.specs.Searches.Call.{widen}
use Rattle.rounds.specs.Searches.Reply.{widened}
use Rattle.distances.specs.Rows.{rows}
use Rattle.distances.specs.Turns.{Ends, RoundSays}
use Rattle.distances.specs.Searching.{view, widen_reply, Stepped, AdvanceSays, WidenSays}
use Rattle.distances.proofs.Covering.{many_rows}

-- a refused round
refused_step : (f n : ℕ) (t : Turn) (e : Refusal) (fs : List Entry) (k : ℕ) → Ends t (Err e) (rows fs) k → Stepped (ended f n t) (widen_reply (Err e)) (view Stopped fs k f)
refused_step f n t refused.Full fs k x = record { reply = sym (ap (λ y. (ended f n y).reply) x); next = sym (ap (λ y. (ended f n y).next) x) }
refused_step f n t refused.Range fs k x = record { reply = sym (ap (λ y. (ended f n y).reply) x); next = sym (ap (λ y. (ended f n y).next) x) }
refused_step f n t refused.Line fs k x = absurd x
refused_step f n t refused.Order fs k x = absurd x
refused_step f n t refused.Number fs k x = absurd x
refused_step f n t refused.Name fs k x = absurd x
refused_step f n t refused.Chance fs k x = absurd x
refused_step f n t refused.Rows fs k x = absurd x
refused_step f n t refused.Clocks fs k x = absurd x
refused_step f n t refused.State fs k x = absurd x
refused_step f n t refused.Phase fs k x = absurd x
refused_step f n t refused.Entry fs k x = absurd x
refused_step f n t refused.Buffer fs k x = absurd x

module _ (M : PlanMeaning) (n : ℕ) (need : Entry → ℕ) (es : List Entry) (m f : ℕ) (fs : List Entry) (k : ℕ) where
  pub advance_refused : (e : Refusal) → RoundSays M n need f es m (Err e) fs k → AdvanceSays M n need es m f (Err e) Stopped fs k f
  advance_refused e s r small need' a = let t = s need' a r in
      (refused_step f (length (rows es)) (round M need' f (rows es) m) e fs k t.ends, t.ready)

  done_step : (t : Turn) (g : ℕ) (ph : Phase) → t ≡ done (rows fs) k → g ≡ f + 1 → ph ≡ cond (eqb (length (rows fs)) (length (rows es))) Closed Open → Stepped (ended f (length (rows es)) t) (widened g) (view ph fs k g)
  done_step t g ph x q p = record {
    reply = ap widened q ∙ sym (ap (λ y. (ended f (length (rows es)) y).reply) x);
    next = ap (λ y. view y fs k g) p ∙ ap (view (cond (eqb (length (rows fs)) (length (rows es))) Closed Open) fs k) q ∙ sym (ap (λ y. (ended f (length (rows es)) y).next) x);
  }

  pub advance_closed : (u : Unit {0}) (g : ℕ) → RoundSays M n need f es m (Ok u) fs k → (f < 18446744073709551615 → g ≡ f + 1) → length fs ≡ length es → AdvanceSays M n need es m f (Ok g) Closed fs k g
  advance_closed u g s q c r small need' a = let t = s need' a r in
      (done_step (round M need' f (rows es) m) g Closed t.ends (q small) (sym (cond-true (eqb (length (rows fs)) (length (rows es))) Closed Open (eq-eqb _ _ (many_rows fs ∙ c ∙ sym (many_rows es))))), t.ready)

  pub advance_open : (u : Unit {0}) (g : ℕ) → RoundSays M n need f es m (Ok u) fs k → (f < 18446744073709551615 → g ≡ f + 1) → (length fs ≡ length es → ⊥) → AdvanceSays M n need es m f (Ok g) Open fs k g
  advance_open u g s q c r small need' a = let t = s need' a r in
      (done_step (round M need' f (rows es) m) g Open t.ends (q small) (sym (cond-false (eqb (length (rows fs)) (length (rows es))) Closed Open (ne_eqb _ _ (λ e. c (sym (many_rows fs) ∙ e ∙ many_rows es))))), t.ready)

step_open : (M : PlanMeaning) (need' : Row → ℕ) (es : List Entry) (m f : ℕ) → step M need' (view Open es m f) widen ≡ ended f (length (rows es)) (round M need' f (rows es) m)
unfolding step
step_open M need' es m f = refl

open_fit : Open ≡ Unfit → ⊥
open_fit e = cc

not_open : (p : Phase) → (p ≡ Closed) ⊎ ((p ≡ Stopped) ⊎ (p ≡ Unfit)) → p ≡ Open → ⊥
not_open p (inl q) e = absurd (let d : Closed ≡ Open = sym q ∙ e in cc)
not_open p (inr (inl q)) e = absurd (let d : Stopped ≡ Open = sym q ∙ e in cc)
not_open p (inr (inr q)) e = absurd (let d : Unfit ≡ Open = sym q ∙ e in cc)

module _ (M : PlanMeaning) (n : ℕ) (need : Entry → ℕ) (es : List Entry) (m f : ℕ) where
  pub widen_open : (r : Result ℕ Refusal) (ph ph' : Phase) (fs : List Entry) (k g : ℕ) → ph ≡ Open → AdvanceSays M n need es m f r ph' fs k g → WidenSays M n need ph es m f r ph' fs k g
  widen_open r ph ph' fs k g q s fit small need' a =
      let t = s (fit (λ e. open_fit (sym q ∙ e))) small need' a in (
        subst (λ p. Stepped (step M need' (view p es m f) widen) (widen_reply r) (view ph' fs k g)) (sym q)
            (subst (λ x. Stepped x (widen_reply r) (view ph' fs k g)) (sym (step_open M need' es m f)) t.0),
        λ _. t.1,
      )

  idle : (p : Phase) → (p ≡ Open → ⊥) → (need' : Row → ℕ) → Stepped (step M need' (view p es m f) widen) (widen_reply (Err refused.Phase)) (view p es m f)
  unfolding step
  idle Open d need' = absurd (d refl)
  idle Closed d need' = record { reply = refl; next = refl }
  idle Stopped d need' = record { reply = refl; next = refl }
  idle Unfit d need' = record { reply = refl; next = refl }

  pub widen_idle : (ph : Phase) → (ph ≡ Closed) ⊎ ((ph ≡ Stopped) ⊎ (ph ≡ Unfit)) → WidenSays M n need ph es m f (Err refused.Phase) ph es m f
  widen_idle ph q fit small need' a = (idle ph (not_open ph q) need', fit)
