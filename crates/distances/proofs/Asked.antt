-- Answers of a search
use Rattle.std.proofs.Common.{◌≡◌, ℕ, ◌<◌, ◌≤◌, Bool, true, false, ◌&&◌, eqb, leb, is_ok, List, length, Some, None, Ok, Err, Option, Result, ◌⊎◌, inl, inr, ◌≢◌, sym, refl, ap, ◌∙◌, ⊎_elim, arith}
use Rattle.std.proofs.lemmas.Bool.{cond-true, and_from, and_parts, and_left, both_ways, eq-eqb, eqb-true, le-leb, leb-true, lt-leb, cases_Bool}
use Rattle.bounds.specs.declared.refusal.Refusal.{Refusal}
use Rattle.bounds.specs.declared.refusal.Refusal.TheVariants as refused
use Rattle.bounds.specs.Bounds.{UpperBound}
use Rattle.zones.specs.States.{Good, StateSays, value_of}
use Rattle.plans.specs.Meaning.{PlanMeaning, WellFormed}
use Rattle.entries.specs.declared.entry.Entry.{Entry}
use Rattle.rounds.specs.declared.replies.Phase.{Phase}
use Rattle.rounds.specs.declared.replies.Phase.TheVariants.{Open, Closed, Stopped, Unfit}
use Rattle.rounds.specs.declared.replies.Answer.{Answer}
use Rattle.rounds.specs.declared.replies.Answer.TheVariants.{Distance, Untold}
use Rattle.rounds.specs.Searches.{Askable, askable, answer, find, step}
use Rattle.rounds.specs.Searches.Call.{ask}
use Rattle.rounds.specs.Searches.Reply.{told}
use Rattle.rounds.proofs.Runs.{askable_yes, yes_askable}
use Rattle.distances.specs.Rows.{rows}
use Rattle.distances.specs.Turns.{Ready}
use Rattle.distances.specs.Finds.{FindTells}
use Rattle.distances.specs.Searching.{view, AskableTells, TellSays, AskSays}
use Rattle.distances.proofs.Offering.{zones_of}

-- ---- states
module _ (M : PlanMeaning) (D p : ℕ) (rs : List ℕ) where
  not_askable : (Askable M D p rs → ⊥) → AskableTells M D p rs false
  not_askable d = ⊎_elim {C = false ≡ askable M D p rs} (λ e. absurd (d (askable_yes M D p rs e))) (λ e. sym e) (cases_Bool (askable M D p rs))

  -- a position of the plan, and a reading of each of its clocks
  abbrev pub named : Bool
  named = leb 1 p && leb p (length M.positions)

  pub named_then : (b : Bool) (m : ℕ) → 1 ≤ p → m ≡ length M.positions → b ≡ leb p m → b ≡ named
  named_then b m h q e = e ∙ ap (leb p) q ∙ sym (ap (λ x. x && leb p (length M.positions)) (le-leb 1 p h))

  pub named_else : (b : Bool) → p < 1 → b ≡ leb 1 p → b ≡ named
  named_else b h e = e ∙ lt-leb 1 p h ∙ sym (and_left (leb 1 p) (leb p (length M.positions)) (lt-leb 1 p h))

  abbrev pub shaped : Bool
  shaped = named && eqb (length rs) M.clocks

  pub shaped_then : (b d : Bool) (n : ℕ) → d ≡ named → d ≡ true → n ≡ M.clocks → b ≡ eqb (length rs) n → b ≡ shaped
  shaped_then b d n q t k e = e ∙ ap (eqb (length rs)) k ∙ sym (ap (λ x. x && eqb (length rs) M.clocks) (sym q ∙ t))

  pub shaped_else : (b d : Bool) → d ≡ named → d ≡ false → b ≡ d → b ≡ shaped
  shaped_else b d q f e = e ∙ f ∙ sym (and_left named (eqb (length rs) M.clocks) (sym q ∙ f))

  pub misshaped : (b : Bool) → b ≡ shaped → b ≡ false → AskableTells M D p rs b
  misshaped b q f = f ∙ not_askable (λ a. both_ways shaped (sym q ∙ f)
      (and_from named (eqb (length rs) M.clocks) (and_from (leb 1 p) (leb p (length M.positions)) (le-leb 1 p a.first) (le-leb p (length M.positions) a.last)) (eq-eqb (length rs) M.clocks a.count)))

  pub askable_good : WellFormed M → (allows : ℕ → Bool) → allows ≡ M.allows → Askable M D p rs → Good allows D rs
  askable_good formed allows q a = record { count = omega (arith, a.count, formed.few_clocks); least = a.scale; most = a.most; allowed = ap (λ f. f D) q ∙ a.allowed; small = a.small }

  -- the readings and the scale are looked at last
  pub checked : WellFormed M → (b : Bool) → b ≡ shaped → b ≡ true → (allows : ℕ → Bool) → allows ≡ M.allows → (r : Result (Unit {0}) Refusal) → StateSays allows D rs r → AskableTells M D p rs (is_ok r)
  checked formed b q t allows qa (Ok u) g =
      let both = and_parts named (eqb (length rs) M.clocks) (sym q ∙ t) in
      let at = and_parts (leb 1 p) (leb p (length M.positions)) both.0 in
      sym (yes_askable M D p rs (record {
        first = leb-true 1 p at.0;
        last = leb-true p (length M.positions) at.1;
        count = eqb-true (length rs) M.clocks both.1;
        scale = g.least;
        most = g.most;
        allowed = ap (λ f. f D) (sym qa) ∙ g.allowed;
        small = g.small;
      }))
  checked formed b q t allows qa (Err e) s = not_askable (λ a. s.1 (askable_good formed allows qa a))

-- ---- answers
fit_phase : (p : Phase) → (p ≡ Open) ⊎ ((p ≡ Closed) ⊎ (p ≡ Stopped)) → p ≢ Unfit
fit_phase p (inl q) e = absurd (let d : Open ≡ Unfit = sym q ∙ e in cc)
fit_phase p (inr (inl q)) e = absurd (let d : Closed ≡ Unfit = sym q ∙ e in cc)
fit_phase p (inr (inr q)) e = absurd (let d : Stopped ≡ Unfit = sym q ∙ e in cc)

pub some_answer : (p : Phase) (f d : ℕ) → Distance d ≡ answer p f (Some d)
some_answer Open f d = refl
some_answer Closed f d = refl
some_answer Stopped f d = refl
some_answer Unfit f d = refl

pub untold_answer : (p : Phase) (f : ℕ) → (p ≡ Open) ⊎ ((p ≡ Stopped) ⊎ (p ≡ Unfit)) → Untold f ≡ answer p f None
untold_answer p f (inl q) = sym (ap (λ x. answer x f None) q)
untold_answer p f (inr (inl q)) = sym (ap (λ x. answer x f None) q)
untold_answer p f (inr (inr q)) = sym (ap (λ x. answer x f None) q)

module _ (M : PlanMeaning) (formed : WellFormed M) (n : ℕ) (es : List Entry) (m f D p : ℕ) (rs : List ℕ) where
  module _ (b : Bool) (yes : b ≡ true) (t : AskableTells M D p rs b) (allows : ℕ → Bool) (normal : UpperBound → UpperBound) (qa : allows ≡ M.allows) (qn : normal ≡ M.normal) (o : Option ℕ) (s : FindTells allows normal es D p rs o) where
    found : Ready M n es → o ≡ find (rows es) D p (value_of rs)
    found r = s (zones_of M n es normal qn r) (askable_good M D p rs formed allows qa (askable_yes M D p rs (sym t ∙ yes)))

    pub tell_answer : (ph : Phase) (a : Answer) → a ≡ answer ph f o → TellSays M n ph es m f D p rs (Ok a)
    tell_answer ph a q r = ap told (q ∙ ap (answer ph f) (found r)) ∙ sym (cond-true (askable M D p rs) _ _ (sym t ∙ yes))

  pub ask_fit : (ph : Phase) → (ph ≡ Open) ⊎ ((ph ≡ Closed) ⊎ (ph ≡ Stopped)) → (x : Result Answer Refusal) → TellSays M n ph es m f D p rs x → AskSays M n ph es m f D p rs x
  unfolding step
  ask_fit Open q x t fit need' = t (fit (fit_phase Open q))
  ask_fit Closed q x t fit need' = t (fit (fit_phase Closed q))
  ask_fit Stopped q x t fit need' = t (fit (fit_phase Stopped q))
  ask_fit Unfit q x t fit need' = absurd (fit_phase Unfit q refl)

  pub ask_unfit : (ph : Phase) → ph ≡ Unfit → AskSays M n ph es m f D p rs (Err refused.Phase)
  unfolding step
  ask_unfit ph q fit need' = sym (ap (λ y. (step M need' (view y es m f) (ask D p rs)).reply) q)
