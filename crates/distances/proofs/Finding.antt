-- Entries asked for a state one by one
use Rattle.std.proofs.Common.{◌≡◌, ℕ, Bool, true, false, ◌&&◌, eqb, List, Some, Ok, Err, Option, Result, sym, refl, ap, ◌∙◌, ⊎_elim}
use Rattle.std.specs.Option.{option_map}
use Rattle.std.specs.Result.{result_unwrap_or}
use mathlib.Core.Path.{fun_ext}
use Rattle.std.proofs.lemmas.Bool.{eq-eqb, ne_eqb, cond-true, cond-false, and_from, and_left, and_right, cases_eq}
use Rattle.bounds.specs.declared.refusal.Refusal.{Refusal}
use Rattle.bounds.specs.declared.refusal.Refusal.TheVariants as refused
use Rattle.bounds.specs.Bounds.{UpperBound}
use Rattle.zones.specs.declared.codes.Code.{Code}
use Rattle.zones.specs.Calls.{HoldsSays}
use Rattle.zones.specs.States.{Good, value_of}
use Rattle.entries.specs.declared.entry.Entry.{Entry}
use Rattle.rounds.specs.Codes.{holds_zone}
use Rattle.rounds.specs.Calls.{ZoneOf}
use Rattle.rounds.specs.Held.{holds_state}
use Rattle.rounds.specs.Searches.{find}
use Rattle.rounds.proofs.Calling.{holds_only}
use Rattle.rounds.proofs.Readings.{clock_value}
use Rattle.distances.specs.Rows.{rows, Zones}
use Rattle.distances.specs.Finds.{HoldTells}
use Rattle.distances.specs.Firsts.{FirstAt}
use Rattle.distances.specs.Firsts.FirstAt.{ended, here, past}
use Rattle.distances.proofs.Covering.{zones_after, zone_first}

pub hold_tells : (allows : ℕ → Bool) (normal : UpperBound → UpperBound) (D : ℕ) (rs : List ℕ) (xs : List Code) (r : Result Bool Refusal) → HoldsSays allows normal D rs xs r → HoldTells allows normal D rs xs (result_unwrap_or r false)
hold_tells allows normal D rs xs (Ok b) s z g = sym (ap (holds_zone xs D) (fun_ext (clock_value rs)) ∙ holds_only allows normal D rs xs b s)
hold_tells allows normal D rs xs (Err e) s z g = absurd (not_refused e s)
  where
    not_refused : (e : Refusal) → HoldsSays allows normal D rs xs (Err e) → ⊥
    not_refused refused.Number s = s z.of_domain
    not_refused refused.State s = s.1 g
    not_refused refused.Line s = s
    not_refused refused.Order s = s
    not_refused refused.Name s = s
    not_refused refused.Chance s = s
    not_refused refused.Rows s = s
    not_refused refused.Clocks s = s
    not_refused refused.Full s = s
    not_refused refused.Range s = s
    not_refused refused.Phase s = s
    not_refused refused.Entry s = s
    not_refused refused.Buffer s = s

module _ (allows : ℕ → Bool) (normal : UpperBound → UpperBound) (D p : ℕ) (rs : List ℕ) (g : Good allows D rs) (R : Entry → Bool → Type 0) (tells : (e : Entry) (b : Bool) → R e b → HoldTells allows normal D rs e.zone.codes b) where
  -- the test is that of finding
  tested : (e : Entry) → ZoneOf normal e.zone.codes → (b : Bool) → R e b → holds_state e.zone.codes D (value_of rs) ≡ b
  tested e y b t = sym (tells e b t y g)

  pub finds : (es : List Entry) (o : Option Entry) → FirstAt R p es o → Zones normal es → option_map (λ (e : Entry). e.round) o ≡ find (rows es) D p (value_of rs)
  unfolding find
  finds _ _ ended zs = refl
  finds _ _ (here {e} {es} q t) zs =
      sym (cond-true (eqb e.position p && holds_state e.zone.codes D (value_of rs)) (Some e.round) (find (rows es) D p (value_of rs)) (and_from (eqb e.position p) (holds_state e.zone.codes D (value_of rs)) (eq-eqb e.position p q) (tested e (zone_first normal e es zs) true t)))
  finds _ _ (past {e} {es} {r} f o) zs =
      finds es r o (zones_after normal e es zs)
      ∙ sym (cond-false (eqb e.position p && holds_state e.zone.codes D (value_of rs)) (Some e.round) (find (rows es) D p (value_of rs)) (⊎_elim {C = (eqb e.position p && holds_state e.zone.codes D (value_of rs)) ≡ false}
      (λ q. and_right (eqb e.position p) (holds_state e.zone.codes D (value_of rs)) (tested e (zone_first normal e es zs) false (f q)))
      (λ d. and_left (eqb e.position p) (holds_state e.zone.codes D (value_of rs)) (ne_eqb e.position p d))
      (cases_eq e.position p)))
