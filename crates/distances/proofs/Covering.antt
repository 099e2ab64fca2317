-- Entries looked at one by one
use Rattle.std.proofs.Common.{◌≡◌, ℕ, suc, ◌+◌, ◌-◌, ◌<◌, Bool, true, false, ◌&&◌, ◌||◌, eqb, List, ◌∷◌, length, get_or, Ok, Err, Option, Result, is_some, sym, refl, ap, ◌∙◌, ⊎_elim, arith}
use Rattle.std.specs.Result.{result_unwrap_or}
use Rattle.std.proofs.lemmas.List.{get_or-map, length-map}
use Rattle.std.proofs.lemmas.Bool.{eq-eqb, ne_eqb, or_left, and_from, and_left, and_right, cases_eq}
use Rattle.bounds.specs.declared.refusal.Refusal.{Refusal}
use Rattle.bounds.specs.Bounds.{UpperBound}
use Rattle.bounds.specs.Domains.{Lawful, scales}
use Rattle.zones.specs.declared.codes.Code.{Code}
use Rattle.zones.specs.Calls.{WithinSays}
use Rattle.plans.specs.Items.{Item}
use Rattle.entries.specs.declared.entry.Entry.{Entry}
use Rattle.rounds.specs.Codes.{within_zone}
use Rattle.rounds.specs.Calls.{ZoneOf}
use Rattle.rounds.specs.Rounds.{no_entry, entry_at, covering}
use Rattle.rounds.proofs.Given.{zone_calls_given}
use Rattle.distances.specs.Rows.{row, rows, Zones}
use Rattle.distances.specs.Covers.{WithinTells}
use Rattle.distances.specs.Firsts.{FirstAt}
use Rattle.distances.specs.Firsts.FirstAt.{ended, here, past}

pub within_tells : (allows : ℕ → Bool) (normal : UpperBound → UpperBound) → Lawful allows normal → (xs ys : List Code) (r : Result Bool Refusal) → WithinSays (scales allows) normal xs ys r → WithinTells normal xs ys (result_unwrap_or r false)
within_tells allows normal K xs ys (Ok b) w x y = sym ((zone_calls_given allows normal K).within_only xs ys b x y.codes w)
within_tells allows normal K xs ys (Err e) w x y = absurd (w.1 (x.of_domain, y.of_domain))

pub many_rows : (es : List Entry) → length (rows es) ≡ length es
many_rows es = length-map es row

-- entry k, read from 1, is row k
pub row_read : (es : List Entry) (k : ℕ) (e : Entry) → k < length es → Item es (k + 1) (Ok e) → entry_at (rows es) k ≡ row e
row_read es k e h i =
    let q : k + 1 - 1 ≡ k = omega arith in
    get_or-map row es k e no_entry h ∙ ap row (ap (λ j. get_or es j e) (sym q) ∙ sym i.2)

-- the zones of the entries but the first
pub zones_after : (normal : UpperBound → UpperBound) (e : Entry) (es : List Entry) → Zones normal (e ∷ es) → Zones normal es
zones_after normal e es zs k h = zs (suc k) (omega arith)

pub zone_first : (normal : UpperBound → UpperBound) (e : Entry) (es : List Entry) → Zones normal (e ∷ es) → ZoneOf normal e.zone.codes
zone_first normal e es zs = zs 0 (omega arith)

module _ (normal : UpperBound → UpperBound) (p : ℕ) (xs : List Code) (z : ZoneOf normal xs) (R : Entry → Bool → Type 0) (tells : (e : Entry) (b : Bool) → R e b → WithinTells normal xs e.zone.codes b) where
  -- the test is that of covering
  tested : (e : Entry) → ZoneOf normal e.zone.codes → (b : Bool) → R e b → within_zone xs e.zone.codes ≡ b
  tested e y b t = sym (tells e b t z y)

  pub covers : (es : List Entry) (o : Option Entry) → FirstAt R p es o → Zones normal es → is_some o ≡ covering (rows es) p xs
  unfolding covering
  covers _ _ ended zs = refl
  covers _ _ (here {e} {es} q t) zs =
      sym (or_left (eqb e.position p && within_zone xs e.zone.codes) (covering (rows es) p xs) (and_from (eqb e.position p) (within_zone xs e.zone.codes) (eq-eqb e.position p q) (tested e (zone_first normal e es zs) true t)))
  covers _ _ (past {e} {es} {r} f o) zs =
      covers es r o (zones_after normal e es zs)
      ∙ ap (λ b. b || covering (rows es) p xs) (sym (⊎_elim {C = (eqb e.position p && within_zone xs e.zone.codes) ≡ false}
      (λ q. and_right (eqb e.position p) (within_zone xs e.zone.codes) (tested e (zone_first normal e es zs) false (f q)))
      (λ d. and_left (eqb e.position p) (within_zone xs e.zone.codes) (ne_eqb e.position p d))
      (cases_eq e.position p)))
