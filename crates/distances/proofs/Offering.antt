-- One start over a store
use Rattle.std.proofs.Common.{◌≡◌, ℕ, ◌-◌, ◌^◌, ◌<◌, Bool, true, false, leb, List, [], ◌∷◌, ◌++◌, length, ℤ, pos, ◌-ℤ◌, ◌≤ℤ◌, Ok, Err, Result, sym, refl, ap, ◌∙◌, subst, ⊎_elim, arith}
use borrow.Author.Differences.{ints}
use Rattle.std.proofs.lemmas.Bool.{cond-true, cond-false, le-leb, lt-leb, cases_eq, cases_lt}
use Rattle.bounds.specs.declared.refusal.Refusal.{Refusal}
use Rattle.bounds.specs.declared.refusal.Refusal.TheVariants as refused
use Rattle.bounds.specs.Bounds.{UpperBound, none, upto, level, Meets}
use Rattle.bounds.specs.Laws.{times_is}
use Rattle.bounds.specs.Domains.{Lawful}
use Rattle.zones.specs.declared.codes.Code.{Code}
use Rattle.zones.specs.declared.zone.Zone.{Zone}
use Rattle.zones.specs.Codes.{at, decode, code_of}
use Rattle.plans.specs.Meaning.{PlanMeaning, WellFormed}
use Rattle.entries.specs.declared.entry.Entry.{Entry}
use Rattle.entries.specs.Entries.{AsksNothing, IsEntry}
use Rattle.stores.specs.Puts.{PutSays}
use Rattle.rounds.specs.Codes.{Remains}
use Rattle.rounds.specs.Codes.Remains.{kept, empty}
use Rattle.rounds.specs.Answers.{ZoneCodes}
use Rattle.rounds.specs.Calls.{ZoneOf}
use Rattle.rounds.specs.Unused.{Unasked}
use Rattle.rounds.specs.Rounds.{Entry as Row, entry_at, covering, put, offer, tried}
use Rattle.rounds.specs.Rounds.Turn.{done, full}
use Rattle.rounds.specs.Stands.{EntryOf}
use Rattle.rounds.proofs.Entries.{pushed_all}
use Rattle.starts.specs.Told.{Tells}
use Rattle.distances.specs.Rows.{row, rows, Zones}
use Rattle.distances.specs.Covers.{CoverTells}
use Rattle.distances.specs.Turns.{Ends, Ready, Agrees, StartFits, Turned}
use Rattle.distances.proofs.Covering.{many_rows}

-- ---- what a round puts is an entry for the store's clocks
meets_below : (D : ℕ) (d e : ℤ) (b : UpperBound) → e ≤ℤ d → Meets D d b → Meets D e b
unfolding Meets
meets_below D d e none h m = tt
meets_below D d e (upto true c) h m = omega (arith, ints)
meets_below D d e (upto false c) h m = omega (arith, ints)

meets_level : (D : ℕ) (d : ℤ) → d ≡ pos 0 → Meets D d level
unfolding Meets
meets_level D d h = omega (arith, ints, times_is (pos 0) D)

meets_none : (D : ℕ) (d : ℤ) → Meets D d none
unfolding Meets
meets_none D d = tt

pub asks_nothing : (n : ℕ) (xs : List Code) → ZoneCodes xs → Unasked n (at xs) → AsksNothing n xs
asks_nothing n xs z u D v w big rv rw same h i j hi hj = ⊎_elim {C = Meets D (w i -ℤ w j) (at xs i j)}
    (λ e. subst (Meets D (w i -ℤ w j)) (sym (ap (at xs i) (sym e) ∙ z.sound.canon.diagonal i hi)) (meets_level D (w i -ℤ w j) (let f : w i ≡ w j = ap w e in omega (arith, ints))))
    (λ d. ⊎_elim {C = Meets D (w i -ℤ w j) (at xs i j)}
    (λ l. subst (Meets D (w i -ℤ w j)) (sym (u.row j i hj hi l (λ e. d (sym e)))) (meets_none D (w i -ℤ w j)))
    (λ l. ⊎_elim {C = Meets D (w i -ℤ w j) (at xs i j)}
    (λ m. subst (Meets D (w i -ℤ w j)) (sym (u.column i j hi hj m d))
    (meets_below D (v i -ℤ v 0) (w i -ℤ w j) (at xs i 0) (low (w i) (v i) (w j) (v 0) (same i l) rv.0 (rw.1 j hj)) (h i 0 hi (omega arith))))
    (λ m. subst (λ x. Meets D (x -ℤ w j) (at xs i j)) (sym (same i l)) (subst (λ y. Meets D (v i -ℤ y) (at xs i j)) (sym (same j m)) (h i j hi hj)))
    (cases_lt n j))
    (cases_lt n i))
    (cases_eq i j)
  where
    low : (a b c d : ℤ) → a ≡ b → d ≡ pos 0 → pos 0 ≤ℤ c → (a -ℤ c) ≤ℤ (b -ℤ d)
    low a b c d e f g = omega (arith, ints)

pub is_entry : (M : PlanMeaning) → WellFormed M → (n : ℕ) → n ≡ M.clocks → (e : Entry) → e.round < 2 ^ 64 → EntryOf M (row e) → IsEntry n e
is_entry M formed n q e small f = record {
  low = f.first;
  high = omega (arith, f.last, formed.few_positions);
  fits = small;
  places = f.zone.codes.many;
  asks = asks_nothing n e.zone.codes f.zone.codes (subst (λ m. Unasked m (at e.zone.codes)) (sym q) f.zone.unasked);
}

-- the plan's time domain is the one that it gives
pub lawful_of : (M : PlanMeaning) (allows : ℕ → Bool) (normal : UpperBound → UpperBound) → allows ≡ M.allows → normal ≡ M.normal → Lawful allows normal → Lawful M.allows M.normal
lawful_of M allows normal e f K = subst (λ n. Lawful M.allows n) f (subst (λ a. Lawful a normal) e K)

-- ---- the ways of one start
rows_push : (es : List Entry) (e : Entry) → rows (es ++ (e ∷ [])) ≡ rows es ++ (row e ∷ [])
rows_push [] e = refl
rows_push (x ∷ es) e = ap (λ rs. row x ∷ rs) (rows_push es e)

pub zones_of : (M : PlanMeaning) (n : ℕ) (es : List Entry) (normal : UpperBound → UpperBound) → normal ≡ M.normal → Ready M n es → Zones normal es
zones_of M n es normal q r k h = record {
  codes = (r.fits k h).zone.codes;
  of_domain = subst (λ f. (p : ℕ) → p < 81 → f (decode (code_of (entry_at (rows es) k).zone p)) ≡ decode (code_of (entry_at (rows es) k).zone p)) (sym q) (r.fits k h).zone.of_domain;
}

pub zone_of : (M : PlanMeaning) (f p : ℕ) (z : List Code) (normal : UpperBound → UpperBound) → normal ≡ M.normal → EntryOf M (record { position = p; round = f; zone = z }) → ZoneOf normal z
zone_of M f p z normal q e = record {
  codes = e.zone.codes;
  of_domain = subst (λ g. (k : ℕ) → k < 81 → g (decode (code_of z k)) ≡ decode (code_of z k)) (sym q) e.zone.of_domain;
}

module _ (M : PlanMeaning) (formed : WellFormed M) (n : ℕ) (need : Entry → ℕ) (f p : ℕ) (es : List Entry) (m : ℕ) (need' : Row → ℕ) (agrees : Agrees need' need) (ready : Ready M n es) where
  pub offer_refused : (why : Refusal) (o : Remains) → Tells o (Err why) → Turned M n (tried need' f p o (rows es) m) (Err why) es m
  unfolding tried
  offer_refused why o t = record {
    ends = subst (λ e. Ends (tried need' f p o (rows es) m) (Err e) (rows es) m) (sym t.1) (ap (λ x. tried need' f p x (rows es) m) t.0);
    ready = ready;
  }

  pub offer_none : (u : Unit {0}) (o : Remains) → o ≡ empty → Turned M n (tried need' f p o (rows es) m) (Ok u) es m
  unfolding tried
  offer_none u o t = record { ends = ap (λ x. tried need' f p x (rows es) m) t; ready = ready }

  module _ (normal : UpperBound → UpperBound) (same : normal ≡ M.normal) (z : Zone) (o : Remains) (is : o ≡ kept z.codes) (fits : StartFits M f p o) (b : Bool) (c : CoverTells normal es p z.codes b) where
    entry : EntryOf M (record { position = p; round = f; zone = z.codes })
    entry = subst (StartFits M f p) is fits

    covered : b ≡ covering (rows es) p z.codes
    covered = c (zones_of M n es normal same ready) (zone_of M f p z.codes normal same entry)

    pub offer_dropped : (u : Unit {0}) → b ≡ true → Turned M n (tried need' f p o (rows es) m) (Ok u) es m
    unfolding tried offer
    offer_dropped u t = record {
      ends = ap (λ x. tried need' f p x (rows es) m) is ∙ cond-true (covering (rows es) p z.codes) _ _ (sym covered ∙ t);
      ready = ready;
    }

    abbrev new : Entry
    new = record { position = p; round = f; zone = z }

    offered : b ≡ false → tried need' f p o (rows es) m ≡ put need' (rows es) m (row new)
    unfolding tried offer
    offered t = ap (λ x. tried need' f p x (rows es) m) is ∙ cond-false (covering (rows es) p z.codes) _ _ (sym covered ∙ t)

    pub offer_put : b ≡ false → f < 2 ^ 64 → (r : Result (Unit {0}) Refusal) (fs : List Entry) (k : ℕ) → PutSays n (need new) new es m r fs k → Turned M n (tried need' f p o (rows es) m) r fs k
    unfolding put
    offer_put t small (Ok u) fs k s =
        let q : rows fs ≡ rows es ++ (row new ∷ []) = ap rows s.entries ∙ rows_push es new in
        let a : need' (row new) ≡ need new = agrees new in
        record {
          ends = offered t ∙ cond-true (leb (need' (row new)) m) _ _ (le-leb _ _ (omega (arith, a, s.fits)))
              ∙ ap (λ rs. done rs (m - need' (row new))) (sym q) ∙ ap (done (rows fs)) (omega (arith, a, s.room, s.fits));
          ready = record {
            clocks = ready.clocks;
            fits = λ i h. subst (λ rs. EntryOf M (entry_at rs i)) (sym q)
                (pushed_all (EntryOf M) (rows es) (row new) (λ j l. ready.fits j (omega (arith, many_rows es))) entry i (omega (arith, many_rows fs, ap length q)));
          };
        }
    offer_put t small (Err refused.Name) fs k s = absurd (s.none (is_entry M formed n ready.clocks new small entry))
    offer_put t small (Err refused.Full) fs k s =
        let a : need' (row new) ≡ need new = agrees new in
        record {
          ends = offered t ∙ cond-false (leb (need' (row new)) m) _ _ (lt-leb _ _ (omega (arith, a, s.over))) ∙ ap (λ es'. full (rows es') m) (sym s.entries) ∙ ap (full (rows fs)) (sym s.room);
          ready = subst (Ready M n) (sym s.entries) ready;
        }
    offer_put t small (Err refused.Line) fs k s = absurd s
    offer_put t small (Err refused.Order) fs k s = absurd s
    offer_put t small (Err refused.Number) fs k s = absurd s
    offer_put t small (Err refused.Chance) fs k s = absurd s
    offer_put t small (Err refused.Rows) fs k s = absurd s
    offer_put t small (Err refused.Clocks) fs k s = absurd s
    offer_put t small (Err refused.State) fs k s = absurd s
    offer_put t small (Err refused.Range) fs k s = absurd s
    offer_put t small (Err refused.Phase) fs k s = absurd s
    offer_put t small (Err refused.Entry) fs k s = absurd s
    offer_put t small (Err refused.Buffer) fs k s = absurd s
