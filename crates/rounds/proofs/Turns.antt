-- What a round keeps, and what it reaches.
use Rattle.std.proofs.Common.{◌≡◌, ℕ, zero, suc, ◌-◌, ◌<◌, ◌&&◌, eqb, leb, List, [], ◌∷◌, ◌++◌, map, length, sym, refl, subst, arith}
use Rattle.std.proofs.lemmas.Bool.{and_parts, and_from, eqb-true, eq-eqb, leb-true, le-leb, cond_both, cond-true}
use Rattle.std.specs.List.{flat_map}
use Rattle.zones.specs.declared.codes.Code.{Code}
use Rattle.plans.specs.Boxes.{InBox, reset}
use Rattle.plans.specs.Items.{Names}
use Rattle.plans.specs.Meaning.{PlanMeaning, invariant_of, outcome_at, goal_at, no_outcome, no_goal}
use Rattle.plans.specs.Routes.{Route}
use Rattle.rounds.specs.Codes.{Remains}
use Rattle.rounds.specs.Codes.Remains.{kept, empty, beyond}
use Rattle.rounds.specs.Held.{Held, Scale, Fits, Exact}
use Rattle.rounds.specs.Rounds.{Entry, no_entry, entry_at, move_of, Start, goal_zone, step_zone, goal_start, step_start, across, after, starts, Turn, onward, covering, put, offer, tried, tries, round}
use Rattle.rounds.specs.Rounds.Turn.{done, full, range}
use Rattle.rounds.specs.Stands.{Covers, EntryOf, Real, Good, AllBased, AllStepped}
use Rattle.rounds.proofs.Laws.{Laws}
use Rattle.rounds.proofs.Exacts.{earlier_now}
use Rattle.rounds.proofs.Zones.{Arriving, Crossing, goal_exact, step_exact, goal_route, step_route}
use Rattle.rounds.proofs.Each.{Each, mapped_each, each_mapped, joined_each, each_joined}
use Rattle.rounds.proofs.Entries.{Grown, grown_refl, grown_trans, grown_push, covers_mono, push_covers, covering_one, good_push}

-- the states of a start have routes of f crossings
abbrev pub Backed : PlanMeaning → ℕ → ℕ → Remains → Type 0
Backed M f p (kept z) = EntryOf M (record { position = p; round = f; zone = z }) × ((D : ℕ) (v : ℕ → ℕ) → Scale M D → Held z D v → ∥ Route M D p v f ∥₁)
Backed M f p empty = Unit {0}
Backed M f p beyond = Unit {0}

-- the states of a start are covered
abbrev pub Catches : PlanMeaning → ℕ → List Entry → ℕ → Remains → Type 0
Catches M f es p (kept z) = (D : ℕ) (v : ℕ → ℕ) → Scale M D → Held z D v → Covers es f D p v
Catches M f es p empty = Unit {0}
Catches M f es p beyond = ⊥

-- how a part of round f leaves the entries es, with C of them where it ends well
abbrev pub Leaves : PlanMeaning → ℕ → List Entry → (List Entry → Type 0) → Turn → Type 0
Leaves M f es C (done fs room) = Good M fs f × Grown f es fs × C fs
Leaves M f es C (full fs room) = Good M fs f × Grown f es fs
Leaves M f es C (range fs room) = Good M fs f × Grown f es fs

module _ (M : PlanMeaning) where
  pub backed_of : (S : ℕ → (ℕ → ℕ) → Type 0) (f p : ℕ) → Names (length M.positions) p → ((D : ℕ) (v : ℕ → ℕ) → Scale M D → S D v → ∥ Route M D p v f ∥₁) → (o : Remains) → Exact M S o → Backed M f p o
  backed_of S f p n h (kept z) e = (record { first = n.0; last = n.1; zone = e.0 }, λ D v s x. h D v s ((e.1 D v s).0 x))
  backed_of S f p n h empty e = tt
  backed_of S f p n h beyond e = tt

  pub caught_of : (S : ℕ → (ℕ → ℕ) → Type 0) (f p : ℕ) (es : List Entry) (o : Remains) → Exact M S o → Catches M f es p o → (D : ℕ) (v : ℕ → ℕ) → Scale M D → S D v → Covers es f D p v
  caught_of S f p es (kept z) e c D v s x = c D v s ((e.1 D v s).1 x)
  caught_of S f p es empty e c D v s x = absurd (e D v s x)
  caught_of S f p es beyond e c D v s x = absurd c

  catches_mono : (f : ℕ) (es fs : List Entry) (p : ℕ) (o : Remains) → Grown f es fs → Catches M f es p o → Catches M f fs p o
  catches_mono f es fs p (kept z) g c = λ D v s h. covers_mono f es fs f D p v g (c D v s h)
  catches_mono f es fs p empty g c = tt
  catches_mono f es fs p beyond g c = c

  put_leaves : (L : Laws M) (need : Entry → ℕ) (f p room : ℕ) (z : List Code) (es : List Entry) → Good M es f → Backed M f p (kept z)
      → Leaves M f es (λ fs. Catches M f fs p (kept z)) (put need es room (record { position = p; round = f; zone = z }))
  unfolding put
  put_leaves L need f p room z es g b =
      let e : Entry = record { position = p; round = f; zone = z } in
      cond_both (leb (need e) room) (done (es ++ (e ∷ [])) (room - need e)) (full es room) (Leaves M f es (λ fs. Catches M f fs p (kept z)))
      (λ _. (good_push M es f e g b.0 b.1 refl, grown_push f es e refl, λ D v s h. push_covers es e f D v (omega arith) h))
      (λ _. (g, grown_refl f es))

  offer_leaves : (L : Laws M) (need : Entry → ℕ) (f p room : ℕ) (z : List Code) (es : List Entry) → Good M es f → Backed M f p (kept z)
      → Leaves M f es (λ fs. Catches M f fs p (kept z)) (offer need f p z es room)
  unfolding offer
  offer_leaves L need f p room z es g b =
      cond_both (covering es p z) (done es room) (put need es room (record { position = p; round = f; zone = z })) (Leaves M f es (λ fs. Catches M f fs p (kept z)))
      (λ h. let c = covering_one es p z h in
      (g, grown_refl f es, λ D v s x. ∣ (c.0, c.1, (c.2, L.within_exact z (entry_at es c.0).zone b.0.zone (g.fits c.0 c.1).zone c.3 D v s x), g.at_most c.0 c.1) ∣₁))
      (λ _. put_leaves L need f p room z es g b)

  pub tried_leaves : (L : Laws M) (need : Entry → ℕ) (f p room : ℕ) (o : Remains) (es : List Entry) → Good M es f → Backed M f p o
      → Leaves M f es (λ fs. Catches M f fs p o) (tried need f p o es room)
  unfolding tried
  tried_leaves L need f p room (kept z) es g b = offer_leaves L need f p room z es g b
  tried_leaves L need f p room empty es g b = (g, grown_refl f es, tt)
  tried_leaves L need f p room beyond es g b = (g, grown_refl f es)

  -- one part after another
  leaves_after : (f : ℕ) (es fs : List Entry) (C D E : List Entry → Type 0) → Grown f es fs → C fs → ((gs : List Entry) → Grown f fs gs → C fs → D gs → E gs) → (t : Turn) → Leaves M f fs D t → Leaves M f es E t
  leaves_after f es fs C D E g c j (done gs room) l = (l.0, grown_trans f es fs gs g l.1, j gs l.1 c l.2)
  leaves_after f es fs C D E g c j (full gs room) l = (l.0, grown_trans f es fs gs g l.1)
  leaves_after f es fs C D E g c j (range gs room) l = (l.0, grown_trans f es fs gs g l.1)

  pub leaves_onward : (f : ℕ) (es : List Entry) (C D E : List Entry → Type 0) (k : List Entry → ℕ → Turn) → ((fs : List Entry) (room : ℕ) → Good M fs f → Leaves M f fs D (k fs room))
      → ((fs gs : List Entry) → Grown f fs gs → C fs → D gs → E gs) → (t : Turn) → Leaves M f es C t → Leaves M f es E (onward t k)
  leaves_onward f es C D E k h j (done fs room) l = leaves_after f es fs C D E l.1 l.2 (j fs) (k fs room) (h fs room l.0)
  leaves_onward f es C D E k h j (full fs room) l = l
  leaves_onward f es C D E k h j (range fs room) l = l

  pub tries_leaves : (L : Laws M) (need : Entry → ℕ) (f : ℕ) (cs : List Start) → Each (λ c. Backed M f c.position c.zone) cs → (es : List Entry) (room : ℕ) → Good M es f
      → Leaves M f es (λ fs. Each (λ c. Catches M f fs c.position c.zone) cs) (tries need f cs es room)
  unfolding tries
  tries_leaves L need f [] b es room g = (g, grown_refl f es, tt)
  tries_leaves L need f (c ∷ cs) b es room g =
      leaves_onward f es (λ fs. Catches M f fs c.position c.zone) (λ fs. Each (λ x. Catches M f fs x.position x.zone) cs) (λ fs. Each (λ x. Catches M f fs x.position x.zone) (c ∷ cs))
      (tries need f cs) (λ fs r h. tries_leaves L need f cs b.1 fs r h)
      (λ fs gs w x y. (catches_mono f fs gs c.position c.zone w x, y))
      (tried need f c.position c.zone es room) (tried_leaves L need f c.position room c.zone es g b.0)

  -- what round f tries is backed
  goals_backed : (L : Laws M) → Each (λ c. Backed M 0 c.position c.zone) (map (goal_start M) M.goals)
  goals_backed L = mapped_each (λ c. Backed M 0 c.position c.zone) (goal_start M) no_goal M.goals
      (λ j h. backed_of (Arriving M (goal_at M j)) 0 (goal_at M j).position (L.goals_named j h) (λ D v s a. goal_route M L j h D v a) (goal_zone M (goal_at M j)) (goal_exact M L j h))

  across_backed : (L : Laws M) → (e : Entry) → Fits M e.zone → Real M e → (j : ℕ) → j < length M.outcomes
      → Each (λ c. Backed M (suc e.round) c.position c.zone) (across M e (outcome_at M j))
  unfolding across
  across_backed L e fit real j h =
      let o = outcome_at M j in
      cond_both (leb 1 o.chance && eqb o.target e.position) (step_start M e o ∷ []) [] (Each (λ c. Backed M (suc e.round) c.position c.zone))
      (λ t. let b = and_parts (leb 1 o.chance) (eqb o.target e.position) t in (
        backed_of (Crossing M e.zone o) (suc e.round) (move_of M o).source (L.sources_named j h)
            (λ D v s a. step_route M L j h (leb-true 1 o.chance b.0) e (eqb-true o.target e.position b.1) real D v s a)
            (step_zone M e.zone o) (step_exact M L e.zone fit j h),
        tt,
      ))
      (λ _. tt)

  after_backed : (L : Laws M) → (r : ℕ) (e : Entry) → Fits M e.zone → Real M e
      → Each (λ c. Backed M (suc r) c.position c.zone) (after M r e)
  unfolding after
  after_backed L r e fit real =
      cond_both (eqb e.round r) (flat_map (across M e) M.outcomes) [] (Each (λ c. Backed M (suc r) c.position c.zone))
      (λ t. subst (λ n. Each (λ c. Backed M (suc n) c.position c.zone) (flat_map (across M e) M.outcomes)) (eqb-true e.round r t)
      (joined_each (λ c. Backed M (suc e.round) c.position c.zone) (across M e) no_outcome M.outcomes (λ j h. across_backed L e fit real j h)))
      (λ _. tt)

  pub starts_backed : (L : Laws M) → (f g : ℕ) (es : List Entry) → Good M es g → Each (λ c. Backed M f c.position c.zone) (starts M f es)
  unfolding starts
  starts_backed L zero g es w = goals_backed L
  starts_backed L (suc r) g es w = joined_each (λ c. Backed M (suc r) c.position c.zone) (after M r) no_entry es (λ k h. after_backed L r (entry_at es k) (w.fits k h).zone (w.real k h))

  -- and what is caught of it is what a run needs
  unfoldable pub Reached : ℕ → List Entry → List Entry → Type 0
  Reached zero es fs = AllBased M fs
  Reached (suc r) es fs = (k : ℕ) → k < length es → (entry_at es k).round ≡ r → AllStepped M (entry_at es k) (suc r) fs

  goals_caught : (L : Laws M) → (fs : List Entry) → Each (λ c. Catches M 0 fs c.position c.zone) (map (goal_start M) M.goals) → AllBased M fs
  goals_caught L fs c j h D v w s st b =
      caught_of (Arriving M (goal_at M j)) 0 (goal_at M j).position fs (goal_zone M (goal_at M j)) (goal_exact M L j h)
      (each_mapped (λ x. Catches M 0 fs x.position x.zone) (goal_start M) no_goal M.goals c j h) D v s
      (earlier_now M (λ E u. InBox (invariant_of M (goal_at M j).position) E u × InBox (goal_at M j).area E u) D w v s.1 (st.1, b), st.0)

  after_caught : (L : Laws M) → (r : ℕ) (e : Entry) (fs : List Entry) → Fits M e.zone → e.round ≡ r
      → Each (λ c. Catches M (suc r) fs c.position c.zone) (after M r e) → AllStepped M e (suc r) fs
  unfolding after across
  after_caught L r e fs fit q c j h D v w s chance st g i =
      let o = outcome_at M j in
      let c1 : Each (λ x. Catches M (suc r) fs x.position x.zone) (flat_map (across M e) M.outcomes)
      = subst (Each (λ x. Catches M (suc r) fs x.position x.zone)) (cond-true (eqb e.round r) (flat_map (across M e) M.outcomes) [] (eq-eqb e.round r q)) c in
      let c2 : Each (λ x. Catches M (suc r) fs x.position x.zone) (across M e o)
      = each_joined (λ x. Catches M (suc r) fs x.position x.zone) (across M e) no_outcome M.outcomes c1 j h in
      let c3 : Each (λ x. Catches M (suc r) fs x.position x.zone) (step_start M e o ∷ [])
      = subst (Each (λ x. Catches M (suc r) fs x.position x.zone))
      (cond-true (leb 1 o.chance && eqb o.target e.position) (step_start M e o ∷ []) []
      (and_from (leb 1 o.chance) (eqb o.target e.position) (le-leb 1 o.chance chance) (eq-eqb o.target e.position (sym i.0)))) c2 in
      caught_of (Crossing M e.zone o) (suc r) (move_of M o).source fs (step_zone M e.zone o) (step_exact M L e.zone fit j h) c3.0 D v s
      (earlier_now M (λ E u. (Held e.zone E (reset o.resets u) × InBox (move_of M o).guard E u) × InBox (invariant_of M (move_of M o).source) E u) D w v s.1 ((i.1, g), st.1), st.0)

  pub starts_caught : (L : Laws M) → (f g : ℕ) (es fs : List Entry) → Good M es g → Each (λ c. Catches M f fs c.position c.zone) (starts M f es) → Reached f es fs
  unfolding starts Reached
  starts_caught L zero g es fs w c = goals_caught L fs c
  starts_caught L (suc r) g es fs w c = λ k h q.
      after_caught L r (entry_at es k) fs (w.fits k h).zone q
      (each_joined (λ x. Catches M (suc r) fs x.position x.zone) (after M r) no_entry es c k h)

  leaves_map : (f : ℕ) (es : List Entry) (C D : List Entry → Type 0) → ((fs : List Entry) → C fs → D fs) → (t : Turn) → Leaves M f es C t → Leaves M f es D t
  leaves_map f es C D h (done fs room) l = (l.0, l.1, h fs l.2)
  leaves_map f es C D h (full fs room) l = l
  leaves_map f es C D h (range fs room) l = l

  pub round_leaves : (L : Laws M) → (need : Entry → ℕ) (f : ℕ) (es : List Entry) (room : ℕ) → Good M es f → Leaves M f es (Reached f es) (round M need f es room)
  unfolding round
  round_leaves L need f es room g =
      leaves_map f es (λ fs. Each (λ c. Catches M f fs c.position c.zone) (starts M f es)) (Reached f es) (λ fs c. starts_caught L f f es fs g c)
      (tries need f (starts M f es) es room) (tries_leaves L need f (starts M f es) (starts_backed L f f es g) es room g)
