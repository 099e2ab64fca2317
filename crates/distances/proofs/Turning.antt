-- A round over a store, part by part
use Rattle.std.proofs.Common.{◌≡◌, ℕ, suc, ◌+◌, ◌-◌, ◌<◌, ◌≤◌, false, ◌&&◌, eqb, leb, List, [], ◌∷◌, ◌++◌, map, length, get_or, drop, Ok, Err, Option, Result, sym, refl, ap, ◌∙◌, subst, arith}
use Rattle.std.specs.List.{flat_map}
use Rattle.std.proofs.lemmas.List.{at_drop_more, at_drop_all}
use Rattle.std.proofs.lemmas.Bool.{cond-true, cond-false, and_from, and_left, and_right, eq-eqb, ne_eqb, le-leb, lt-leb}
use Rattle.bounds.specs.declared.refusal.Refusal.{Refusal}
use Rattle.bounds.specs.declared.refusal.Refusal.TheVariants as refused
use Rattle.bounds.specs.Domains.{Lawful}
use Rattle.zones.specs.declared.zone.Zone.{Zone}
use Rattle.plans.specs.declared.rows.Move.{Move}
use Rattle.plans.specs.declared.rows.Outcome.{Outcome}
use Rattle.plans.specs.declared.rows.Goal.{Goal}
use Rattle.plans.specs.Items.{Names, Item}
use Rattle.plans.specs.Meaning.{PlanMeaning, WellFormed, OutcomeOf, goal_at, outcome_at, no_goal, no_outcome}
use Rattle.plans.specs.RowLists.{no_move}
use Rattle.entries.specs.declared.entry.Entry.{Entry}
use Rattle.rounds.specs.Codes.{Remains}
use Rattle.rounds.specs.Codes.Remains.{kept, empty, beyond}
use Rattle.rounds.specs.Held.{Exact}
use Rattle.rounds.specs.Rounds.{Entry as Row, no_entry, entry_at, move_of, Start, goal_zone, step_zone, goal_start, step_start, across, after, starts, Turn, onward, tried, tries, round}
use Rattle.rounds.specs.Stands.{EntryOf}
use Rattle.rounds.proofs.Laws.{laws}
use Rattle.rounds.proofs.Zones.{Arriving, Crossing, goal_exact, step_exact}
use Rattle.rounds.proofs.Loops.{tries_append, tries_none, tries_one, tries_begins}
use Rattle.starts.specs.Starts.{GoalOf, StepOf, GoalTells, StepTells}
use Rattle.starts.proofs.Starting.{item_is}
use Rattle.distances.specs.Rows.{row, rows}
use Rattle.distances.proofs.Covering.{many_rows, row_read}
use Rattle.distances.proofs.Offering.{offer_refused}
use Rattle.distances.specs.Turns.{Ends, Ready, Agrees, StartFits, Turned, OfferSays, TriesSays, RoundSays, GoalSays, CrossSays, AcrossSays, AfterSays}

start_fits : (M : PlanMeaning) (S : ℕ → (ℕ → ℕ) → Type 0) (f p : ℕ) → Names (length M.positions) p → (o : Remains) → Exact M S o → StartFits M f p o
start_fits M S f p n (kept z) e = record { first = n.0; last = n.1; zone = e.0 }
start_fits M S f p n empty e = tt
start_fits M S f p n beyond e = tt

module _ (M : PlanMeaning) (formed : WellFormed M) (n : ℕ) (need : Entry → ℕ) (es : List Entry) (m : ℕ) where
  -- nothing to try
  pub nothing : (f : ℕ) (u : Unit {0}) → TriesSays M n need f [] es m (Ok u) es m
  nothing f u need' a r = record { ends = tries_none need' f (rows es) m; ready = r }

  -- a start that is refused
  pub none_offered : (f p : ℕ) (e : Refusal) → OfferSays M f p (Err e) n need es m (Err e) es m
  none_offered f p e need' a r o t fits = offer_refused M formed n need f p es m need' a r e o t

  -- ---- goals
  pub goal_said : (j : ℕ) (g : Goal) → Item M.goals (j + 1) (Ok g) → (left : Result (Option Zone) Refusal) (r : Result (Unit {0}) Refusal) (fs : List Entry) (k : ℕ) → GoalTells M g left
      → OfferSays M 0 g.position left n need es m r fs k → GoalSays M n need j es m r fs k
  goal_said j g i left r fs k t o h need' a ready =
      let q : j + 1 - 1 ≡ j = omega arith in
      let e : g ≡ goal_at M j = item_is M.goals (j + 1) g no_goal i ∙ ap (λ x. get_or M.goals x no_goal) q in
      let w = formed.goals j h in
      let of : GoalOf M g = subst (GoalOf M) (sym e) (record { position = w.0; area = w.1 }) in
      subst (λ (x : Goal). Turned M n (tries need' 0 (goal_start M x ∷ []) (rows es) m) r fs k) e
      (subst (λ t. Turned M n t r fs k) (sym (tries_one need' 0 (goal_start M g) (rows es) m))
      (o need' a ready (goal_zone M g) (t of) (λ K. subst (λ (x : Goal). StartFits M 0 x.position (goal_zone M x)) (sym e)
      (start_fits M (Arriving M (goal_at M j)) 0 (goal_at M j).position w.0 (goal_zone M (goal_at M j)) (goal_exact M (laws M K formed) j h)))))

  -- ---- outcomes
  module _ (f : ℕ) (e : Entry) (j : ℕ) (o : Outcome) (i : Item M.outcomes (j + 1) (Ok o)) where
    outcome_is : o ≡ outcome_at M j
    outcome_is = let q : j + 1 - 1 ≡ j = omega arith in item_is M.outcomes (j + 1) o no_outcome i ∙ ap (λ x. get_or M.outcomes x no_outcome) q

    outcome_of : j < length M.outcomes → OutcomeOf M.clocks (length M.positions) (length M.moves) o
    outcome_of h = subst (OutcomeOf M.clocks (length M.positions) (length M.moves)) (sym outcome_is) (formed.outcomes j h)

    pub not_crossed : (leb 1 o.chance && eqb o.target e.position) ≡ false → (u : Unit {0}) → CrossSays M n need f e j es m (Ok u) es m
    unfolding across
    not_crossed c u h of need' a ready = subst (λ (x : Outcome). Turned M n (tries need' f (across M (row e) x) (rows es) m) (Ok u) es m) outcome_is
        (subst (λ cs. Turned M n (tries need' f cs (rows es) m) (Ok u) es m) (sym (cond-false (leb 1 o.chance && eqb o.target e.position) (step_start M (row e) o ∷ []) [] c)) (nothing f u need' a ready))

    pub unlikely : o.chance < 1 → (u : Unit {0}) → CrossSays M n need f e j es m (Ok u) es m
    unlikely c = not_crossed (and_left (leb 1 o.chance) (eqb o.target e.position) (lt-leb 1 o.chance c))

    pub elsewhere : (o.target ≡ e.position → ⊥) → (u : Unit {0}) → CrossSays M n need f e j es m (Ok u) es m
    elsewhere c = not_crossed (and_right (leb 1 o.chance) (eqb o.target e.position) (ne_eqb o.target e.position c))

    pub crossed : (1 ≤ o.chance) → o.target ≡ e.position → (mv : Move) → Item M.moves o.cause (Ok mv) → (left : Result (Option Zone) Refusal) (r : Result (Unit {0}) Refusal) (fs : List Entry) (k : ℕ)
        → StepTells M mv o e.zone.codes left → OfferSays M f mv.source left n need es m r fs k → CrossSays M n need f e j es m r fs k
    unfolding across
    crossed likely to mv x left r fs k t s h of need' a ready =
        let q : mv ≡ move_of M o = item_is M.moves o.cause mv no_move x in
        let step : StepOf M mv o = record { cause = q; outcome = outcome_of h } in
        let z = e.zone.codes in
        let source : Names (length M.positions) (move_of M o).source = (formed.moves (o.cause - 1) (let c = (outcome_of h).cause in omega (arith, c.0, c.1))).0 in
        let fits : Lawful M.allows M.normal → StartFits M f mv.source (step_zone M z o)
        = λ K. subst (λ (y : Move). StartFits M f y.source (step_zone M z o)) (sym q)
        (subst (λ (y : Outcome). StartFits M f (move_of M y).source (step_zone M z y)) (sym outcome_is)
        (start_fits M (Crossing M z (outcome_at M j)) f (move_of M (outcome_at M j)).source (subst (λ (y : Outcome). Names (length M.positions) (move_of M y).source) outcome_is source)
        (step_zone M z (outcome_at M j)) (step_exact M (laws M K formed) z of.zone j h))) in
        let one : Turned M n (tried need' f (move_of M o).source (step_zone M z o) (rows es) m) r fs k
        = subst (λ (y : Move). Turned M n (tried need' f y.source (step_zone M z o) (rows es) m) r fs k) q
        (s need' a ready (step_zone M z o) (t step (record { codes = of.zone.codes; of_domain = of.zone.of_domain })) fits) in
        subst (λ (y : Outcome). Turned M n (tries need' f (across M (row e) y) (rows es) m) r fs k) outcome_is
        (subst (λ cs. Turned M n (tries need' f cs (rows es) m) r fs k)
        (sym (cond-true (leb 1 o.chance && eqb o.target e.position) (step_start M (row e) o ∷ []) [] (and_from (leb 1 o.chance) (eqb o.target e.position) (le-leb 1 o.chance likely) (eq-eqb o.target e.position to))))
        (subst (λ y. Turned M n y r fs k) (sym (tries_one need' f (step_start M (row e) o) (rows es) m)) one))

-- ---- loops
-- what is left to try makes the whole
pub record Going (M : PlanMeaning) (n f : ℕ) (need' : Row → ℕ) (whole : Turn) (rest : List Start) (es : List Entry) (m : ℕ) : Type 0 where
  pub left : tries need' f rest (rows es) m ≡ whole
  pub ready : Ready M n es

-- from a store for n₀ clocks with the entries es₀
pub record Loop (M : PlanMeaning) (need : ℕ → Entry → ℕ) (n₀ : ℕ) (es₀ : List Entry) (f : ℕ) (whole : (Row → ℕ) → Turn) (rest : List Start) (n : ℕ) (es : List Entry) (m : ℕ) : Type 0 where
  pub clocks : n ≡ n₀
  pub goes : (need' : Row → ℕ) → Agrees need' (need n₀) → Ready M n₀ es₀ → Going M n₀ f need' (whole need') rest es m

ends_off : (t whole : Turn) (c : List Row → ℕ → Turn) (e : Refusal) (fs : List Row) (k : ℕ) → Ends t (Err e) fs k → onward t c ≡ whole → Ends whole (Err e) fs k
ends_off t whole c refused.Full fs k x q = sym q ∙ ap (λ y. onward y c) x
ends_off t whole c refused.Range fs k x q = sym q ∙ ap (λ y. onward y c) x
ends_off t whole c refused.Line fs k x q = x
ends_off t whole c refused.Order fs k x q = x
ends_off t whole c refused.Number fs k x q = x
ends_off t whole c refused.Name fs k x q = x
ends_off t whole c refused.Chance fs k x q = x
ends_off t whole c refused.Rows fs k x q = x
ends_off t whole c refused.Clocks fs k x q = x
ends_off t whole c refused.State fs k x q = x
ends_off t whole c refused.Phase fs k x q = x
ends_off t whole c refused.Entry fs k x q = x
ends_off t whole c refused.Buffer fs k x q = x

module _ (M : PlanMeaning) (need : ℕ → Entry → ℕ) (n₀ : ℕ) (es₀ : List Entry) (f : ℕ) (whole : (Row → ℕ) → Turn) where
  module _ (rest cs rest' : List Start) (parts : rest ≡ cs ++ rest') (n : ℕ) (es : List Entry) (m : ℕ) (l : Loop M need n₀ es₀ f whole rest n es m) where
    split : (need' : Row → ℕ) → tries need' f rest (rows es) m ≡ onward (tries need' f cs (rows es) m) (tries need' f rest')
    split need' = ap (λ ds. tries need' f ds (rows es) m) parts ∙ tries_append need' f cs rest' (rows es) m

    part : (r : Result (Unit {0}) Refusal) (fs : List Entry) (k : ℕ) → TriesSays M n (need n) f cs es m r fs k → (need' : Row → ℕ) → Agrees need' (need n₀) → Ready M n₀ es₀ → Turned M n₀ (tries need' f cs (rows es) m) r fs k
    part r fs k s need' a r0 = subst (λ x. TriesSays M x (need x) f cs es m r fs k) l.clocks s need' a (l.goes need' a r0).ready

    pub loop_on : (n' : ℕ) → n' ≡ n → (u : Unit {0}) (fs : List Entry) (k : ℕ) → TriesSays M n (need n) f cs es m (Ok u) fs k → Loop M need n₀ es₀ f whole rest' n' fs k
    loop_on n' q u fs k s = record {
      clocks = q ∙ l.clocks;
      goes = λ need' a r0. let t = part (Ok u) fs k s need' a r0 in
          record { left = ap (λ y. onward y (tries need' f rest')) (sym t.ends) ∙ sym (split need') ∙ (l.goes need' a r0).left; ready = t.ready };
    }

    pub loop_off : (e : Refusal) (fs : List Entry) (k : ℕ) → TriesSays M n (need n) f cs es m (Err e) fs k → (need' : Row → ℕ) → Agrees need' (need n₀) → Ready M n₀ es₀ → Turned M n₀ (whole need') (Err e) fs k
    loop_off e fs k s need' a r0 =
        let t = part (Err e) fs k s need' a r0 in
        record { ends = ends_off (tries need' f cs (rows es) m) (whole need') (tries need' f rest') e (rows fs) k t.ends (sym (split need') ∙ (l.goes need' a r0).left); ready = t.ready }

  pub loop_end : (rest : List Start) → rest ≡ [] → (n : ℕ) (es : List Entry) (m : ℕ) → Loop M need n₀ es₀ f whole rest n es m → (u : Unit {0}) → (need' : Row → ℕ) → Agrees need' (need n₀) → Ready M n₀ es₀ → Turned M n₀ (whole need') (Ok u) es m
  loop_end rest q n es m l u need' a r0 =
      let w = l.goes need' a r0 in
      record { ends = sym w.left ∙ ap (λ cs. tries need' f cs (rows es) m) q ∙ tries_none need' f (rows es) m; ready = w.ready }

-- the goals from i on
abbrev pub goals_left : PlanMeaning → ℕ → List Start
goals_left M i = map (goal_start M) (drop i M.goals)

pub goals_more : (M : PlanMeaning) (i : ℕ) → i < length M.goals → goals_left M i ≡ (goal_start M (goal_at M i) ∷ []) ++ goals_left M (i + 1)
goals_more M i h = at_drop_more (map (goal_start M)) M.goals i no_goal h

pub goals_all : (M : PlanMeaning) (i : ℕ) → length M.goals ≤ i → goals_left M i ≡ []
goals_all M i h = at_drop_all (map (goal_start M)) M.goals i h

abbrev pub FirstLoop : PlanMeaning → (ℕ → Entry → ℕ) → ℕ → List Entry → ℕ → ℕ → ℕ → List Entry → ℕ → Type 0
FirstLoop M need n₀ es₀ m₀ i n es m = Loop M need n₀ es₀ 0 (λ need'. round M need' 0 (rows es₀) m₀) (goals_left M i) n es m

pub first_begins : (M : PlanMeaning) (need : ℕ → Entry → ℕ) (n : ℕ) (es : List Entry) (m : ℕ) → FirstLoop M need n es m 0 n es m
unfolding round starts
first_begins M need n es m = record { clocks = refl; goes = λ need' a r. record { left = refl; ready = r } }

-- the outcomes from i on
abbrev pub outcomes_left : PlanMeaning → Row → ℕ → List Start
outcomes_left M e i = flat_map (across M e) (drop i M.outcomes)

pub outcomes_more : (M : PlanMeaning) (e : Row) (i : ℕ) → i < length M.outcomes → outcomes_left M e i ≡ across M e (outcome_at M i) ++ outcomes_left M e (i + 1)
outcomes_more M e i h = at_drop_more (flat_map (across M e)) M.outcomes i no_outcome h

pub outcomes_all : (M : PlanMeaning) (e : Row) (i : ℕ) → length M.outcomes ≤ i → outcomes_left M e i ≡ []
outcomes_all M e i h = at_drop_all (flat_map (across M e)) M.outcomes i h

module _ (M : PlanMeaning) (need : ℕ → Entry → ℕ) (n₀ : ℕ) (es₀ : List Entry) (m₀ i : ℕ) where
  pub first_on : i < length M.goals → (n : ℕ) (es : List Entry) (m : ℕ) → FirstLoop M need n₀ es₀ m₀ i n es m → (n' : ℕ) → n' ≡ n → (u : Unit {0}) (fs : List Entry) (k : ℕ) → GoalSays M n (need n) i es m (Ok u) fs k → FirstLoop M need n₀ es₀ m₀ (i + 1) n' fs k
  first_on h n es m l n' q u fs k s = loop_on M need n₀ es₀ 0 (λ need'. round M need' 0 (rows es₀) m₀) (goals_left M i) (goal_start M (goal_at M i) ∷ []) (goals_left M (i + 1)) (goals_more M i h) n es m l n' q u fs k (s h)

  pub first_off : i < length M.goals → (n : ℕ) (es : List Entry) (m : ℕ) → FirstLoop M need n₀ es₀ m₀ i n es m → (e : Refusal) (fs : List Entry) (k : ℕ) → GoalSays M n (need n) i es m (Err e) fs k → RoundSays M n₀ (need n₀) 0 es₀ m₀ (Err e) fs k
  first_off h n es m l e fs k s = loop_off M need n₀ es₀ 0 (λ need'. round M need' 0 (rows es₀) m₀) (goals_left M i) (goal_start M (goal_at M i) ∷ []) (goals_left M (i + 1)) (goals_more M i h) n es m l e fs k (s h)

  pub first_end : length M.goals ≤ i → (n : ℕ) (es : List Entry) (m : ℕ) → FirstLoop M need n₀ es₀ m₀ i n es m → (u : Unit {0}) → RoundSays M n₀ (need n₀) 0 es₀ m₀ (Ok u) es m
  first_end h n es m l u = loop_end M need n₀ es₀ 0 (λ need'. round M need' 0 (rows es₀) m₀) (goals_left M i) (goals_all M i h) n es m l u

-- ---- a later round
starts_next : (M : PlanMeaning) (rs : List Row) (f g : ℕ) → f ≡ suc g → flat_map (after M g) rs ≡ starts M f rs
unfolding starts
starts_next M rs f g q = sym (ap (λ x. starts M x rs) q)

round_next : (M : PlanMeaning) (need' : Row → ℕ) (f g : ℕ) (rs : List Row) (m : ℕ) → f ≡ g + 1 → tries need' f (flat_map (after M g) rs) rs m ≡ round M need' f rs m
unfolding round
round_next M need' f g rs m q = ap (λ cs. tries need' f cs rs m) (starts_next M rs f g (omega arith))

-- ---- the outcomes of one entry
pub record AcrossLoop (M : PlanMeaning) (need : ℕ → Entry → ℕ) (n₀ : ℕ) (es₀ : List Entry) (m₀ f : ℕ) (e : Entry) (i n : ℕ) (es : List Entry) (m : ℕ) : Type 0 where
  pub clocks : n ≡ n₀
  pub loop : EntryOf M (row e) → Loop M need n₀ es₀ f (λ need'. tries need' f (outcomes_left M (row e) 0) (rows es₀) m₀) (outcomes_left M (row e) i) n es m

pub across_begins : (M : PlanMeaning) (need : ℕ → Entry → ℕ) (n : ℕ) (es : List Entry) (m f : ℕ) (e : Entry) → AcrossLoop M need n es m f e 0 n es m
across_begins M need n es m f e = record { clocks = refl; loop = λ of. record { clocks = refl; goes = λ need' a r. record { left = refl; ready = r } } }

module _ (M : PlanMeaning) (need : ℕ → Entry → ℕ) (n₀ : ℕ) (es₀ : List Entry) (m₀ f : ℕ) (e : Entry) (i n : ℕ) (es : List Entry) (m : ℕ) (l : AcrossLoop M need n₀ es₀ m₀ f e i n es m) where
  pub across_on : i < length M.outcomes → (n' : ℕ) → n' ≡ n → (u : Unit {0}) (fs : List Entry) (k : ℕ) → CrossSays M n (need n) f e i es m (Ok u) fs k → AcrossLoop M need n₀ es₀ m₀ f e (i + 1) n' fs k
  across_on h n' q u fs k s = record {
    clocks = q ∙ l.clocks;
    loop = λ of. loop_on M need n₀ es₀ f (λ need'. tries need' f (outcomes_left M (row e) 0) (rows es₀) m₀) (outcomes_left M (row e) i) (across M (row e) (outcome_at M i)) (outcomes_left M (row e) (i + 1)) (outcomes_more M (row e) i h) n es m (l.loop of) n' q u fs k (s h of);
  }

  pub across_off : i < length M.outcomes → (w : Refusal) (fs : List Entry) (k : ℕ) → CrossSays M n (need n) f e i es m (Err w) fs k → AcrossSays M f e n₀ (need n₀) es₀ m₀ (Err w) fs k
  across_off h w fs k s of = loop_off M need n₀ es₀ f (λ need'. tries need' f (outcomes_left M (row e) 0) (rows es₀) m₀) (outcomes_left M (row e) i) (across M (row e) (outcome_at M i)) (outcomes_left M (row e) (i + 1)) (outcomes_more M (row e) i h) n es m (l.loop of) w fs k (s h of)

  pub across_end : length M.outcomes ≤ i → (u : Unit {0}) → AcrossSays M f e n₀ (need n₀) es₀ m₀ (Ok u) es m
  across_end h u of = loop_end M need n₀ es₀ f (λ need'. tries need' f (outcomes_left M (row e) 0) (rows es₀) m₀) (outcomes_left M (row e) i) (outcomes_all M (row e) i h) n es m (l.loop of) u

-- ---- one entry
module _ (M : PlanMeaning) (n : ℕ) (need : Entry → ℕ) (es : List Entry) (m f g j : ℕ) (e : Entry) (i : Item es (j + 1) (Ok e)) where
  pub other_round : (e.round ≡ g → ⊥) → (u : Unit {0}) → AfterSays M n need f g j es m (Ok u) es m
  unfolding after
  other_round d u h need' a r = record {
    ends = ap (λ x. tries need' f (after M g x) (rows es) m) (row_read es j e h i)
        ∙ ap (λ cs. tries need' f cs (rows es) m) (cond-false (eqb e.round g) (flat_map (across M (row e)) M.outcomes) [] (ne_eqb e.round g d)) ∙ tries_none need' f (rows es) m;
    ready = r;
  }

  pub this_round : e.round ≡ g → (r : Result (Unit {0}) Refusal) (fs : List Entry) (k : ℕ) → AcrossSays M f e n need es m r fs k → AfterSays M n need f g j es m r fs k
  unfolding after
  this_round q r fs k s h need' a ready =
      subst (λ x. Turned M n (tries need' f (after M g x) (rows es) m) r fs k) (sym (row_read es j e h i))
      (subst (λ cs. Turned M n (tries need' f cs (rows es) m) r fs k) (sym (cond-true (eqb e.round g) (flat_map (across M (row e)) M.outcomes) [] (eq-eqb e.round g q)))
      (s (subst (EntryOf M) (row_read es j e h i) (ready.fits j h)) need' a ready))

-- ---- the entries of the last round
abbrev pub entries_left : PlanMeaning → ℕ → List Entry → ℕ → List Start
entries_left M g es₀ i = flat_map (after M g) (drop i (rows es₀))

-- the entries before are still there
abbrev pub Begins : List Entry → List Entry → Type 0
Begins es₀ es = (k : ℕ) → k < length (rows es₀) → (k < length (rows es)) × (entry_at (rows es) k ≡ entry_at (rows es₀) k)

pub record NextLoop (M : PlanMeaning) (need : ℕ → Entry → ℕ) (n₀ : ℕ) (es₀ : List Entry) (m₀ f g i n : ℕ) (es : List Entry) (m : ℕ) : Type 0 where
  pub clocks : n ≡ n₀
  pub goes : (need' : Row → ℕ) → Agrees need' (need n₀) → Ready M n₀ es₀ → Going M n₀ f need' (tries need' f (entries_left M g es₀ 0) (rows es₀) m₀) (entries_left M g es₀ i) es m × Begins es₀ es

pub next_begins : (M : PlanMeaning) (need : ℕ → Entry → ℕ) (n : ℕ) (es : List Entry) (m f g : ℕ) → NextLoop M need n es m f g 0 n es m
next_begins M need n es m f g = record { clocks = refl; goes = λ need' a r. (record { left = refl; ready = r }, λ k h. (h, refl)) }

module _ (M : PlanMeaning) (need : ℕ → Entry → ℕ) (n₀ : ℕ) (es₀ : List Entry) (m₀ f g i n : ℕ) (es : List Entry) (m : ℕ) (l : NextLoop M need n₀ es₀ m₀ f g i n es m) where
  entries_more : i < length es₀ → entries_left M g es₀ i ≡ after M g (entry_at (rows es₀) i) ++ entries_left M g es₀ (i + 1)
  entries_more h = at_drop_more (flat_map (after M g)) (rows es₀) i no_entry (omega (arith, many_rows es₀))

  module _ (h : i < length es₀) (need' : Row → ℕ) (a : Agrees need' (need n₀)) (r0 : Ready M n₀ es₀) where
    old : (i < length es) × (entry_at (rows es) i ≡ entry_at (rows es₀) i)
    old = let b = (l.goes need' a r0).1 i (omega (arith, many_rows es₀)) in (omega (arith, b.0, many_rows es), b.1)

    part_of : (r : Result (Unit {0}) Refusal) (fs : List Entry) (k : ℕ) → AfterSays M n (need n) f g i es m r fs k → Turned M n₀ (tries need' f (after M g (entry_at (rows es₀) i)) (rows es) m) r fs k
    part_of r fs k s = subst (λ x. Turned M n₀ (tries need' f (after M g x) (rows es) m) r fs k) old.1
        (subst (λ x. AfterSays M x (need x) f g i es m r fs k) l.clocks s old.0 need' a (l.goes need' a r0).0.ready)

    cut : tries need' f (entries_left M g es₀ i) (rows es) m ≡ onward (tries need' f (after M g (entry_at (rows es₀) i)) (rows es) m) (tries need' f (entries_left M g es₀ (i + 1)))
    cut = ap (λ ds. tries need' f ds (rows es) m) (entries_more h) ∙ tries_append need' f (after M g (entry_at (rows es₀) i)) (entries_left M g es₀ (i + 1)) (rows es) m

  -- the entry is there to be read
  pub next_there : i < length es₀ → (e : Refusal) → Item es (i + 1) (Err e) → RoundSays M n₀ (need n₀) f es₀ m₀ (Err e) es m
  next_there h e x need' a r0 = absurd (let o = (old h need' a r0).0 in let y = x.1 (omega arith) in omega arith)

  pub next_on : i < length es₀ → (n' : ℕ) → n' ≡ n → (u : Unit {0}) (fs : List Entry) (k : ℕ) → AfterSays M n (need n) f g i es m (Ok u) fs k → NextLoop M need n₀ es₀ m₀ f g (i + 1) n' fs k
  next_on h n' q u fs k s = record {
    clocks = q ∙ l.clocks;
    goes = λ need' a r0.
        let t = part_of h need' a r0 (Ok u) fs k s in
        let w = l.goes need' a r0 in (
          record { left = ap (λ y. onward y (tries need' f (entries_left M g es₀ (i + 1)))) (sym t.ends) ∙ sym (cut h need' a r0) ∙ w.0.left; ready = t.ready },
          λ j b. let x = tries_begins need' f (after M g (entry_at (rows es₀) i)) (rows es) m (rows fs) k (sym t.ends) j (w.1 j b).0 in (x.0, x.1 ∙ (w.1 j b).1),
        );
  }

  pub next_off : i < length es₀ → (e : Refusal) (fs : List Entry) (k : ℕ) → AfterSays M n (need n) f g i es m (Err e) fs k → f ≡ g + 1 → RoundSays M n₀ (need n₀) f es₀ m₀ (Err e) fs k
  next_off h e fs k s q need' a r0 =
      let t = part_of h need' a r0 (Err e) fs k s in
      record {
        ends = ends_off (tries need' f (after M g (entry_at (rows es₀) i)) (rows es) m) (round M need' f (rows es₀) m₀) (tries need' f (entries_left M g es₀ (i + 1))) e (rows fs) k t.ends
            (sym (cut h need' a r0) ∙ (l.goes need' a r0).0.left ∙ round_next M need' f g (rows es₀) m₀ q);
        ready = t.ready;
      }

  pub next_end : length es₀ ≤ i → (u : Unit {0}) → f ≡ g + 1 → RoundSays M n₀ (need n₀) f es₀ m₀ (Ok u) es m
  next_end h u q need' a r0 =
      let w = l.goes need' a r0 in
      record {
        ends = sym (round_next M need' f g (rows es₀) m₀ q) ∙ sym w.0.left
            ∙ ap (λ cs. tries need' f cs (rows es) m) (at_drop_all (flat_map (after M g)) (rows es₀) i (omega (arith, many_rows es₀))) ∙ tries_none need' f (rows es) m;
        ready = w.0.ready;
      }
