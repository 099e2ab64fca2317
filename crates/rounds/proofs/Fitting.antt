-- What a round tries is an entry for every store of the plan's clocks
use Rattle.std.proofs.Common.{ℕ, zero, suc, ◌<◌, ◌&&◌, eqb, leb, List, [], ◌∷◌, length, subst, arith}
use Rattle.std.specs.List.{flat_map}
use Rattle.std.proofs.lemmas.Bool.{cond_both}
use Rattle.plans.specs.Items.{Names}
use Rattle.plans.specs.Meaning.{PlanMeaning, outcome_at, goal_at, no_outcome, no_goal}
use Rattle.rounds.specs.Codes.{Remains}
use Rattle.rounds.specs.Codes.Remains.{kept, empty, beyond}
use Rattle.rounds.specs.Held.{Fits, Exact}
use Rattle.rounds.specs.Rounds.{Entry, no_entry, entry_at, move_of, Start, goal_zone, step_zone, goal_start, step_start, across, after, starts}
use Rattle.rounds.specs.Stands.{EntryOf}
use Rattle.rounds.specs.Causes.{start_at}
use Rattle.rounds.specs.Theorems.{StartsFit}
use Rattle.rounds.proofs.Laws.{Laws}
use Rattle.rounds.proofs.Zones.{Arriving, Crossing, goal_exact, step_exact}
use Rattle.rounds.proofs.Each.{Each, mapped_each, joined_each}

-- a start that is kept is an entry
abbrev FitStart : PlanMeaning → ℕ → ℕ → Remains → Type 0
FitStart M f p (kept z) = EntryOf M (record { position = p; round = f; zone = z })
FitStart M f p empty = Unit {0}
FitStart M f p beyond = Unit {0}

module _ (M : PlanMeaning) (L : Laws M) (f : ℕ) where
  exact_fit : (S : ℕ → (ℕ → ℕ) → Type 0) (p : ℕ) → Names (length M.positions) p → (o : Remains) → Exact M S o → FitStart M f p o
  exact_fit S p n (kept z) e = record { first = n.0; last = n.1; zone = e.0 }
  exact_fit S p n empty e = tt
  exact_fit S p n beyond e = tt

  Fit : Start → Type 0
  Fit c = FitStart M f c.position c.zone

  across_fit : (e : Entry) → Fits M e.zone → (j : ℕ) → j < length M.outcomes → Each Fit (across M e (outcome_at M j))
  unfolding across Fit
  across_fit e fits j h =
      let o = outcome_at M j in
      cond_both (leb 1 o.chance && eqb o.target e.position) (step_start M e o ∷ []) [] (Each Fit)
      (λ _. (exact_fit (Crossing M e.zone o) (move_of M o).source (L.sources_named j h) (step_zone M e.zone o) (step_exact M L e.zone fits j h), tt))
      (λ _. tt)

  after_fit : (r : ℕ) (e : Entry) → Fits M e.zone → Each Fit (after M r e)
  unfolding after
  after_fit r e fits = cond_both (eqb e.round r) (flat_map (across M e) M.outcomes) [] (Each Fit)
      (λ _. joined_each Fit (across M e) no_outcome M.outcomes (λ j h. across_fit e fits j h))
      (λ _. tt)

  all_fit : (g : ℕ) (es : List Entry) → ((k : ℕ) → k < length es → EntryOf M (entry_at es k)) → Each Fit (starts M g es)
  unfolding starts Fit
  all_fit zero es h = mapped_each Fit (goal_start M) no_goal M.goals
      (λ j l. exact_fit (Arriving M (goal_at M j)) (goal_at M j).position (L.goals_named j l) (goal_zone M (goal_at M j)) (goal_exact M L j l))
  all_fit (suc r) es h = joined_each Fit (after M r) no_entry es (λ k l. after_fit r (entry_at es k) (h k l).zone)

  each_at : (cs : List Start) → Each Fit cs → (k : ℕ) → k < length cs → FitStart M f (start_at cs k).position (start_at cs k).zone
  unfolding Fit
  each_at [] e k h = absurd (omega arith)
  each_at (c ∷ cs) e zero h = e.0
  each_at (c ∷ cs) e (suc k) h = each_at cs e.1 k (omega arith)

pub starts_fit : (M : PlanMeaning) → Laws M → (need : Entry → ℕ) → StartsFit M need
starts_fit M L need es h f k z l e = subst (FitStart M f (start_at (starts M f es) k).position) e (each_at M L f (starts M f es) (all_fit M L f f es h) k l)
