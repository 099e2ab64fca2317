-- What the answers of a Search under a deadline say of the plan below, whatever that plan is.
use Rattle.std.specs.Prelude.{◌≡◌, ℕ, ◌<◌, ◌≤◌, List, [], ◌∷◌, ◌++◌, length, ◌≢◌}
use Rattle.bounds.specs.Domains.{Lawful}
use Rattle.zones.specs.States.{value_of}
use Rattle.plans.specs.Meaning.{PlanMeaning, WellFormed}
use Rattle.plans.specs.Routes.{TimelyRoute, TimelyDistance}
use Rattle.layers.specs.Deadlines.{under}
use Rattle.rounds.specs.declared.replies.Phase.{Phase}
use Rattle.rounds.specs.declared.replies.Phase.TheVariants.{Closed}
use Rattle.rounds.specs.declared.replies.Answer.{Answer}
use Rattle.rounds.specs.declared.replies.Answer.TheVariants.{Distance as told-distance, NoRoute, Untold}
use Rattle.rounds.specs.Rounds.{Entry}
use Rattle.rounds.specs.Searches.{Says}
use Rattle.rounds.specs.Histories.{ClosedAfter, Told}
use Rattle.rounds.specs.Theorems.{Theory}

-- a state below as one above it: the added clock reads 0, after the state's own
abbrev pub lifted : List ℕ → List ℕ
lifted rs = rs ++ (0 ∷ [])

-- what an answer says of the routes below that last at most T ticks, after f answered widens
abbrev pub SaysTimely : PlanMeaning → ℕ → Phase → ℕ → ℕ → ℕ → (ℕ → ℕ) → Answer → Type 0
SaysTimely M T ph f D p v (told-distance d) = TimelyDistance T M D p v d
SaysTimely M T ph f D p v NoRoute = (ph ≡ Closed) × ((n : ℕ) → TimelyRoute T M D p v n → ⊥)
SaysTimely M T ph f D p v (Untold g) = (ph ≢ Closed) × (g ≡ f) × ((n : ℕ) → TimelyRoute T M D p v n → f ≤ n)

-- the same in words of the rounds of the Search above
abbrev pub ToldTimely : PlanMeaning → ℕ → (Entry → ℕ) → ℕ → ℕ → ℕ → ℕ → (ℕ → ℕ) → Answer → Type 0
ToldTimely M T need room f D p v (told-distance d) = TimelyDistance T M D p v d
ToldTimely M T need room f D p v NoRoute = ClosedAfter (under T M) need room f × ((n : ℕ) → TimelyRoute T M D p v n → ⊥)
ToldTimely M T need room f D p v (Untold g) = (ClosedAfter (under T M) need room f → ⊥) × (g ≡ f) × ((n : ℕ) → TimelyRoute T M D p v n → f ≤ n)

-- for a plan of fewer than eight clocks, and a state of it
pub record TimelyTheory (M : PlanMeaning) (T : ℕ) (need : Entry → ℕ) : Type 0 where
  pub theory : Theory (under T M) need
  pub says_timely : (ph : Phase) (f D p : ℕ) (rs : List ℕ) (a : Answer) → length rs ≡ M.clocks → Says (under T M) ph f D p (value_of (lifted rs)) a → SaysTimely M T ph f D p (value_of rs) a
  pub told_timely : (room f D p : ℕ) (rs : List ℕ) (a : Answer) → length rs ≡ M.clocks → Told (under T M) need room f D p (value_of (lifted rs)) a → ToldTimely M T need room f D p (value_of rs) a

abbrev pub DeadlinesStand : Type 0
DeadlinesStand = (M : PlanMeaning) (T : ℕ) (need : Entry → ℕ) → Lawful M.allows M.normal → WellFormed M → T ≤ 1000000 → M.clocks < 8 → TimelyTheory M T need
