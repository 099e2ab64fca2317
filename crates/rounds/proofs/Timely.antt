-- Answers under a deadline, read below
use Rattle.std.proofs.Common.{◌≡◌, ℕ, zero, suc, ◌<◌, List, length, sym, refl, subst}
use mathlib.Core.Path.{fun_ext}
use Rattle.bounds.specs.Domains.{Lawful}
use Rattle.zones.specs.States.{value_of}
use Rattle.plans.specs.Meaning.{PlanMeaning, WellFormed}
use Rattle.plans.specs.Routes.{Route, TimelyRoute}
use Rattle.layers.specs.Deadlines.{under}
use Rattle.layers.specs.LayersSound.{under_sound}
use Rattle.layers.specs.Theorems.{reading, Timely}
use Rattle.layers.proofs.Timed.{deadline_states, under_is}
use Rattle.rounds.specs.declared.replies.Phase.{Phase}
use Rattle.rounds.specs.declared.replies.Answer.{Answer}
use Rattle.rounds.specs.declared.replies.Answer.TheVariants.{Distance as told-distance, NoRoute, Untold}
use Rattle.rounds.specs.Rounds.{Entry}
use Rattle.rounds.specs.Searches.{Says}
use Rattle.rounds.specs.Histories.{Told}
use Rattle.rounds.specs.Deadlines.{lifted, SaysTimely, ToldTimely, DeadlinesStand}
use Rattle.rounds.proofs.Standing.{search_stands}

same_reading : (rs : List ℕ) → reading rs ≡ value_of rs
unfolding value_of
same_reading rs = fun_ext each
  where
    each : (i : ℕ) → reading rs i ≡ value_of rs i
    each zero = refl
    each (suc i) = refl

module _ (M : PlanMeaning) (T : ℕ) (formed : WellFormed M) (few : M.clocks < 8) (D p : ℕ) (rs : List ℕ) (count : length rs ≡ M.clocks) where
  timely : (k : ℕ) → Timely T M (under T M) D p (value_of rs) (value_of (lifted rs)) k
  timely k = subst (λ v. Timely T M (under T M) D p v (value_of (lifted rs)) k) (same_reading rs)
      (subst (λ u. Timely T M (under T M) D p (reading rs) u k) (same_reading (lifted rs)) (deadline_states T M formed few D p rs k count))

  up : (k : ℕ) → TimelyRoute T M D p (value_of rs) k → Route (under T M) D p (value_of (lifted rs)) k
  up k r = ((timely k).routes.1 r).0

  says_below : (ph : Phase) (f : ℕ) (a : Answer) → Says (under T M) ph f D p (value_of (lifted rs)) a → SaysTimely M T ph f D p (value_of rs) a
  says_below ph f (told-distance d) s = (timely d).distance.0 s
  says_below ph f NoRoute s = (s.0, λ n r. s.1 n (up n r))
  says_below ph f (Untold g) s = (s.0, s.1, λ n r. s.2 n (up n r))

  told_below : (need : Entry → ℕ) (room f : ℕ) (a : Answer) → Told (under T M) need room f D p (value_of (lifted rs)) a → ToldTimely M T need room f D p (value_of rs) a
  told_below need room f (told-distance d) s = (timely d).distance.0 s
  told_below need room f NoRoute s = (s.0, λ n r. s.1 n (up n r))
  told_below need room f (Untold g) s = (s.0, s.1, λ n r. s.2 n (up n r))

lawful_under : (M : PlanMeaning) (T : ℕ) → M.clocks < 8 → Lawful M.allows M.normal → Lawful (under T M).allows (under T M).normal
lawful_under M T few K = subst (λ (m : PlanMeaning). Lawful m.allows m.normal) (sym (under_is T M few)) K

pub deadlines_stand : DeadlinesStand
deadlines_stand M T need K formed small few = record {
  theory = search_stands (under T M) need (lawful_under M T few K) (under_sound T M small formed);
  says_timely = λ ph f D p rs a count. says_below M T formed few D p rs count ph f a;
  told_timely = λ room f D p rs a count. told_below M T formed few D p rs count need room f a;
}
