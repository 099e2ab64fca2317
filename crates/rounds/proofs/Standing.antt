-- The theorems of the search, together
use Rattle.std.proofs.Common.{ℕ}
use Rattle.plans.specs.Meaning.{PlanMeaning}
use Rattle.rounds.specs.Rounds.{Entry}
use Rattle.rounds.specs.Theorems.{Theory, SearchStands}
use Rattle.rounds.proofs.Laws.{Laws, laws}
use Rattle.rounds.proofs.Fitting.{starts_fit}
use Rattle.rounds.proofs.Kept.{round_kept}
use Rattle.rounds.proofs.Told.{answers_say, held_exactly}
use Rattle.rounds.proofs.Runs.{runs_lawful}
use Rattle.rounds.proofs.Histories.{histories_due}

stand : (M : PlanMeaning) (need : Entry → ℕ) → Laws M → Theory M need
stand M need L = record {
  starts_fit = starts_fit M L need;
  round_kept = round_kept M L need;
  held_exactly = held_exactly M need;
  answers_say = answers_say M need;
  runs_lawful = runs_lawful M need (round_kept M L need) (answers_say M need);
  histories_due = histories_due M need (round_kept M L need) (answers_say M need);
}

pub search_stands : SearchStands
search_stands M need K formed = stand M need (laws M K formed)
