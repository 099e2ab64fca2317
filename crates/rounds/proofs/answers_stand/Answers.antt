use Rattle.rounds.proofs.Standing.{search_stands}
use Rattle.rounds.proofs.answers_stand.Goals as goal

pub returns : goal.returns
returns c = search_stands
