use Rattle.rounds.proofs.Causes.{rounds_caused}
use Rattle.rounds.proofs.rounds_are_caused.Goals as goal

pub returns : goal.returns
returns c = rounds_caused
