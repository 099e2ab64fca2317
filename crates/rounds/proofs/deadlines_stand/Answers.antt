use Rattle.rounds.proofs.Timely.{deadlines_stand}
use Rattle.rounds.proofs.deadlines_stand.Goals as goal

pub returns : goal.returns
returns c = deadlines_stand
