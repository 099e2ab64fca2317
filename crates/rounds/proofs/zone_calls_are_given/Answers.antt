use Rattle.rounds.proofs.Given.{zone_calls_given}
use Rattle.rounds.proofs.zone_calls_are_given.Goals as goal

pub returns : goal.returns
returns c = zone_calls_given
