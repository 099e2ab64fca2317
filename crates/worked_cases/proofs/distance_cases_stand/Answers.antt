use Rattle.worked_cases.proofs.Distances.{distance_cases}
use Rattle.worked_cases.proofs.distance_cases_stand.Goals as goal

pub returns : goal.returns
returns c = distance_cases
