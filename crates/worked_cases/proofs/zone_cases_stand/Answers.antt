use Rattle.worked_cases.proofs.Cases.{zone_cases}
use Rattle.worked_cases.proofs.zone_cases_stand.Goals as goal

pub returns : goal.returns
returns c = zone_cases
