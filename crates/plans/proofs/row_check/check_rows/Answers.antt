use Rattle.std.proofs.Common.{rules}
use Rattle.plans.proofs.row_check.check_rows.Goals as goal

pub returns-in_err-check_positions : goal.returns-in_err-check_positions
returns-in_err-check_positions c = search rules depth 12

pub returns-in_err-check_moves : goal.returns-in_err-check_moves
returns-in_err-check_moves c = search rules depth 12

pub returns-in_err-check_goals : goal.returns-in_err-check_goals
returns-in_err-check_goals c = search rules depth 12
