-- What is printed for what the row check refuses.
use Rattle.std.specs.Prelude.{ℕ, List, [], ◌++◌, Option, Some, None, codes, decimal}
use Rattle.bounds.specs.Refusals.{told}
use Rattle.plans.specs.declared.faults.PlanList.{PlanList}
use Rattle.plans.specs.declared.faults.PlanList.TheVariants as list
use Rattle.plans.specs.declared.faults.RowFault.{RowFault}

abbrev pub list_name : PlanList → List ℕ
list_name list.Clocks = codes "clocks"
list_name list.Positions = codes "positions"
list_name list.Moves = codes "moves"
list_name list.Outcomes = codes "outcomes"
list_name list.Goals = codes "goals"

-- the row, where one row is at fault
abbrev pub row_told : Option ℕ → List ℕ
row_told (Some k) = codes ", row " ++ decimal k
row_told None = []

abbrev pub fault_told : RowFault → List ℕ
fault_told f = told f.refusal ++ codes ": " ++ list_name f.list ++ row_told f.row
