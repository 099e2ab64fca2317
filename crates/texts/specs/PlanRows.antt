-- The four lists of a plan, without the references.
use Rattle.std.specs.Prelude.{◌≡◌, ℕ, Bool, cond, ◌&&◌, List, length, nat_lt}
use Rattle.plans.specs.declared.rows.Position.{Position}
use Rattle.plans.specs.declared.rows.Move.{Move}
use Rattle.plans.specs.declared.rows.Outcome.{Outcome}
use Rattle.plans.specs.declared.rows.Goal.{Goal}
use Rattle.plans.specs.RowLists.{Kept, kept, put, changed, emptied, move_row, raised}
use Rattle.texts.specs.declared.plan_rows.PlanRows.{PlanRows}

pub record Tables : Type 0 where
  pub positions : Kept Position
  pub moves : Kept Move
  pub outcomes : Kept Outcome
  pub goals : Kept Goal

abbrev pub tables : PlanRows → Tables
tables r = record { positions = kept r.positions; moves = kept r.moves; outcomes = kept r.outcomes; goals = kept r.goals }

-- lists over these rows that have taken none
abbrev pub untaken : List Position → List Move → List Outcome → List Goal → Tables
untaken ps vs os gs = record { positions = record { rows = ps; used = 0 }; moves = record { rows = vs; used = 0 }; outcomes = record { rows = os; used = 0 }; goals = record { rows = gs; used = 0 } }

-- no row taken of any list
abbrev pub none_taken : Tables → Tables
none_taken t = record { positions = emptied t.positions; moves = emptied t.moves; outcomes = emptied t.outcomes; goals = emptied t.goals }

-- the list has fewer rows than `limit`, and another is supplied
abbrev pub has_room : {R : Type 0} → ℕ → Kept R → Bool
has_room limit k = nat_lt k.used limit && nat_lt k.used (length k.rows)

abbrev pub put_within : {R : Type 0} → ℕ → Kept R → R → Kept R
put_within limit k row = cond (has_room limit k) (put k row) k

-- the sum in the last move's row
abbrev pub open_sum : Kept Move → ℕ
open_sum l = (move_row l l.used).sum

-- a chance added to it
abbrev pub raised_open : ℕ → Kept Move → Kept Move
raised_open c l = changed l l.used (raised (move_row l l.used) c)

-- the slices behind the lists are the same slices
pub record SameSlices (r r' : PlanRows) : Type 0 where
  pub positions : r.positions.rows.ghost_name ≡ r'.positions.rows.ghost_name
  pub moves : r.moves.rows.ghost_name ≡ r'.moves.rows.ghost_name
  pub outcomes : r.outcomes.rows.ghost_name ≡ r'.outcomes.rows.ghost_name
  pub goals : r.goals.rows.ghost_name ≡ r'.goals.rows.ghost_name
