-- What a row list does with its rows, without the references.
use Rattle.std.specs.Prelude.{◌≡◌, ℕ, ◌+◌, ◌-◌, ◌^◌, ◌<◌, ◌≤◌, ◌⊎◌, List, [], length, take, Ok, Err, Result, slice_index_or, slice_set}
use Rattle.bounds.specs.declared.refusal.Refusal.{Refusal}
use Rattle.bounds.specs.declared.refusal.Refusal.TheVariants as refused
use Rattle.plans.specs.declared.rows.Move.{Move}
use Rattle.plans.specs.declared.row_list.RowList.{RowList}

-- the rows supplied, of which the first `used` are taken
pub record Kept (R : Type 0) : Type 0 where
  pub rows : List R
  pub used : ℕ

-- a row list, without the reference
abbrev pub kept : {R : Type 0} → RowList R → Kept R
kept l = record { rows = l.rows.now; used = l.used }

-- the rows taken
abbrev pub taken : {R : Type 0} → Kept R → List R
taken l = take l.used l.rows

-- one row more
abbrev pub put : {R : Type 0} → Kept R → R → Kept R
put l row = record { rows = slice_set l.rows l.used row; used = l.used + 1 }

-- another row in place of row k, from 1
abbrev pub changed : {R : Type 0} → Kept R → ℕ → R → Kept R
changed l k row = record { rows = slice_set l.rows (k - 1) row; used = l.used }

-- none taken, and every row as it was
abbrev pub emptied : {R : Type 0} → Kept R → Kept R
emptied l = record { rows = l.rows; used = 0 }

-- by answer: what the list was before, and is after
abbrev pub PushSays : {R : Type 0} → R → Kept R → Kept R → Result ℕ Refusal → Type 0
PushSays row before after (Ok k) = (before.used < length before.rows) × (k ≡ before.used + 1) × (after ≡ put before row)
PushSays row before after (Err e) = (length before.rows ≤ before.used) × (e ≡ refused.Rows) × (after ≡ before)

abbrev pub SetSays : {R : Type 0} → ℕ → R → Kept R → Kept R → Result (Unit {0}) Refusal → Type 0
SetSays k row before after (Ok u) = (1 ≤ k) × (k ≤ length (taken before)) × (after ≡ changed before k row)
SetSays k row before after (Err e) = (e ≡ refused.Entry) × (1 ≤ k → length (taken before) < k) × (after ≡ before)

abbrev pub no_move : Move
no_move = record { source = 0; guard = record { sides = [] }; sum = 0 }

-- the row of move k, from 1
abbrev pub move_row : Kept Move → ℕ → Move
move_row l k = slice_index_or l.rows (k - 1) no_move

-- the chance added to the sum in the row
abbrev pub raised : Move → ℕ → Move
raised m c = record { source = m.source; guard = m.guard; sum = m.sum + c }

-- the sum of move k as it is then; Entry comes before Number
pub record Added (k c : ℕ) (before after : Kept Move) (s : ℕ) : Type 0 where
  pub some : 1 ≤ k
  pub there : k ≤ length (taken before)
  pub fits : (move_row before k).sum + c < 2 ^ 32
  pub sum : s ≡ (move_row before k).sum + c
  pub row : after ≡ changed before k (raised (move_row before k) c)

abbrev pub AddSays : ℕ → ℕ → Kept Move → Kept Move → Result ℕ Refusal → Type 0
AddSays k c before after (Ok s) = Added k c before after s
AddSays k c before after (Err e) =
    (((e ≡ refused.Entry) × (1 ≤ k → length (taken before) < k)) ⊎ ((e ≡ refused.Number) × (1 ≤ k) × (k ≤ length (taken before)) × (2 ^ 32 ≤ (move_row before k).sum + c)))
    × (after ≡ before)
