-- A store's room, in units of which some are used.
use Rattle.std.specs.Prelude.{◌≡◌, ℕ, ◌-◌, ◌≤◌, min, Ok, Err, Result}
use Rattle.std.proofs.Common.{arith}
use Rattle.bounds.specs.declared.refusal.Refusal.{Refusal}
use Rattle.plans.specs.RowLists.{Kept, put}
use Rattle.entries.specs.declared.entry.Entry.{Entry}

-- what is left of the units, of which at most a thousand million count
abbrev pub left : ℕ → ℕ → ℕ
left units used = min 1000000000 units - used

pub left_bounded : (units used : ℕ) → left units used ≤ 1000000000
left_bounded units used = omega arith

pub one_some : 1 ≤ 1
one_some = omega arith

-- by answer: the first row that was not used is the entry now, or every row is as it was
abbrev pub RowsSay : Kept Entry → Entry → Result (Unit {0}) Refusal → Kept Entry → Type 0
RowsSay before e (Ok u) after = after ≡ put before e
RowsSay before e (Err why) after = after ≡ before
