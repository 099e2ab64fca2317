-- What a check of each row in turn has seen.
use Rattle.std.specs.Prelude.{◌≡◌, ℕ, ◌+◌, ◌<◌, List, length, Ok, Err, Result, slice_index_or}
use Rattle.std.specs.Borrow.{Bor}
use Rattle.std.specs.Fn.{FnReturns}
use Rattle.bounds.specs.declared.refusal.Refusal.{Refusal}
use Rattle.plans.specs.declared.faults.RowFault.{RowFault}
use Rattle.plans.specs.declared.faults.PlanList.{PlanList}
use Rattle.plans.specs.RowChecks.{FirstFault}
use denote.Param.Members.{Shared}

module _ {F R : Type 0} (g : Shared F (ℕ × (Bor R × Unit {0})) (Result (Unit {0}) Refusal)) (check : F) (rows : List R) where
  -- the check may answer r at the row k, from 0, which is told to it by its number, from 1
  abbrev pub SaysAt : ℕ → Result (Unit {0}) Refusal → Type 0
  SaysAt k r = (p : Bor R) × (p.now ≡ slice_index_or rows k p.now) × FnReturns g check (k + 1, (p, tt)) r

  -- it accepts each row before k
  abbrev pub Accepts : ℕ → Type 0
  Accepts k = (j : ℕ) → j < k → SaysAt j (Ok tt)

  -- it refuses the first row that is told
  abbrev pub Refuses : PlanList → RowFault → Type 0
  Refuses l = FirstFault l (length rows) Accepts (λ k e. SaysAt k (Err e))
