-- What asking for item k of a list (from 1) answers.
use Rattle.std.specs.Prelude.{◌≡◌, ℕ, ◌-◌, ◌<◌, ◌≤◌, List, length, Ok, Err, Result, slice_index_or}
use Rattle.bounds.specs.declared.refusal.Refusal.{Refusal}
use Rattle.bounds.specs.declared.refusal.Refusal.TheVariants as refused

-- k, from 1, is one of n
abbrev pub Names : ℕ → ℕ → Type 0
Names n k = (1 ≤ k) × (k ≤ n)

-- item k, or Entry where there is none
abbrev pub Item : {A : Type 0} → List A → ℕ → Result A Refusal → Type 0
Item xs k (Ok x) = (1 ≤ k) × (k ≤ length xs) × (x ≡ slice_index_or xs (k - 1) x)
Item xs k (Err e) = (e ≡ refused.Entry) × (1 ≤ k → length xs < k)
