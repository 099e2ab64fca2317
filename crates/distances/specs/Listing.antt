-- What is listed.
use Rattle.std.specs.Prelude.{◌≡◌, ℕ, ◌-◌, ◌<◌, ◌≤◌, ◌⊎◌, List, length, Err, Result, slice_index_or}
use Rattle.bounds.specs.declared.refusal.Refusal.{Refusal}
use Rattle.bounds.specs.declared.refusal.Refusal.TheVariants as refused
use Rattle.byte_text.specs.Lines.{WriteSays}
use Rattle.entries.specs.declared.entry.Entry.{Entry}
use Rattle.entries.specs.Lines.{line}
use Rattle.rounds.specs.declared.replies.Phase.{Phase}
use Rattle.rounds.specs.declared.replies.Phase.TheVariants.{Open, Closed, Stopped, Unfit}

-- entry k, from 1, is written as its line, or refused by Buffer where the buffer is shorter; no such entry is refused by Entry before that
abbrev pub Listed : ℕ → List Entry → ℕ → List ℕ → Result ℕ Refusal → List ℕ → Type 0
Listed n es k buf r buf' =
    ((e : Entry) × (1 ≤ k) × (k ≤ length es) × (e ≡ slice_index_or es (k - 1) e) × WriteSays (line n e) buf r buf')
    ⊎ ((1 ≤ k → length es < k) × (r ≡ Err refused.Entry) × (buf' ≡ buf))

-- an unfit one is refused by Phase first
abbrev pub ListSays : ℕ → Phase → List Entry → ℕ → List ℕ → Result ℕ Refusal → List ℕ → Type 0
ListSays n Open es k buf r buf' = Listed n es k buf r buf'
ListSays n Closed es k buf r buf' = Listed n es k buf r buf'
ListSays n Stopped es k buf r buf' = Listed n es k buf r buf'
ListSays n Unfit es k buf r buf' = (r ≡ Err refused.Phase) × (buf' ≡ buf)
