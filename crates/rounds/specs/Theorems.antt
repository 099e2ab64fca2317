-- The theorems of the Search, for every lawful time domain, well-formed plan and store.
use Rattle.std.specs.Prelude.{◌≡◌, ℕ, ◌+◌, ◌<◌, ◌≤◌, Bool, true, List, [], length, ◌≢◌}
use Rattle.bounds.specs.Domains.{Lawful}
use Rattle.zones.specs.declared.codes.Code.{Code}
use Rattle.plans.specs.Meaning.{PlanMeaning, WellFormed}
use Rattle.plans.specs.Routes.{Route}
use Rattle.rounds.specs.declared.replies.Phase.{Phase}
use Rattle.rounds.specs.declared.replies.Phase.TheVariants.{Open, Stopped, Unfit}
use Rattle.rounds.specs.Codes.Remains.{kept}
use Rattle.rounds.specs.Held.{Scale}
use Rattle.rounds.specs.Rounds.{Entry, entry_at, starts, Turn, round}
use Rattle.rounds.specs.Rounds.Turn.{done, full, range}
use Rattle.rounds.specs.Stands.{Stands, Covers, EntryOf}
use Rattle.rounds.specs.Causes.{start_at}
use Rattle.rounds.specs.Searches.{Call, find, answer, phase_after, Says, set_up, replies, Law}
use Rattle.rounds.specs.Histories.{History}

-- what stands after round f
abbrev pub Rounded : PlanMeaning → ℕ → ℕ → Turn → Type 0
Rounded M f n (done fs room) = Stands M fs (f + 1) (phase_after n (length fs))
Rounded M f n (full fs room) = Stands M fs f Stopped
Rounded M f n (range fs room) = Stands M fs f Stopped

module _ (M : PlanMeaning) (need : Entry → ℕ) where
  -- what a round tries is an entry for every store of the plan's clocks, so that no store refuses it by Name
  abbrev pub StartsFit : Type 0
  StartsFit = (es : List Entry) → ((k : ℕ) → k < length es → EntryOf M (entry_at es k)) → (f k : ℕ) (z : List Code) → k < length (starts M f es) → (start_at (starts M f es) k).zone ≡ kept z
      → EntryOf M (record { position = (start_at (starts M f es) k).position; round = f; zone = z })

  -- a round keeps what stands
  abbrev pub RoundKept : Type 0
  RoundKept = (es : List Entry) (room f : ℕ) → Stands M es f Open → Rounded M f (length es) (round M need f es room)

  -- the entries of round k or earlier, k below f, hold exactly the states with a route of at most k crossings
  abbrev pub HeldExactly : Type 0
  HeldExactly = (es : List Entry) (f : ℕ) (ph : Phase) → (ph ≢ Unfit) → Stands M es f ph → (k D p : ℕ) (v : ℕ → ℕ) → k < f → Scale M D
      → (Covers es k D p v → ∥ ((n : ℕ) × (n ≤ k) × Route M D p v n) ∥₁) × (∥ ((n : ℕ) × (n ≤ k) × Route M D p v n) ∥₁ → Covers es k D p v)

  -- what an answer says of routes, in any phase but unfit
  abbrev pub AnswersSay : Type 0
  AnswersSay = (es : List Entry) (f : ℕ) (ph : Phase) → (ph ≢ Unfit) → Stands M es f ph → (D p : ℕ) (v : ℕ → ℕ) → Scale M D → Says M ph f D p v (answer ph f (find es D p v))

  -- a Search newly set up keeps the law at each call of any list of calls
  abbrev pub RunsLawful : Type 0
  RunsLawful = (same : Bool) (es : List Entry) (room : ℕ) (cs : List Call) → Law M need (set_up same es room) cs (replies M need (set_up same es room) cs)

  -- the same over an empty store for the plan's clocks, in words of rounds and of the transcript alone
  abbrev pub HistoriesDue : Type 0
  HistoriesDue = (room : ℕ) (cs : List Call) → History M need room cs (replies M need (set_up true [] room) cs)

  pub record Theory : Type 0 where
    pub starts_fit : StartsFit
    pub round_kept : RoundKept
    pub held_exactly : HeldExactly
    pub answers_say : AnswersSay
    pub runs_lawful : RunsLawful
    pub histories_due : HistoriesDue

abbrev pub SearchStands : Type 0
SearchStands = (M : PlanMeaning) (need : Entry → ℕ) → Lawful M.allows M.normal → WellFormed M → Theory M need
