-- The law over runs in words of rounds and of the transcript alone.
use Rattle.std.specs.Prelude.{◌≡◌, ℕ, zero, suc, ◌+◌, ◌-◌, ◌<◌, ◌≤◌, Bool, cond, ◌&&◌, ◌||◌, ◌⊎◌, List, [], ◌∷◌, length, take, ◌==◌, nat_lt, slice_index_or}
use Rattle.bounds.specs.declared.refusal.Refusal.TheVariants as refusal
use Rattle.zones.specs.States.{value_of}
use Rattle.plans.specs.Meaning.{PlanMeaning}
use Rattle.plans.specs.Routes.{Route, Distance}
use Rattle.rounds.specs.declared.replies.Answer.{Answer}
use Rattle.rounds.specs.declared.replies.Answer.TheVariants.{Distance as told-distance, NoRoute, Untold}
use Rattle.rounds.specs.Rounds.{Entry, entry_at, Turn, entries_of, onward, round}
use Rattle.rounds.specs.Rounds.Turn.{done}
use Rattle.rounds.specs.Searches.{Call, Reply, Askable, By, widens, EndsWell, EndsFull, EndsRange}
use Rattle.rounds.specs.Searches.Call.{widen, ask, list}
use Rattle.rounds.specs.Searches.Reply.{widened, told, listed, refused}

-- f rounds, one after the other, from an empty store
unfoldable pub rounds_from : PlanMeaning → (Entry → ℕ) → ℕ → ℕ → Turn
rounds_from M need room zero = done [] room
rounds_from M need room (suc f) = onward (rounds_from M need room f) (round M need f)

abbrev pub held_after : PlanMeaning → (Entry → ℕ) → ℕ → ℕ → List Entry
held_after M need room f = entries_of (rounds_from M need room f)

-- the last of f rounds put no entry
abbrev pub ClosedAfter : PlanMeaning → (Entry → ℕ) → ℕ → ℕ → Type 0
ClosedAfter M need room f = (0 < f) × (length (held_after M need room f) ≡ length (held_after M need room (f - 1)))

-- and a test for it
abbrev pub closed_after : PlanMeaning → (Entry → ℕ) → ℕ → ℕ → Bool
closed_after M need room f = nat_lt 0 f && length (held_after M need room f) == length (held_after M need room (f - 1))

-- what is held after f answered and b refused widens: a round that was refused, other than by Phase, leaves what it put
abbrev pub holding : PlanMeaning → (Entry → ℕ) → ℕ → ℕ → ℕ → List Entry
holding M need room f b = cond (b == 0 || closed_after M need room f) (held_after M need room f) (held_after M need room (f + 1))

-- the refused widens of a transcript
abbrev pub lost : Call → Reply → ℕ
lost widen (widened n) = 0
lost widen (told a) = 0
lost widen (listed e) = 0
lost widen (refused e) = 1
lost (ask D p rs) r = 0
lost (list k) r = 0

abbrev pub losses : List Call → List Reply → ℕ
losses [] rs = 0
losses (c ∷ cs) [] = 0
losses (c ∷ cs) (r ∷ rs) = lost c r + losses cs rs

-- a round follows: no widen was refused, and the last of f rounds put some entry
abbrev pub Follows : PlanMeaning → (Entry → ℕ) → ℕ → ℕ → ℕ → Type 0
Follows M need room f b = (b ≡ 0) × (ClosedAfter M need room f → ⊥)

-- what an answer is, after f answered widens
abbrev pub Told : PlanMeaning → (Entry → ℕ) → ℕ → ℕ → ℕ → ℕ → (ℕ → ℕ) → Answer → Type 0
Told M need room f D p v (told-distance d) = Distance M D p v d
Told M need room f D p v NoRoute = ClosedAfter M need room f × ((n : ℕ) → Route M D p v n → ⊥)
Told M need room f D p v (Untold g) = (ClosedAfter M need room f → ⊥) × (g ≡ f) × ((n : ℕ) → Route M D p v n → f ≤ n)

-- what a reply is, after f answered and b refused widens
abbrev pub Due : PlanMeaning → (Entry → ℕ) → ℕ → ℕ → ℕ → Call → Reply → Type 0
Due M need room f b widen (widened n) = Follows M need room f b × EndsWell (rounds_from M need room (f + 1)) × (n ≡ f + 1)
Due M need room f b widen (told a) = ⊥
Due M need room f b widen (listed e) = ⊥
Due M need room f b widen (refused e) = By ⊥ (Follows M need room f b × EndsFull (rounds_from M need room (f + 1))) (Follows M need room f b × EndsRange (rounds_from M need room (f + 1)))
    ((0 < b) ⊎ ClosedAfter M need room f) ⊥ e
Due M need room f b (ask D p rs) (widened n) = ⊥
Due M need room f b (ask D p rs) (told a) = Askable M D p rs × Told M need room f D p (value_of rs) a
Due M need room f b (ask D p rs) (listed e) = ⊥
Due M need room f b (ask D p rs) (refused e) = By (Askable M D p rs → ⊥) ⊥ ⊥ ⊥ ⊥ e
Due M need room f b (list k) (widened n) = ⊥
Due M need room f b (list k) (told a) = ⊥
Due M need room f b (list k) (listed e) = (1 ≤ k) × (k ≤ length (holding M need room f b)) × (e ≡ entry_at (holding M need room f b) (k - 1))
Due M need room f b (list k) (refused e) = By ⊥ ⊥ ⊥ ⊥ (1 ≤ k → length (holding M need room f b) < k) e

-- every reply of a transcript is due at its place
abbrev pub History : PlanMeaning → (Entry → ℕ) → ℕ → List Call → List Reply → Type 0
History M need room cs rs = (i : ℕ) → i < length cs → Due M need room (widens (take i rs)) (losses (take i cs) (take i rs)) (slice_index_or cs i widen) (slice_index_or rs i (refused refusal.Phase))
