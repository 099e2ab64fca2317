-- A Search as a state machine, and what its replies mean.
use Rattle.std.specs.Prelude.{◌≡◌, ℕ, ◌+◌, ◌-◌, ◌<◌, ◌≤◌, Bool, true, cond, ◌&&◌, leb, List, [], ◌∷◌, length, take, Some, None, Option, ◌==◌, ◌≢◌, nat_le, slice_index, slice_index_or}
use Rattle.bounds.specs.declared.refusal.Refusal.{Refusal}
use Rattle.bounds.specs.declared.refusal.Refusal.TheVariants as refusal
use Rattle.zones.specs.States.{value_of}
use Rattle.plans.specs.Meaning.{PlanMeaning}
use Rattle.plans.specs.Routes.{Route, Distance}
use Rattle.rounds.specs.declared.replies.Phase.{Phase}
use Rattle.rounds.specs.declared.replies.Phase.TheVariants.{Open, Closed, Stopped, Unfit}
use Rattle.rounds.specs.declared.replies.Answer.{Answer}
use Rattle.rounds.specs.declared.replies.Answer.TheVariants.{Distance as told-distance, NoRoute, Untold}
use Rattle.rounds.specs.Codes.{every}
use Rattle.rounds.specs.Held.{holds_state}
use Rattle.rounds.specs.Rounds.{Entry, entry_at, Turn, round}
use Rattle.rounds.specs.Rounds.Turn.{done, full, range}

-- its phase, what its store holds, the room left, and the rounds finished
pub record Search : Type 0 where
  pub phase : Phase
  pub entries : List Entry
  pub room : ℕ
  pub rounds : ℕ

-- the state of `ask` is at a scale, at a position, with its readings
pub data Call : Type 0 where
  widen : Call
  ask : ℕ → ℕ → List ℕ → Call
  list : ℕ → Call

pub data Reply : Type 0 where
  widened : ℕ → Reply
  told : Answer → Reply
  listed : Entry → Reply
  refused : Refusal → Reply

pub record Step : Type 0 where
  pub reply : Reply
  pub next : Search

-- an answered widen that put none makes the Search closed
abbrev pub phase_after : ℕ → ℕ → Phase
phase_after before now = cond (now == before) Closed Open

-- what round f makes of a Search with n entries
abbrev pub ended : ℕ → ℕ → Turn → Step
ended f n (done fs room) = record { reply = widened (f + 1); next = record { phase = phase_after n (length fs); entries = fs; room = room; rounds = f + 1 } }
ended f n (full fs room) = record { reply = refused refusal.Full; next = record { phase = Stopped; entries = fs; room = room; rounds = f } }
ended f n (range fs room) = record { reply = refused refusal.Range; next = record { phase = Stopped; entries = fs; room = room; rounds = f } }

-- the round of the first entry at position p that holds the state
unfoldable pub find : List Entry → ℕ → ℕ → (ℕ → ℕ) → Option ℕ
find [] D p v = None
find (e ∷ es) D p v = cond (e.position == p && holds_state e.zone D v) (Some e.round) (find es D p v)

abbrev pub answer : Phase → ℕ → Option ℕ → Answer
answer Open f (Some d) = told-distance d
answer Open f None = Untold f
answer Closed f (Some d) = told-distance d
answer Closed f None = NoRoute
answer Stopped f (Some d) = told-distance d
answer Stopped f None = Untold f
answer Unfit f (Some d) = told-distance d
answer Unfit f None = Untold f

-- a state of the plan that is taken: its position exists, it reads each clock of the plan, and scale and readings are in range
pub record Askable (M : PlanMeaning) (D p : ℕ) (rs : List ℕ) : Type 0 where
  pub first : 1 ≤ p
  pub last : p ≤ length M.positions
  pub count : length rs ≡ M.clocks
  pub scale : 1 ≤ D
  pub most : D ≤ 1000
  pub allowed : M.allows D ≡ true
  pub small : (k : ℕ) → k < length rs → slice_index rs k ≤ 1000000000

-- and a test for it
unfoldable pub askable : PlanMeaning → ℕ → ℕ → List ℕ → Bool
askable M D p rs = (nat_le 1 p && nat_le p (length M.positions)) && (length rs == M.clocks && ((nat_le 1 D && nat_le D 1000) && (M.allows D && every (length rs) (λ k. leb (slice_index rs k) 1000000000))))

abbrev pub asked : PlanMeaning → Search → ℕ → ℕ → List ℕ → Reply
asked M s D p rs = cond (askable M D p rs) (told (answer s.phase s.rounds (find s.entries D p (value_of rs)))) (refused refusal.State)

abbrev pub listing : List Entry → ℕ → Reply
listing es k = cond (nat_le 1 k && nat_le k (length es)) (listed (entry_at es (k - 1))) (refused refusal.Entry)

-- the phase and the call together decide what happens
abbrev pub happens : PlanMeaning → (Entry → ℕ) → Phase → Search → Call → Step
happens M need Unfit s c = record { reply = refused refusal.Phase; next = s }
happens M need Open s widen = ended s.rounds (length s.entries) (round M need s.rounds s.entries s.room)
happens M need Open s (ask D p rs) = record { reply = asked M s D p rs; next = s }
happens M need Open s (list k) = record { reply = listing s.entries k; next = s }
happens M need Closed s widen = record { reply = refused refusal.Phase; next = s }
happens M need Closed s (ask D p rs) = record { reply = asked M s D p rs; next = s }
happens M need Closed s (list k) = record { reply = listing s.entries k; next = s }
happens M need Stopped s widen = record { reply = refused refusal.Phase; next = s }
happens M need Stopped s (ask D p rs) = record { reply = asked M s D p rs; next = s }
happens M need Stopped s (list k) = record { reply = listing s.entries k; next = s }

unfoldable pub step : PlanMeaning → (Entry → ℕ) → Search → Call → Step
step M need s c = happens M need s.phase s c

-- set-up over a store with these entries and this room, for as many clocks as the plan or not
abbrev pub set_up : Bool → List Entry → ℕ → Search
set_up same es room = record { phase = cond (same && length es == 0) Open Unfit; entries = es; room = room; rounds = 0 }

-- what a Search replies to calls, and where they leave it
unfoldable pub replies : PlanMeaning → (Entry → ℕ) → Search → List Call → List Reply
replies M need s [] = []
replies M need s (c ∷ cs) = (step M need s c).reply ∷ replies M need (step M need s c).next cs

unfoldable pub left_by : PlanMeaning → (Entry → ℕ) → Search → List Call → Search
left_by M need s [] = s
left_by M need s (c ∷ cs) = left_by M need (step M need s c).next cs

-- the answered widens of a transcript
abbrev pub more : Reply → ℕ
more (widened n) = 1
more (told a) = 0
more (listed e) = 0
more (refused e) = 0

abbrev pub widens : List Reply → ℕ
widens [] = 0
widens (r ∷ rs) = more r + widens rs

-- what an answer says of the routes from a state, after f answered widens
abbrev pub Says : PlanMeaning → Phase → ℕ → ℕ → ℕ → (ℕ → ℕ) → Answer → Type 0
Says M ph f D p v (told-distance d) = Distance M D p v d
Says M ph f D p v NoRoute = (ph ≡ Closed) × ((n : ℕ) → Route M D p v n → ⊥)
Says M ph f D p v (Untold g) = (ph ≢ Closed) × (g ≡ f) × ((n : ℕ) → Route M D p v n → f ≤ n)

-- how a round ended
abbrev pub EndsWell : Turn → Type 0
EndsWell (done fs room) = Unit {0}
EndsWell (full fs room) = ⊥
EndsWell (range fs room) = ⊥

abbrev pub EndsFull : Turn → Type 0
EndsFull (done fs room) = ⊥
EndsFull (full fs room) = Unit {0}
EndsFull (range fs room) = ⊥

abbrev pub EndsRange : Turn → Type 0
EndsRange (done fs room) = ⊥
EndsRange (full fs room) = ⊥
EndsRange (range fs room) = Unit {0}

-- the round that a widen does on the Search s
abbrev pub next_round : PlanMeaning → (Entry → ℕ) → Search → Turn
next_round M need s = round M need s.rounds s.entries s.room

-- what holds where a call is refused by State, Full, Range, Phase or Entry; no call is refused by any other
abbrev pub By : Type 0 → Type 0 → Type 0 → Type 0 → Type 0 → Refusal → Type 0
By state room reach phase entry refusal.Line = ⊥
By state room reach phase entry refusal.Order = ⊥
By state room reach phase entry refusal.Number = ⊥
By state room reach phase entry refusal.Name = ⊥
By state room reach phase entry refusal.Chance = ⊥
By state room reach phase entry refusal.Rows = ⊥
By state room reach phase entry refusal.Clocks = ⊥
By state room reach phase entry refusal.State = state
By state room reach phase entry refusal.Full = room
By state room reach phase entry refusal.Range = reach
By state room reach phase entry refusal.Phase = phase
By state room reach phase entry refusal.Entry = entry
By state room reach phase entry refusal.Buffer = ⊥

-- what a reply means: s is the Search before the call, and f the number of widens answered before it
abbrev pub Replied : PlanMeaning → (Entry → ℕ) → Search → ℕ → Call → Reply → Type 0
Replied M need s f widen (widened n) = (s.phase ≡ Open) × EndsWell (next_round M need s) × (n ≡ f + 1)
Replied M need s f widen (told a) = ⊥
Replied M need s f widen (listed e) = ⊥
Replied M need s f widen (refused e) = By ⊥ ((s.phase ≡ Open) × EndsFull (next_round M need s)) ((s.phase ≡ Open) × EndsRange (next_round M need s)) (s.phase ≢ Open) ⊥ e
Replied M need s f (ask D p rs) (widened n) = ⊥
Replied M need s f (ask D p rs) (told a) = (s.phase ≢ Unfit) × Askable M D p rs × Says M s.phase f D p (value_of rs) a
Replied M need s f (ask D p rs) (listed e) = ⊥
Replied M need s f (ask D p rs) (refused e) = By ((s.phase ≢ Unfit) × (Askable M D p rs → ⊥)) ⊥ ⊥ (s.phase ≡ Unfit) ⊥ e
Replied M need s f (list k) (widened n) = ⊥
Replied M need s f (list k) (told a) = ⊥
Replied M need s f (list k) (listed e) = (s.phase ≢ Unfit) × (1 ≤ k) × (k ≤ length s.entries) × (e ≡ entry_at s.entries (k - 1))
Replied M need s f (list k) (refused e) = By ⊥ ⊥ ⊥ (s.phase ≡ Unfit) ((s.phase ≢ Unfit) × (1 ≤ k → length s.entries < k)) e

-- each reply, at its place
abbrev pub Law : PlanMeaning → (Entry → ℕ) → Search → List Call → List Reply → Type 0
Law M need s cs rs = (i : ℕ) → i < length cs → Replied M need (left_by M need s (take i cs)) (widens (take i rs)) (slice_index_or cs i widen) (slice_index_or rs i (refused refusal.Phase))
