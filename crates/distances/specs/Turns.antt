-- A round over a store, part by part.
use Rattle.std.specs.Prelude.{◌≡◌, ℕ, ◌+◌, ◌<◌, List, [], ◌∷◌, length, Ok, Err, Option, Result}
use Rattle.bounds.specs.declared.refusal.Refusal.{Refusal}
use Rattle.bounds.specs.declared.refusal.Refusal.TheVariants as refused
use Rattle.bounds.specs.Domains.{Lawful}
use Rattle.zones.specs.declared.zone.Zone.{Zone}
use Rattle.std.specs.List.{flat_map}
use Rattle.plans.specs.declared.rows.Outcome.{Outcome}
use Rattle.plans.specs.declared.rows.Goal.{Goal}
use Rattle.plans.specs.Items.{Item}
use Rattle.plans.specs.Meaning.{PlanMeaning, goal_at, outcome_at}
use Rattle.stores.specs.declared.store.Store.{Ghosts}
use Rattle.entries.specs.declared.entry.Entry.{Entry}
use Rattle.rounds.specs.Codes.{Remains}
use Rattle.rounds.specs.Codes.Remains.{kept, empty, beyond}
use Rattle.rounds.specs.Rounds.{Entry as Row, entry_at, Start, goal_start, across, after, Turn, tried, tries, round}
use Rattle.rounds.specs.Rounds.Turn.{done, full, range}
use Rattle.rounds.specs.Stands.{EntryOf}
use Rattle.starts.specs.Told.{Tells}
use Rattle.distances.specs.Rows.{row, rows}

-- the turn ended as the code answers, with what the store then holds and has room for; it is refused by Full or Range alone
abbrev pub Ends : Turn → Result (Unit {0}) Refusal → List Row → ℕ → Type 0
Ends t (Ok u) fs k = t ≡ done fs k
Ends t (Err refused.Line) fs k = ⊥
Ends t (Err refused.Order) fs k = ⊥
Ends t (Err refused.Number) fs k = ⊥
Ends t (Err refused.Name) fs k = ⊥
Ends t (Err refused.Chance) fs k = ⊥
Ends t (Err refused.Rows) fs k = ⊥
Ends t (Err refused.Clocks) fs k = ⊥
Ends t (Err refused.State) fs k = ⊥
Ends t (Err refused.Full) fs k = t ≡ full fs k
Ends t (Err refused.Range) fs k = t ≡ range fs k
Ends t (Err refused.Phase) fs k = ⊥
Ends t (Err refused.Entry) fs k = ⊥
Ends t (Err refused.Buffer) fs k = ⊥

-- a store for n clocks whose entries are the plan's
pub record Ready (M : PlanMeaning) (n : ℕ) (es : List Entry) : Type 0 where
  pub clocks : n ≡ M.clocks
  pub fits : (k : ℕ) → k < length es → EntryOf M (entry_at (rows es) k)

-- a need by position, round and codes that is the store's
abbrev pub Agrees : (Row → ℕ) → (Entry → ℕ) → Type 0
Agrees need' need = (e : Entry) → need' (row e) ≡ need e

-- a zone that remains is an entry of the plan
abbrev pub StartFits : PlanMeaning → ℕ → ℕ → Remains → Type 0
StartFits M f p (kept z) = EntryOf M (record { position = p; round = f; zone = z })
StartFits M f p empty = Unit {0}
StartFits M f p beyond = Unit {0}

-- from the entries es and the room m, a turn left the entries fs and the room k, and answered r
pub record Turned (M : PlanMeaning) (n : ℕ) (t : Turn) (r : Result (Unit {0}) Refusal) (fs : List Entry) (k : ℕ) : Type 0 where
  pub ends : Ends t r (rows fs) k
  pub ready : Ready M n fs

-- one start
abbrev pub OfferSays : PlanMeaning → ℕ → ℕ → Result (Option Zone) Refusal → ℕ → (Entry → ℕ) → List Entry → ℕ → Result (Unit {0}) Refusal → List Entry → ℕ → Type 0
OfferSays M f p left n need es m r fs k = (need' : Row → ℕ) → Agrees need' need → Ready M n es → (o : Remains) → Tells o left → (Lawful M.allows M.normal → StartFits M f p o) → Turned M n (tried need' f p o (rows es) m) r fs k

-- starts in order
abbrev pub TriesSays : PlanMeaning → ℕ → (Entry → ℕ) → ℕ → List Start → List Entry → ℕ → Result (Unit {0}) Refusal → List Entry → ℕ → Type 0
TriesSays M n need f cs es m r fs k = (need' : Row → ℕ) → Agrees need' need → Ready M n es → Turned M n (tries need' f cs (rows es) m) r fs k

-- a whole round
abbrev pub RoundSays : PlanMeaning → ℕ → (Entry → ℕ) → ℕ → List Entry → ℕ → Result (Unit {0}) Refusal → List Entry → ℕ → Type 0
RoundSays M n need f es m r fs k = (need' : Row → ℕ) → Agrees need' need → Ready M n es → Turned M n (round M need' f (rows es) m) r fs k

-- goal k, from 0
abbrev pub GoalSays : PlanMeaning → ℕ → (Entry → ℕ) → ℕ → List Entry → ℕ → Result (Unit {0}) Refusal → List Entry → ℕ → Type 0
GoalSays M n need j es m r fs k = j < length M.goals → TriesSays M n need 0 (goal_start M (goal_at M j) ∷ []) es m r fs k

-- outcome j, from 0, into the position of an entry of the plan
abbrev pub CrossSays : PlanMeaning → ℕ → (Entry → ℕ) → ℕ → Entry → ℕ → List Entry → ℕ → Result (Unit {0}) Refusal → List Entry → ℕ → Type 0
CrossSays M n need f e j es m r fs k = j < length M.outcomes → EntryOf M (row e) → TriesSays M n need f (across M (row e) (outcome_at M j)) es m r fs k

-- every outcome
abbrev pub AcrossSays : PlanMeaning → ℕ → Entry → ℕ → (Entry → ℕ) → List Entry → ℕ → Result (Unit {0}) Refusal → List Entry → ℕ → Type 0
AcrossSays M f e n need es m r fs k = EntryOf M (row e) → TriesSays M n need f (flat_map (across M (row e)) M.outcomes) es m r fs k

-- entry j, from 0, if it is of round g
abbrev pub AfterSays : PlanMeaning → ℕ → (Entry → ℕ) → ℕ → ℕ → ℕ → List Entry → ℕ → Result (Unit {0}) Refusal → List Entry → ℕ → Type 0
AfterSays M n need f g j es m r fs k = j < length es → TriesSays M n need f (after M g (entry_at (rows es) j)) es m r fs k

-- the same of a goal, an outcome and an entry that were asked for
abbrev pub FromGoal : PlanMeaning → Goal → ℕ → (Entry → ℕ) → List Entry → ℕ → Result (Unit {0}) Refusal → List Entry → ℕ → Type 0
FromGoal M g n need es m r fs k = (j : ℕ) → Item M.goals (j + 1) (Ok g) → GoalSays M n need j es m r fs k

abbrev pub FromOutcome : PlanMeaning → ℕ → Entry → Outcome → ℕ → (Entry → ℕ) → List Entry → ℕ → Result (Unit {0}) Refusal → List Entry → ℕ → Type 0
FromOutcome M f e o n need es m r fs k = (j : ℕ) → Item M.outcomes (j + 1) (Ok o) → CrossSays M n need f e j es m r fs k

abbrev pub FromLast : PlanMeaning → ℕ → ℕ → Entry → ℕ → (Entry → ℕ) → List Entry → ℕ → Result (Unit {0}) Refusal → List Entry → ℕ → Type 0
FromLast M f g e n need es m r fs k = (j : ℕ) → Item es (j + 1) (Ok e) → AfterSays M n need f g j es m r fs k

-- a call over a store: what it says of the entries and the room before and after it, and that the store stays for as many clocks
pub record Over {S : Type 0} (T : Ghosts S) (claim : ℕ → (Entry → ℕ) → List Entry → ℕ → Result (Unit {0}) Refusal → List Entry → ℕ → Type 0) (s : S) (r : Result (Unit {0}) Refusal) (s' : S) : Type 0 where
  pub says : claim (T.dimension s) (T.need (T.dimension s)) (T.entries s) (T.room s) r (T.entries s') (T.room s')
  pub clocks : T.dimension s' ≡ T.dimension s
