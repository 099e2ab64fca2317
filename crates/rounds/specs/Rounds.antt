-- A round, as a function of the plan's meaning, the entries and the room before it.
use Rattle.std.specs.Prelude.{ℕ, zero, suc, ◌-◌, Bool, false, cond, ◌&&◌, ◌||◌, List, [], ◌∷◌, ◌++◌, map, ◌==◌, nat_le, slice_index_or}
use Rattle.std.specs.List.{flat_map}
use Rattle.zones.specs.declared.codes.Code.{Code}
use Rattle.zones.specs.declared.boxes.ClockBox.{ClockBox}
use Rattle.plans.specs.declared.rows.Move.{Move}
use Rattle.plans.specs.declared.rows.Outcome.{Outcome}
use Rattle.plans.specs.declared.rows.Goal.{Goal}
use Rattle.plans.specs.Meaning.{PlanMeaning, invariant_of, move_at}
use Rattle.rounds.specs.Codes.{Remains, then, whole, cut_box, back_zone, undo_zone, within_zone}
use Rattle.rounds.specs.Codes.Remains.{kept, empty, beyond}

-- a zone that is held at a position, with the number of the round that put it
pub record Entry : Type 0 where
  pub position : ℕ
  pub round : ℕ
  pub zone : List Code

abbrev pub no_entry : Entry
no_entry = record { position = 0; round = 0; zone = [] }

-- entries by place, from 0
abbrev pub entry_at : List Entry → ℕ → Entry
entry_at es k = slice_index_or es k no_entry

-- the move of an outcome
abbrev pub move_of : PlanMeaning → Outcome → Move
move_of M o = move_at M (o.cause - 1)

-- which clocks an outcome sets to 0
abbrev pub resets_of : List Bool → ℕ → Bool
resets_of rs zero = false
resets_of rs (suc i) = slice_index_or rs i false

abbrev pub cut_by : PlanMeaning → ClockBox → List Code → Remains
cut_by M b z = cut_box M.normal b.sides z

-- a zone that a round tries, at its position
pub record Start : Type 0 where
  pub position : ℕ
  pub zone : Remains

-- taken back and cut by the invariant of p
unfoldable pub taken_back : PlanMeaning → ℕ → Remains → Remains
taken_back M p z = then (then z back_zone) (cut_by M (invariant_of M p))

-- the invariant of the goal's position, cut by the goal's box
unfoldable pub goal_zone : PlanMeaning → Goal → Remains
goal_zone M g = taken_back M g.position (then (cut_by M (invariant_of M g.position) whole) (cut_by M g.area))

-- the clocks that the outcome resets undone, cut by the guard and by the invariant of the move's source
unfoldable pub step_zone : PlanMeaning → List Code → Outcome → Remains
step_zone M z o = taken_back M (move_of M o).source (then (then (undo_zone (resets_of o.resets) z) (cut_by M (move_of M o).guard)) (cut_by M (invariant_of M (move_of M o).source)))

abbrev pub goal_start : PlanMeaning → Goal → Start
goal_start M g = record { position = g.position; zone = goal_zone M g }

abbrev pub step_start : PlanMeaning → Entry → Outcome → Start
step_start M e o = record { position = (move_of M o).source; zone = step_zone M e.zone o }

-- what entry e starts by outcome o: one zone, where o has a chance and leads to e's position
unfoldable pub across : PlanMeaning → Entry → Outcome → List Start
across M e o = cond (nat_le 1 o.chance && o.target == e.position) (step_start M e o ∷ []) []

-- what entry e starts in the round after r
unfoldable pub after : PlanMeaning → ℕ → Entry → List Start
after M r e = cond (e.round == r) (flat_map (across M e) M.outcomes) []

-- what round f tries, in order
unfoldable pub starts : PlanMeaning → ℕ → List Entry → List Start
starts M zero es = map (goal_start M) M.goals
starts M (suc r) es = flat_map (after M r) es

-- how a round, or a part of one, ends: with the entries and the room then
pub data Turn : Type 0 where
  done : List Entry → ℕ → Turn
  full : List Entry → ℕ → Turn
  range : List Entry → ℕ → Turn

abbrev pub entries_of : Turn → List Entry
entries_of (done es room) = es
entries_of (full es room) = es
entries_of (range es room) = es

abbrev pub onward : Turn → (List Entry → ℕ → Turn) → Turn
onward (done es room) k = k es room
onward (full es room) k = full es room
onward (range es room) k = range es room

-- z lies within one held zone at position p
unfoldable pub covering : List Entry → ℕ → List Code → Bool
covering [] p z = false
covering (e ∷ es) p z = (e.position == p && within_zone z e.zone) || covering es p z

-- the store takes an entry whose need is at most the room
unfoldable pub put : (Entry → ℕ) → List Entry → ℕ → Entry → Turn
put need es room e = cond (nat_le (need e) room) (done (es ++ (e ∷ [])) (room - need e)) (full es room)

-- a zone is dropped or put
unfoldable pub offer : (Entry → ℕ) → ℕ → ℕ → List Code → List Entry → ℕ → Turn
offer need f p z es room = cond (covering es p z) (done es room) (put need es room (record { position = p; round = f; zone = z }))

-- one start
unfoldable pub tried : (Entry → ℕ) → ℕ → ℕ → Remains → List Entry → ℕ → Turn
tried need f p (kept z) es room = offer need f p z es room
tried need f p empty es room = done es room
tried need f p beyond es room = range es room

-- starts in order; the first Full or Range ends it
unfoldable pub tries : (Entry → ℕ) → ℕ → List Start → List Entry → ℕ → Turn
tries need f [] es room = done es room
tries need f (c ∷ cs) es room = onward (tried need f c.position c.zone es room) (tries need f cs)

-- round f, from the entries and the room before it
unfoldable pub round : PlanMeaning → (Entry → ℕ) → ℕ → List Entry → ℕ → Turn
round M need f es room = tries need f (starts M f es) es room
