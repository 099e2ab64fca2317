-- What a store does with an entry.
use Rattle.std.specs.Prelude.{◌≡◌, ℕ, ◌+◌, ◌<◌, ◌≤◌, List, [], ◌∷◌, ◌++◌, Ok, Err, Result}
use Rattle.bounds.specs.declared.refusal.Refusal.{Refusal}
use Rattle.bounds.specs.declared.refusal.Refusal.TheVariants as refused
use Rattle.entries.specs.declared.entry.Entry.{Entry}
use Rattle.entries.specs.Entries.{IsEntry}

-- a number of clocks
pub record Counted (n : ℕ) : Type 0 where
  pub least : 1 ≤ n
  pub most : n ≤ 8

-- the entry came in: es and m are the entries and the room before, fs and k after
pub record Put (n need : ℕ) (e : Entry) (es : List Entry) (m : ℕ) (fs : List Entry) (k : ℕ) : Type 0 where
  pub is_entry : IsEntry n e
  pub fits : need ≤ m
  pub entries : fs ≡ es ++ (e ∷ [])
  pub room : k + need ≡ m

-- it is no entry for n clocks
pub record NoEntry (n : ℕ) (e : Entry) (es : List Entry) (m : ℕ) (fs : List Entry) (k : ℕ) : Type 0 where
  pub none : IsEntry n e → ⊥
  pub entries : fs ≡ es
  pub room : k ≡ m

-- it is one, and needs more than the room
pub record TooLarge (n need : ℕ) (e : Entry) (es : List Entry) (m : ℕ) (fs : List Entry) (k : ℕ) : Type 0 where
  pub is_entry : IsEntry n e
  pub over : m < need
  pub entries : fs ≡ es
  pub room : k ≡ m

-- by answer; a put is refused by Name or Full alone
abbrev pub PutSays : ℕ → ℕ → Entry → List Entry → ℕ → Result (Unit {0}) Refusal → List Entry → ℕ → Type 0
PutSays n need e es m (Ok u) fs k = Put n need e es m fs k
PutSays n need e es m (Err refused.Line) fs k = ⊥
PutSays n need e es m (Err refused.Order) fs k = ⊥
PutSays n need e es m (Err refused.Number) fs k = ⊥
PutSays n need e es m (Err refused.Name) fs k = NoEntry n e es m fs k
PutSays n need e es m (Err refused.Chance) fs k = ⊥
PutSays n need e es m (Err refused.Rows) fs k = ⊥
PutSays n need e es m (Err refused.Clocks) fs k = ⊥
PutSays n need e es m (Err refused.State) fs k = ⊥
PutSays n need e es m (Err refused.Full) fs k = TooLarge n need e es m fs k
PutSays n need e es m (Err refused.Range) fs k = ⊥
PutSays n need e es m (Err refused.Phase) fs k = ⊥
PutSays n need e es m (Err refused.Entry) fs k = ⊥
PutSays n need e es m (Err refused.Buffer) fs k = ⊥
