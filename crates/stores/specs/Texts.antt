-- What a line store does with its bytes.
use Rattle.std.specs.Prelude.{◌≡◌, ℕ, ◌+◌, List, ◌∷◌, ◌++◌, length, take, Some, None, Ok, Err, Option, Result}
use Rattle.std.specs.Borrow.{Bor}
use Rattle.bounds.specs.declared.refusal.Refusal.{Refusal}
use Rattle.byte_text.specs.Lines.{written}
use Rattle.entries.specs.declared.entry.Entry.{Entry}
use Rattle.entries.specs.Lines.{line}
use Rattle.entries.specs.Lists.{lines, AllEntries}
use Rattle.stores.specs.declared.line_store.LineStore.{LineStore}
use Rattle.stores.specs.Held.{held}

-- by answer: the line of the entry stands behind the used bytes and counts to them, or all is as it was
abbrev pub BytesSay : ℕ → Entry → List ℕ → ℕ → ℕ → Result (Unit {0}) Refusal → List ℕ → ℕ → ℕ → Type 0
BytesSay n e bs used count (Ok u) cs used' count' = (cs ≡ written bs used (line n e)) × (used' ≡ used + length (line n e)) × (count' ≡ count + 1)
BytesSay n e bs used count (Err why) cs used' count' = (cs ≡ bs) × (used' ≡ used) × (count' ≡ count)

-- the entries of a line store
abbrev pub text_of : LineStore → List Entry
text_of s = held s.clocks.count s.count (take s.used s.bytes.now) s.kept

abbrev pub shows : Option (Bor (List ℕ)) → Option (List ℕ)
shows (Some x) = Some x.now
shows None = None

-- where the bytes are the lines of entries, it is the line of the entry after i others
abbrev pub NthSays : List ℕ → ℕ → Option (Bor (List ℕ)) → Type 0
NthSays bs i r = (n : ℕ) (es fs : List Entry) (e : Entry) → AllEntries n (es ++ (e ∷ fs)) → lines n (es ++ (e ∷ fs)) ≡ bs → length es ≡ i → shows r ≡ Some (line n e)
