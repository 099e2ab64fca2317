-- The first entry at a position that passes a test.
use Rattle.std.specs.Prelude.{◌≡◌, ℕ, Bool, true, false, List, [], ◌∷◌, Some, None, Option}
use Rattle.entries.specs.declared.entry.Entry.{Entry}

-- R says what the test answers of an entry
pub data FirstAt (R : Entry → Bool → Type 0) (p : ℕ) : List Entry → Option Entry → Type 0 where
  ended : FirstAt R p [] None
  here : {e : Entry} {es : List Entry} → e.position ≡ p → R e true → FirstAt R p (e ∷ es) (Some e)
  past : {e : Entry} {es : List Entry} {r : Option Entry} → (e.position ≡ p → R e false) → FirstAt R p es r → FirstAt R p (e ∷ es) r
