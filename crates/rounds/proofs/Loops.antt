-- What the loops of a round step by.
use Rattle.std.proofs.Common.{◌≡◌, ℕ, ◌<◌, List, [], ◌∷◌, ◌++◌, length, sym, refl, ap, ◌∙◌, subst, arith}
use Rattle.std.proofs.lemmas.List.{get_or_append_left, length-append}
use Rattle.rounds.specs.Rounds.{Entry, no_entry, entry_at, Start, Turn, onward, tried, tries}
use Rattle.rounds.specs.Rounds.Turn.{done, full, range}
use Rattle.rounds.specs.Causes.{Spent, Because}
use Rattle.rounds.proofs.Causes.{tries_because}

module _ (need : Entry → ℕ) (f : ℕ) where
  onward_append : (cs ds : List Start) → ((es : List Entry) (room : ℕ) → tries need f (cs ++ ds) es room ≡ onward (tries need f cs es room) (tries need f ds))
      → (t : Turn) → onward t (tries need f (cs ++ ds)) ≡ onward (onward t (tries need f cs)) (tries need f ds)
  onward_append cs ds h (done es room) = h es room
  onward_append cs ds h (full es room) = refl
  onward_append cs ds h (range es room) = refl

  pub tries_append : (cs ds : List Start) (es : List Entry) (room : ℕ) → tries need f (cs ++ ds) es room ≡ onward (tries need f cs es room) (tries need f ds)
  unfolding tries
  tries_append [] ds es room = refl
  tries_append (c ∷ cs) ds es room = onward_append cs ds (tries_append cs ds) (tried need f c.position c.zone es room)

  pub tries_none : (es : List Entry) (room : ℕ) → tries need f [] es room ≡ done es room
  unfolding tries
  tries_none es room = refl

  pub tries_one : (c : Start) (es : List Entry) (room : ℕ) → tries need f (c ∷ []) es room ≡ tried need f c.position c.zone es room
  unfolding tries
  tries_one c es room = go (tried need f c.position c.zone es room)
    where
      go : (t : Turn) → onward t (tries need f []) ≡ t
      go (done fs k) = refl
      go (full fs k) = refl
      go (range fs k) = refl

  -- the entries before are still there
  spent_begins : (es : List Entry) (room : ℕ) (fs : List Entry) (left : ℕ) → Spent need es room fs left → (k : ℕ) → k < length es → (k < length fs) × (entry_at fs k ≡ entry_at es k)
  spent_begins es room fs left s k h =
      (omega (arith, ap length s.1, length-append es s.0), ap (λ xs. entry_at xs k) s.1 ∙ get_or_append_left es s.0 no_entry k h)

  pub tries_begins : (cs : List Start) (es : List Entry) (room : ℕ) (fs : List Entry) (left : ℕ) → done fs left ≡ tries need f cs es room → (k : ℕ) → k < length es → (k < length fs) × (entry_at fs k ≡ entry_at es k)
  tries_begins cs es room fs left q = spent_begins es room fs left (subst (Because need f cs es room) (sym q) (tries_because need f cs es room)).0
