-- Why a round ends as it does.
use Rattle.std.proofs.Common.{◌≡◌, ℕ, zero, suc, ◌+◌, ◌-◌, ◌<◌, false, leb, List, [], ◌∷◌, ◌++◌, length, sym, refl, ap, ◌∙◌, arith}
use Rattle.std.proofs.lemmas.List.{append-nil, append_assoc}
use Rattle.std.proofs.lemmas.Bool.{cond_both, leb-true, leb-false}
use Rattle.zones.specs.declared.codes.Code.{Code}
use Rattle.rounds.specs.Codes.{Remains}
use Rattle.rounds.specs.Codes.Remains.{kept, empty, beyond}
use Rattle.rounds.specs.Rounds.{Entry, Start, starts, Turn, onward, covering, put, offer, tried, tries, round}
use Rattle.rounds.specs.Rounds.Turn.{done, full, range}
use Rattle.rounds.specs.Causes.{needs, Spent, start_at, OutOfRange, Because, RoundsCaused}

module _ (need : Entry → ℕ) (f : ℕ) where
  needs_append : (gs hs : List Entry) → needs need (gs ++ hs) ≡ needs need gs + needs need hs
  needs_append [] hs = omega arith
  needs_append (e ∷ gs) hs = omega (arith, needs_append gs hs)

  spent_none : (es : List Entry) (room : ℕ) → Spent need es room es room
  spent_none es room = ([], sym (append-nil es), omega arith)

  spent_more : (es fs gs : List Entry) (room left last : ℕ) → Spent need es room fs left → Spent need fs left gs last → Spent need es room gs last
  spent_more es fs gs room left last a b =
      (a.0 ++ b.0, b.1 ∙ ap (λ x. x ++ b.0) a.1 ∙ append_assoc es a.0 b.0, omega (arith, a.2, b.2, needs_append a.0 b.0))

  -- one start
  abbrev OfOne : ℕ → Remains → List Entry → ℕ → Turn → Type 0
  OfOne p o es room (done fs left) = Spent need es room fs left × (o ≡ beyond → ⊥)
  OfOne p o es room (full fs left) = Spent need es room fs left × ((z : List Code) × (o ≡ kept z) × (covering fs p z ≡ false) × (left < need (record { position = p; round = f; zone = z })))
  OfOne p o es room (range fs left) = Spent need es room fs left × (o ≡ beyond)

  kept_beyond : (z : List Code) → ◌≡◌ {A = Remains} (kept z) beyond → ⊥
  kept_beyond z q = let x : ◌≡◌ {A = ℕ} 0 1 = cc in omega arith

  empty_beyond : ◌≡◌ {A = Remains} empty beyond → ⊥
  empty_beyond q = let x : ◌≡◌ {A = ℕ} 0 1 = cc in omega arith

  put_one : (p : ℕ) (z : List Code) (es : List Entry) (room : ℕ) → covering es p z ≡ false → OfOne p (kept z) es room (put need es room (record { position = p; round = f; zone = z }))
  unfolding put
  put_one p z es room c =
      let e : Entry = record { position = p; round = f; zone = z } in
      cond_both (leb (need e) room) (done (es ++ (e ∷ [])) (room - need e)) (full es room) (OfOne p (kept z) es room)
      (λ t. let l = leb-true (need e) room t in ((e ∷ [], refl, omega arith), kept_beyond z))
      (λ t. (spent_none es room, (z, refl, c, leb-false (need e) room t)))

  tried_one : (p : ℕ) (o : Remains) (es : List Entry) (room : ℕ) → OfOne p o es room (tried need f p o es room)
  unfolding tried offer
  tried_one p (kept z) es room =
      cond_both (covering es p z) (done es room) (put need es room (record { position = p; round = f; zone = z })) (OfOne p (kept z) es room)
      (λ _. (spent_none es room, kept_beyond z))
      (λ c. put_one p z es room c)
  tried_one p empty es room = (spent_none es room, empty_beyond)
  tried_one p beyond es room = (spent_none es room, refl)

  range_more : (c : Start) (cs : List Start) → (c.zone ≡ beyond → ⊥) → (OutOfRange cs → ⊥) → OutOfRange (c ∷ cs) → ⊥
  range_more c cs a b r = go r.0 r.1 r.2
    where
      go : (k : ℕ) → k < length (c ∷ cs) → (start_at (c ∷ cs) k).zone ≡ beyond → ⊥
      go zero l q = a q
      go (suc k) l q = b (k, omega arith, q)

  because_more : (c : Start) (cs : List Start) (es fs : List Entry) (room left : ℕ) → Spent need es room fs left → (c.zone ≡ beyond → ⊥) → (t : Turn) → Because need f cs fs left t → Because need f (c ∷ cs) es room t
  because_more c cs es fs room left s n (done gs last) b = (spent_more es fs gs room left last s b.0, range_more c cs n b.1)
  because_more c cs es fs room left s n (full gs last) b = (spent_more es fs gs room left last s b.0, let x = b.1 in (suc x.0, x.1, omega (arith, x.2), x.3, x.4, x.5))
  because_more c cs es fs room left s n (range gs last) b = (spent_more es fs gs room left last s b.0, let x = b.1 in (suc x.0, omega (arith, x.1), x.2))

  because_onward : (c : Start) (cs : List Start) (es : List Entry) (room : ℕ) → ((fs : List Entry) (left : ℕ) → Because need f cs fs left (tries need f cs fs left))
      → (t : Turn) → OfOne c.position c.zone es room t → Because need f (c ∷ cs) es room (onward t (tries need f cs))
  because_onward c cs es room ih (done fs left) b = because_more c cs es fs room left b.0 b.1 (tries need f cs fs left) (ih fs left)
  because_onward c cs es room ih (full fs left) b = (b.0, let x = b.1 in (0, x.0, omega arith, x.1, x.2, x.3))
  because_onward c cs es room ih (range fs left) b = (b.0, (0, omega arith, b.1))

  pub tries_because : (cs : List Start) (es : List Entry) (room : ℕ) → Because need f cs es room (tries need f cs es room)
  unfolding tries
  tries_because [] es room = (spent_none es room, λ r. let l = r.1 in omega arith)
  tries_because (c ∷ cs) es room = because_onward c cs es room (λ fs left. tries_because cs fs left) (tried need f c.position c.zone es room) (tried_one c.position c.zone es room)

pub rounds_caused : RoundsCaused
unfolding round
rounds_caused M need f es room = tries_because need f (starts M f es) es room
