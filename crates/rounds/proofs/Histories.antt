-- The law over runs in words of rounds and of the transcript alone.
use Rattle.std.proofs.Common.{◌≡◌, ℕ, zero, suc, ◌+◌, ◌-◌, ◌<◌, ◌≤◌, true, false, ◌||◌, eqb, ltb, List, [], ◌∷◌, length, get_or, take, sym, refl, ap, ◌∙◌, subst, inl, inr, ⊎_elim, add-zero, add_assoc, zero-add, add-one, arith}
use Rattle.std.proofs.lemmas.Bool.{cond_both, cond-true, cond-false, eqb-true, eqb-false, eq-eqb, ne_eqb, lt-ltb, ltb-true, and_from, and_parts, or_left, or_right, or_from, cases_Bool}
use Rattle.zones.specs.States.{value_of}
use Rattle.bounds.specs.declared.refusal.Refusal.{Refusal}
use Rattle.bounds.specs.declared.refusal.Refusal.TheVariants as refusal
use Rattle.plans.specs.Meaning.{PlanMeaning}
use Rattle.rounds.specs.Rounds.{Entry, entry_at, Turn, entries_of, onward, round}
use Rattle.rounds.specs.Rounds.Turn.{done, full, range}
use Rattle.rounds.specs.Stands.{Stands}
use Rattle.rounds.specs.declared.replies.Phase.{Phase}
use Rattle.rounds.specs.declared.replies.Phase.TheVariants.{Open, Closed, Stopped, Unfit}
use Rattle.rounds.specs.declared.replies.Answer.{Answer}
use Rattle.rounds.specs.declared.replies.Answer.TheVariants.{Distance as told-distance, NoRoute, Untold}
use Rattle.rounds.specs.Searches.{Search, Call, Reply, Step, ended, happens, step, asked, listing, set_up, replies, more, widens, Says, EndsWell, EndsFull, EndsRange, next_round, By, Replied}
use Rattle.rounds.specs.Searches.Call.{widen, ask, list}
use Rattle.rounds.specs.Searches.Reply.{widened, told, listed, refused}
use Rattle.rounds.specs.Histories.{rounds_from, held_after, ClosedAfter, closed_after, holding, lost, losses, Told, Due}
use Rattle.rounds.specs.Theorems.{RoundKept, AnswersSay, HistoriesDue}
use Rattle.rounds.proofs.Runs.{step_fine, fresh_stands}

-- a refusal, and what holds where it comes
by_map : (A B C D E A' B' C' D' E' : Type 0) → (A → A') → (B → B') → (C → C') → (D → D') → (E → E') → (e : Refusal) → By A B C D E e → By A' B' C' D' E' e
by_map A B C D E A' B' C' D' E' a b c d e refusal.Line h = h
by_map A B C D E A' B' C' D' E' a b c d e refusal.Order h = h
by_map A B C D E A' B' C' D' E' a b c d e refusal.Number h = h
by_map A B C D E A' B' C' D' E' a b c d e refusal.Name h = h
by_map A B C D E A' B' C' D' E' a b c d e refusal.Chance h = h
by_map A B C D E A' B' C' D' E' a b c d e refusal.Rows h = h
by_map A B C D E A' B' C' D' E' a b c d e refusal.Clocks h = h
by_map A B C D E A' B' C' D' E' a b c d e refusal.State h = a h
by_map A B C D E A' B' C' D' E' a b c d e refusal.Full h = b h
by_map A B C D E A' B' C' D' E' a b c d e refusal.Range h = c h
by_map A B C D E A' B' C' D' E' a b c d e refusal.Phase h = d h
by_map A B C D E A' B' C' D' E' a b c d e refusal.Entry h = e h
by_map A B C D E A' B' C' D' E' a b c d e refusal.Buffer h = h

module _ (M : PlanMeaning) (need : Entry → ℕ) (room : ℕ) where
  rounds_next : (f : ℕ) → rounds_from M need room (f + 1) ≡ onward (rounds_from M need room f) (round M need f)
  unfolding rounds_from
  rounds_next f = ap (rounds_from M need room) (add-one f)

  -- where a search stands in its history
  abbrev Tracks : Phase → List Entry → ℕ → ℕ → ℕ → Type 0
  Tracks Open es left f b = (b ≡ 0) × (rounds_from M need room f ≡ done es left) × (ClosedAfter M need room f → ⊥)
  Tracks Closed es left f b = ClosedAfter M need room f × (held_after M need room f ≡ es)
  Tracks Stopped es left f b = (0 < b) × (ClosedAfter M need room f → ⊥) × (held_after M need room (f + 1) ≡ es)
  Tracks Unfit es left f b = ⊥

  -- what it holds is what the history says
  shut_yes : (f : ℕ) → ClosedAfter M need room f → closed_after M need room f ≡ true
  shut_yes f c = and_from (ltb 0 f) (eqb (length (held_after M need room f)) (length (held_after M need room (f - 1)))) (lt-ltb 0 f c.0) (eq-eqb (length (held_after M need room f)) (length (held_after M need room (f - 1))) c.1)

  shut_no : (f : ℕ) → (ClosedAfter M need room f → ⊥) → closed_after M need room f ≡ false
  shut_no f n = ⊎_elim {C = closed_after M need room f ≡ false}
      (λ e. absurd (n (let a = and_parts (ltb 0 f) (eqb (length (held_after M need room f)) (length (held_after M need room (f - 1)))) e in
      (ltb-true 0 f a.0, eqb-true (length (held_after M need room f)) (length (held_after M need room (f - 1))) a.1))))
      (λ e. e)
      (cases_Bool (closed_after M need room f))

  holds_now : (ph : Phase) (es : List Entry) (left f b : ℕ) → Tracks ph es left f b → holding M need room f b ≡ es
  holds_now Open es left f b k =
      cond-true (eqb b 0 || closed_after M need room f) (held_after M need room f) (held_after M need room (f + 1)) (or_left (eqb b 0) (closed_after M need room f) (eq-eqb b 0 k.0))
      ∙ ap entries_of k.1
  holds_now Closed es left f b k =
      cond-true (eqb b 0 || closed_after M need room f) (held_after M need room f) (held_after M need room (f + 1)) (or_right (eqb b 0) (closed_after M need room f) (shut_yes f k.0))
      ∙ k.1
  holds_now Stopped es left f b k =
      cond-false (eqb b 0 || closed_after M need room f) (held_after M need room f) (held_after M need room (f + 1))
      (or_from (eqb b 0) (closed_after M need room f) (ne_eqb b 0 (λ e. let h = k.0 in omega arith)) (shut_no f k.1))
      ∙ k.2
  holds_now Unfit es left f b k = absurd k

  round_is : (f : ℕ) (es : List Entry) (left : ℕ) → rounds_from M need room f ≡ done es left → rounds_from M need room (f + 1) ≡ round M need f es left
  round_is f es left q = rounds_next f ∙ ap (λ t. onward t (round M need f)) q

  last_put : (f : ℕ) (es fs : List Entry) (left last : ℕ) → rounds_from M need room f ≡ done es left → rounds_from M need room (f + 1) ≡ done fs last
      → (length fs ≡ length es → ClosedAfter M need room (f + 1)) × (ClosedAfter M need room (f + 1) → length fs ≡ length es)
  last_put f es fs left last q r =
      let a : length (entries_of (rounds_from M need room (f + 1))) ≡ length fs = ap (λ t. length (entries_of t)) r in
      let i : f + 1 - 1 ≡ f = omega arith in
      let b : length (entries_of (rounds_from M need room (f + 1 - 1))) ≡ length es = ap (λ n. length (entries_of (rounds_from M need room n))) i ∙ ap (λ t. length (entries_of t)) q in
      (λ e. (omega arith, a ∙ e ∙ sym b), λ c. sym a ∙ c.1 ∙ b)

  -- one call
  pub record GoesOn (c : Call) (f b : ℕ) (t : Step) : Type 0 where
    pub due : Due M need room f b c t.reply
    pub tracks : Tracks t.next.phase t.next.entries t.next.room t.next.rounds (b + lost c t.reply)

  widen_goes : (f b : ℕ) (es : List Entry) (left : ℕ) → Tracks Open es left f b → (t : Turn) → rounds_from M need room (f + 1) ≡ t → GoesOn widen f b (ended f (length es) t)
  widen_goes f b es left k (done fs last) q = record {
    due = ((k.0, k.2), subst EndsWell (sym q) tt, refl);
    tracks = let p = last_put f es fs left last k.1 q in
        cond_both (eqb (length fs) (length es)) Closed Open (λ ph. Tracks ph fs last (f + 1) (b + 0))
        (λ e. (p.0 (eqb-true (length fs) (length es) e), ap entries_of q))
        (λ e. (omega (arith, k.0), q, λ c. eqb-false (length fs) (length es) e (p.1 c)));
  }
  widen_goes f b es left k (full fs last) q = record { due = ((k.0, k.2), subst EndsFull (sym q) tt); tracks = (omega arith, k.2, ap entries_of q) }
  widen_goes f b es left k (range fs last) q = record { due = ((k.0, k.2), subst EndsRange (sym q) tt); tracks = (omega arith, k.2, ap entries_of q) }

  tracks_same : (ph : Phase) (es : List Entry) (left f b : ℕ) → Tracks ph es left f b → Tracks ph es left f (b + 0)
  tracks_same ph es left f b k = subst (Tracks ph es left f) (sym (add-zero b)) k

  said : (ph : Phase) (es : List Entry) (left f b : ℕ) → Tracks ph es left f b → (D p : ℕ) (v : ℕ → ℕ) (a : Answer) → Says M ph f D p v a → Told M need room f D p v a
  said ph es left f b k D p v (told-distance d) s = s
  said ph es left f b k D p v NoRoute s = (let c : Tracks Closed es left f b = subst (λ x. Tracks x es left f b) s.0 k in c.0, s.1)
  said ph es left f b k D p v (Untold g) s = (shut ph k s.0, s.1, s.2)
    where
      shut : (q : Phase) → Tracks q es left f b → (q ≡ Closed → ⊥) → ClosedAfter M need room f → ⊥
      shut Open k n c = k.2 c
      shut Closed k n c = n refl
      shut Stopped k n c = k.1 c
      shut Unfit k n c = k

  module _ (s : Search) (b : ℕ) (k : Tracks s.phase s.entries s.room s.rounds b) where
    not_unfit : s.phase ≡ Unfit → ⊥
    not_unfit e = subst (λ x. Tracks x s.entries s.room s.rounds b) e k

    asked_due : (D p : ℕ) (rs : List ℕ) (r : Reply) → Replied M need s s.rounds (ask D p rs) r → Due M need room s.rounds b (ask D p rs) r
    asked_due D p rs (widened n) l = l
    asked_due D p rs (told a) l = (l.1, said s.phase s.entries s.room s.rounds b k D p (value_of rs) a l.2)
    asked_due D p rs (listed e) l = l
    asked_due D p rs (refused e) l = by_map _ _ _ _ _ _ _ _ _ _ (λ x. x.1) (λ x. x) (λ x. x) not_unfit (λ x. x) e l

    here : s.entries ≡ holding M need room s.rounds b
    here = sym (holds_now s.phase s.entries s.room s.rounds b k)

    listed_due : (j : ℕ) (r : Reply) → Replied M need s s.rounds (list j) r → Due M need room s.rounds b (list j) r
    listed_due j (widened n) l = l
    listed_due j (told a) l = l
    listed_due j (listed e) l = (l.1, subst (λ es. j ≤ length es) here l.2, subst (λ es. e ≡ entry_at es (j - 1)) here l.3)
    listed_due j (refused e) l = by_map _ _ _ _ _ _ _ _ _ _ (λ x. x) (λ x. x) (λ x. x) not_unfit (λ x h. subst (λ es. length es < j) here (x.1 h)) e l

    ask_goes : (D p : ℕ) (rs : List ℕ) → Replied M need s s.rounds (ask D p rs) (asked M s D p rs) → GoesOn (ask D p rs) s.rounds b (record { reply = asked M s D p rs; next = s })
    ask_goes D p rs l = record { due = asked_due D p rs (asked M s D p rs) l; tracks = tracks_same s.phase s.entries s.room s.rounds b k }

    list_goes : (j : ℕ) → Replied M need s s.rounds (list j) (listing s.entries j) → GoesOn (list j) s.rounds b (record { reply = listing s.entries j; next = s })
    list_goes j l = record { due = listed_due j (listing s.entries j) l; tracks = tracks_same s.phase s.entries s.room s.rounds b k }

  happens_goes : (s : Search) (ph : Phase) → s.phase ≡ ph → (b : ℕ) → Tracks ph s.entries s.room s.rounds b → (c : Call) → Replied M need s s.rounds c (happens M need ph s c).reply → GoesOn c s.rounds b (happens M need ph s c)
  happens_goes s Unfit q b k c l = absurd k
  happens_goes s Open q b k widen l = widen_goes s.rounds b s.entries s.room k (next_round M need s) (round_is s.rounds s.entries s.room k.1)
  happens_goes s Open q b k (ask D p rs) l = ask_goes s b (subst (λ x. Tracks x s.entries s.room s.rounds b) (sym q) k) D p rs l
  happens_goes s Open q b k (list j) l = list_goes s b (subst (λ x. Tracks x s.entries s.room s.rounds b) (sym q) k) j l
  happens_goes s Closed q b k widen l = record { due = inr k.0; tracks = subst (λ x. Tracks x s.entries s.room s.rounds (b + 1)) (sym q) k }
  happens_goes s Closed q b k (ask D p rs) l = ask_goes s b (subst (λ x. Tracks x s.entries s.room s.rounds b) (sym q) k) D p rs l
  happens_goes s Closed q b k (list j) l = list_goes s b (subst (λ x. Tracks x s.entries s.room s.rounds b) (sym q) k) j l
  happens_goes s Stopped q b k widen l = record { due = inl k.0; tracks = subst (λ x. Tracks x s.entries s.room s.rounds (b + 1)) (sym q) (omega (arith, k.0), k.1, k.2) }
  happens_goes s Stopped q b k (ask D p rs) l = ask_goes s b (subst (λ x. Tracks x s.entries s.room s.rounds b) (sym q) k) D p rs l
  happens_goes s Stopped q b k (list j) l = list_goes s b (subst (λ x. Tracks x s.entries s.room s.rounds b) (sym q) k) j l

  step_goes : (s : Search) (b : ℕ) → Tracks s.phase s.entries s.room s.rounds b → (c : Call) → Replied M need s s.rounds c (step M need s c).reply → GoesOn c s.rounds b (step M need s c)
  unfolding step
  step_goes s b k c l = happens_goes s s.phase refl b k c l

  module _ (keeps : RoundKept M need) (say : AnswersSay M need) where
    due_from : (cs : List Call) (s : Search) (b : ℕ) → Stands M s.entries s.rounds s.phase → Tracks s.phase s.entries s.room s.rounds b → (i : ℕ) → i < length cs
        → Due M need room (s.rounds + widens (take i (replies M need s cs))) (b + losses (take i cs) (take i (replies M need s cs))) (get_or cs i widen) (get_or (replies M need s cs) i (refused refusal.Phase))
    unfolding replies
    due_from [] s b w k i l = absurd (omega arith)
    due_from (c ∷ cs) s b w k zero l =
        let g = step_goes s b k c (step_fine M need keeps say s w c).lawful in
        subst (λ f. Due M need room f (b + 0) c (step M need s c).reply) (sym (add-zero s.rounds))
        (subst (λ x. Due M need room s.rounds x c (step M need s c).reply) (sym (add-zero b)) g.due)
    due_from (c ∷ cs) s b w k (suc i) l =
        let t = step M need s c in
        let fine = step_fine M need keeps say s w c in
        let g = step_goes s b k c fine.lawful in
        let rs = replies M need t.next cs in
        let x = widens (take i rs) in
        let y = losses (take i cs) (take i rs) in
        subst (λ f. Due M need room f (b + (lost c t.reply + y)) (get_or cs i widen) (get_or rs i (refused refusal.Phase)))
        (ap (λ n. n + x) fine.rounds ∙ add_assoc s.rounds (more t.reply) x)
        (subst (λ z. Due M need room (t.next.rounds + x) z (get_or cs i widen) (get_or rs i (refused refusal.Phase)))
        (add_assoc b (lost c t.reply) y)
        (due_from cs t.next (b + lost c t.reply) fine.stands g.tracks i (omega arith)))

fresh_tracks : (M : PlanMeaning) (need : Entry → ℕ) (room : ℕ) → rounds_from M need room 0 ≡ done [] room
unfolding rounds_from
fresh_tracks M need room = refl

pub histories_due : (M : PlanMeaning) (need : Entry → ℕ) → RoundKept M need → AnswersSay M need → HistoriesDue M need
histories_due M need keeps say room cs i l =
    let s = set_up true [] room in
    let rs = replies M need s cs in
    subst (λ f. Due M need room f (losses (take i cs) (take i rs)) (get_or cs i widen) (get_or rs i (refused refusal.Phase))) (zero-add (widens (take i rs)))
    (subst (λ b. Due M need room (0 + widens (take i rs)) b (get_or cs i widen) (get_or rs i (refused refusal.Phase))) (zero-add (losses (take i cs) (take i rs)))
    (due_from M need room keeps say cs s 0 (fresh_stands M need keeps say true [] room) (refl, fresh_tracks M need room, λ c. let h = c.0 in omega arith) i l))
