-- The law over runs.
use Rattle.std.proofs.Common.{◌≡◌, ℕ, zero, suc, ◌+◌, ◌-◌, ◌<◌, Bool, true, ◌&&◌, eqb, leb, List, [], ◌∷◌, length, get_or, take, sym, refl, ap, ◌∙◌, subst, ⊎_elim, add-zero, add_assoc, zero-add, arith}
use Rattle.std.proofs.lemmas.Bool.{cond_both, eqb-true, leb-true, leb-false, and_parts, and_cases, both_ways, and_from, le-leb, eq-eqb}
use Rattle.zones.specs.States.{value_of}
use Rattle.bounds.specs.declared.refusal.Refusal.TheVariants as refusal
use Rattle.plans.specs.Meaning.{PlanMeaning}
use Rattle.rounds.specs.Codes.{every}
use Rattle.rounds.specs.Rounds.{Entry, entry_at, Turn}
use Rattle.rounds.specs.Rounds.Turn.{done, full, range}
use Rattle.rounds.specs.Stands.{Stands}
use Rattle.rounds.specs.declared.replies.Phase.{Phase}
use Rattle.rounds.specs.declared.replies.Phase.TheVariants.{Open, Closed, Stopped, Unfit}
use Rattle.rounds.specs.Searches.{Search, Call, Step, ended, find, answer, Askable, askable, asked, listing, happens, step, set_up, replies, left_by, more, widens, EndsWell, EndsFull, EndsRange, next_round, Replied}
use Rattle.rounds.specs.Searches.Call.{widen, ask, list}
use Rattle.rounds.specs.Searches.Reply.{told, listed, refused}
use Rattle.rounds.specs.Theorems.{Rounded, RoundKept, AnswersSay, RunsLawful}
use Rattle.rounds.proofs.Places.{every_at, every_from}

pub askable_yes : (M : PlanMeaning) (D p : ℕ) (rs : List ℕ) → askable M D p rs ≡ true → Askable M D p rs
unfolding askable
askable_yes M D p rs e =
    let a = and_parts (leb 1 p && leb p (length M.positions)) _ e in
    let b = and_parts (leb 1 p) (leb p (length M.positions)) a.0 in
    let c = and_parts (eqb (length rs) M.clocks) _ a.1 in
    let d = and_parts (leb 1 D && leb D 1000) _ c.1 in
    let f = and_parts (leb 1 D) (leb D 1000) d.0 in
    let g = and_parts (M.allows D) (every (length rs) (λ k. leb (get_or rs k 0) 1000000000)) d.1 in
    record {
      first = leb-true 1 p b.0;
      last = leb-true p (length M.positions) b.1;
      count = eqb-true (length rs) M.clocks c.0;
      scale = leb-true 1 D f.0;
      most = leb-true D 1000 f.1;
      allowed = g.0;
      small = λ k h. leb-true (get_or rs k 0) 1000000000 (every_at (length rs) (λ i. leb (get_or rs i 0) 1000000000) g.1 k h);
    }

pub yes_askable : (M : PlanMeaning) (D p : ℕ) (rs : List ℕ) → Askable M D p rs → askable M D p rs ≡ true
unfolding askable
yes_askable M D p rs a =
    and_from _ _ (and_from _ _ (le-leb 1 p a.first) (le-leb p (length M.positions) a.last))
    (and_from _ _ (eq-eqb (length rs) M.clocks a.count)
    (and_from _ _ (and_from _ _ (le-leb 1 D a.scale) (le-leb D 1000 a.most))
    (and_from _ _ a.allowed (every_from (length rs) (λ k. leb (get_or rs k 0) 1000000000) (λ k h. le-leb (get_or rs k 0) 1000000000 (a.small k h))))))

module _ (M : PlanMeaning) (need : Entry → ℕ) (kept : RoundKept M need) (say : AnswersSay M need) where
  ended_lawful : (s : Search) → s.phase ≡ Open → (t : Turn) → t ≡ next_round M need s → Replied M need s s.rounds widen (ended s.rounds (length s.entries) t).reply
  ended_lawful s o (done fs room) q = (o, subst EndsWell q tt, refl)
  ended_lawful s o (full fs room) q = (o, subst EndsFull q tt)
  ended_lawful s o (range fs room) q = (o, subst EndsRange q tt)

  ended_stands : (f n : ℕ) (t : Turn) → Rounded M f n t → Stands M (ended f n t).next.entries (ended f n t).next.rounds (ended f n t).next.phase
  ended_stands f n (done fs room) r = r
  ended_stands f n (full fs room) r = r
  ended_stands f n (range fs room) r = r

  ended_rounds : (f n : ℕ) (t : Turn) → (ended f n t).next.rounds ≡ f + more (ended f n t).reply
  ended_rounds f n (done fs room) = refl
  ended_rounds f n (full fs room) = sym (add-zero f)
  ended_rounds f n (range fs room) = sym (add-zero f)

  asked_lawful : (s : Search) → (s.phase ≡ Unfit → ⊥) → Stands M s.entries s.rounds s.phase → (D p : ℕ) (rs : List ℕ) → Replied M need s s.rounds (ask D p rs) (asked M s D p rs)
  asked_lawful s n w D p rs =
      cond_both (askable M D p rs) (told (answer s.phase s.rounds (find s.entries D p (value_of rs)))) (refused refusal.State) (Replied M need s s.rounds (ask D p rs))
      (λ t. let a = askable_yes M D p rs t in (n, a, say s.entries s.rounds s.phase n w D p (value_of rs) (a.scale, a.allowed)))
      (λ t. (n, λ a. both_ways (askable M D p rs) t (yes_askable M D p rs a)))

  asked_rounds : (s : Search) (D p : ℕ) (rs : List ℕ) → s.rounds ≡ s.rounds + more (asked M s D p rs)
  asked_rounds s D p rs = cond_both (askable M D p rs) (told (answer s.phase s.rounds (find s.entries D p (value_of rs)))) (refused refusal.State) (λ r. s.rounds ≡ s.rounds + more r)
      (λ _. sym (add-zero s.rounds)) (λ _. sym (add-zero s.rounds))

  listing_lawful : (s : Search) → (s.phase ≡ Unfit → ⊥) → (k : ℕ) → Replied M need s s.rounds (list k) (listing s.entries k)
  listing_lawful s n k =
      cond_both (leb 1 k && leb k (length s.entries)) (listed (entry_at s.entries (k - 1))) (refused refusal.Entry) (Replied M need s s.rounds (list k))
      (λ t. let a = and_parts (leb 1 k) (leb k (length s.entries)) t in (n, leb-true 1 k a.0, leb-true k (length s.entries) a.1, refl))
      (λ t. (n, λ h. ⊎_elim {C = length s.entries < k} (λ a. absurd (let l = leb-false 1 k a in omega arith)) (λ a. leb-false k (length s.entries) a) (and_cases (leb 1 k) (leb k (length s.entries)) t)))

  listing_rounds : (s : Search) (k : ℕ) → s.rounds ≡ s.rounds + more (listing s.entries k)
  listing_rounds s k = cond_both (leb 1 k && leb k (length s.entries)) (listed (entry_at s.entries (k - 1))) (refused refusal.Entry) (λ r. s.rounds ≡ s.rounds + more r)
      (λ _. sym (add-zero s.rounds)) (λ _. sym (add-zero s.rounds))

  pub Sane : Search → Type 0
  Sane s = Stands M s.entries s.rounds s.phase

  -- one call
  pub record Fine (s : Search) (c : Call) (t : Step) : Type 0 where
    pub lawful : Replied M need s s.rounds c t.reply
    pub stands : Stands M t.next.entries t.next.rounds t.next.phase
    pub rounds : t.next.rounds ≡ s.rounds + more t.reply

  differ : (s : Search) (a : Phase) → s.phase ≡ a → (a ≡ Unfit → ⊥) → s.phase ≡ Unfit → ⊥
  differ s a q n e = n (sym q ∙ e)

  open_unfit : Open ≡ Unfit → ⊥
  open_unfit q = let z : ◌≡◌ {A = ℕ} 0 1 = cc in omega arith

  closed_unfit : Closed ≡ Unfit → ⊥
  closed_unfit q = let z : ◌≡◌ {A = ℕ} 0 1 = cc in omega arith

  stopped_unfit : Stopped ≡ Unfit → ⊥
  stopped_unfit q = let z : ◌≡◌ {A = ℕ} 0 1 = cc in omega arith

  closed_open : Closed ≡ Open → ⊥
  closed_open q = let z : ◌≡◌ {A = ℕ} 0 1 = cc in omega arith

  stopped_open : Stopped ≡ Open → ⊥
  stopped_open q = let z : ◌≡◌ {A = ℕ} 0 1 = cc in omega arith

  unfit_open : Unfit ≡ Open → ⊥
  unfit_open q = let z : ◌≡◌ {A = ℕ} 0 1 = cc in omega arith

  ask_fine : (s : Search) → (s.phase ≡ Unfit → ⊥) → Stands M s.entries s.rounds s.phase → (D p : ℕ) (rs : List ℕ) → Fine s (ask D p rs) (record { reply = asked M s D p rs; next = s })
  ask_fine s n w D p rs = record { lawful = asked_lawful s n w D p rs; stands = w; rounds = asked_rounds s D p rs }

  list_fine : (s : Search) → (s.phase ≡ Unfit → ⊥) → Stands M s.entries s.rounds s.phase → (k : ℕ) → Fine s (list k) (record { reply = listing s.entries k; next = s })
  list_fine s n w k = record { lawful = listing_lawful s n k; stands = w; rounds = listing_rounds s k }

  no_widen : (s : Search) → (s.phase ≡ Open → ⊥) → Stands M s.entries s.rounds s.phase → Fine s widen (record { reply = refused refusal.Phase; next = s })
  no_widen s n w = record { lawful = n; stands = w; rounds = sym (add-zero s.rounds) }

  unfit_fine : (s : Search) → s.phase ≡ Unfit → Stands M s.entries s.rounds s.phase → (c : Call) → Fine s c (record { reply = refused refusal.Phase; next = s })
  unfit_fine s q w widen = no_widen s (λ e. unfit_open (sym q ∙ e)) w
  unfit_fine s q w (ask D p rs) = record { lawful = q; stands = w; rounds = sym (add-zero s.rounds) }
  unfit_fine s q w (list k) = record { lawful = q; stands = w; rounds = sym (add-zero s.rounds) }

  happens_fine : (s : Search) (ph : Phase) → s.phase ≡ ph → Stands M s.entries s.rounds s.phase → (c : Call) → Fine s c (happens M need ph s c)
  happens_fine s Unfit q w c = unfit_fine s q w c
  happens_fine s Open q w widen = record {
    lawful = ended_lawful s q (next_round M need s) refl;
    stands = ended_stands s.rounds (length s.entries) (next_round M need s) (kept s.entries s.room s.rounds (subst (Stands M s.entries s.rounds) q w));
    rounds = ended_rounds s.rounds (length s.entries) (next_round M need s);
  }
  happens_fine s Open q w (ask D p rs) = ask_fine s (differ s Open q open_unfit) w D p rs
  happens_fine s Open q w (list k) = list_fine s (differ s Open q open_unfit) w k
  happens_fine s Closed q w widen = no_widen s (λ e. closed_open (sym q ∙ e)) w
  happens_fine s Closed q w (ask D p rs) = ask_fine s (differ s Closed q closed_unfit) w D p rs
  happens_fine s Closed q w (list k) = list_fine s (differ s Closed q closed_unfit) w k
  happens_fine s Stopped q w widen = no_widen s (λ e. stopped_open (sym q ∙ e)) w
  happens_fine s Stopped q w (ask D p rs) = ask_fine s (differ s Stopped q stopped_unfit) w D p rs
  happens_fine s Stopped q w (list k) = list_fine s (differ s Stopped q stopped_unfit) w k

  pub step_fine : (s : Search) → Stands M s.entries s.rounds s.phase → (c : Call) → Fine s c (step M need s c)
  unfolding step
  step_fine s w c = happens_fine s s.phase refl w c

  -- any list of calls
  law_from : (cs : List Call) (s : Search) → Stands M s.entries s.rounds s.phase → (i : ℕ) → i < length cs
      → Replied M need (left_by M need s (take i cs)) (s.rounds + widens (take i (replies M need s cs))) (get_or cs i widen) (get_or (replies M need s cs) i (refused refusal.Phase))
  unfolding replies left_by
  law_from [] s w i l = absurd (omega arith)
  law_from (c ∷ cs) s w zero l =
      subst (λ f. Replied M need s f c (step M need s c).reply) (sym (add-zero s.rounds)) (step_fine s w c).lawful
  law_from (c ∷ cs) s w (suc i) l =
      let t = step M need s c in
      let x = widens (take i (replies M need t.next cs)) in
      subst (λ f. Replied M need (left_by M need t.next (take i cs)) f (get_or cs i widen) (get_or (replies M need t.next cs) i (refused refusal.Phase)))
      (ap (λ n. n + x) (step_fine s w c).rounds ∙ add_assoc s.rounds (more t.reply) x)
      (law_from cs t.next (step_fine s w c).stands i (omega arith))

  pub fresh_stands : (same : Bool) (es : List Entry) (room : ℕ) → Stands M es 0 (set_up same es room).phase
  fresh_stands same es room =
      cond_both (same && eqb (length es) 0) Open Unfit (Stands M es 0)
      (λ t. let z : length es ≡ 0 = eqb-true (length es) 0 (and_parts same (eqb (length es) 0) t).1 in (
        record {
          good = record { fits = λ k h. absurd (omega arith); real = λ k h. absurd (omega arith); ordered = λ i j a h. absurd (omega arith); at_most = λ k h. absurd (omega arith) };
          based = λ h. absurd (omega arith);
          stepped = λ k h. absurd (omega arith);
        },
        λ k h. absurd (omega arith),
      ))
      (λ _. tt)

  pub runs_lawful : RunsLawful M need
  runs_lawful same es room cs i l =
      subst (λ f. Replied M need (left_by M need (set_up same es room) (take i cs)) f (get_or cs i widen) (get_or (replies M need (set_up same es room) cs) i (refused refusal.Phase)))
      (zero-add (widens (take i (replies M need (set_up same es room) cs))))
      (law_from cs (set_up same es room) (fresh_stands same es room) i l)
