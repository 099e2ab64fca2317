-- A cut, and a cut by a box, as functions on codes, say what the calls of a zone say
use Rattle.std.proofs.Common.{◌≡◌, ℕ, zero, suc, ◌+◌, ◌*◌, ◌/◌, ◌%◌, ◌<◌, ◌≤◌, Bool, cond, eqb, ltb, List, Ok, Err, Result, sym, refl, ◌∙◌, subst, ⊎_elim, add-one, arith}
use borrow.Author.Differences.{ints}
use Rattle.std.proofs.lemmas.Bool.{cond_both, ltb-true, ltb-false, cases_lt}
use Rattle.bounds.specs.declared.refusal.Refusal.{Refusal}
use Rattle.bounds.specs.declared.refusal.Refusal.TheVariants as refused
use Rattle.bounds.specs.Bounds.{UpperBound, none, upto}
use Rattle.bounds.specs.Sums.{bound_of}
use Rattle.bounds.proofs.ScaleLaws.{ScaleLaws}
use Rattle.zones.specs.declared.zone.Cut.{Cut}
use Rattle.zones.specs.declared.zone.Cut.TheVariants as cut
use Rattle.zones.specs.declared.codes.Code.{Code}
use Rattle.zones.specs.declared.boxes.Side.{Side}
use Rattle.zones.specs.Codes.{code_of, code_plus, code_cut, at, Near, Sound}
use Rattle.zones.specs.Cuts.{OfDomain, Beyond, Fit, CutSays}
use Rattle.zones.specs.Boxes.{Ordinary, Plain, side_of, turned, row_of, column_of, box_bound, Boxed, SomeTo, NoneTo, BoxSays, BoxKept, BoxEmpty, BoxOver}
use Rattle.zones.proofs.CutFacts.{cut_empties, cut_overs, cut_sound, cut_keeps}
use Rattle.zones.proofs.BoxFacts.{row_9, column_9, box_start, box_more, box_empty, box_refused, box_done, box_upto}
use Rattle.zones.proofs.Whole.{a_state}
use Rattle.rounds.specs.Codes.{Remains, then, every, codes_to, in_reach, coded, cut_code, cut_zone, box_steps, cut_box}
use Rattle.rounds.specs.Codes.Remains.{kept, empty, beyond}
use Rattle.rounds.specs.Answers.{answered, left, ZoneCodes, Valid}
use Rattle.rounds.proofs.Places.{every_at, every_not, code_to, many_codes, in_reach_yes, in_reach_no, coded_is, same_zone}

module _ {allows : ℕ → Bool} {normal : UpperBound → UpperBound} (K : ScaleLaws allows normal) where
  -- what a cut says, and that what is kept is a zone
  abbrev pub CutFine : ℕ → ℕ → UpperBound → List Code → Remains → Type 0
  CutFine i j b xs o = CutSays allows normal i j b xs (left xs o) (answered o) × Valid o

  pub cut_fine : (xs : List Code) → Sound xs → OfDomain normal xs → (i j : ℕ) → i < 9 → j < 9 → (b : UpperBound) → (Beyond b → ⊥)
      → CutFine i j b xs (cut_zone normal i j b xs)
  unfolding cut_code
  cut_fine xs s keeps i j hi hj b n =
      let c = coded (normal b) in
      let fit : Fit normal i j b xs = record { row = hi; column = hj; number = n; of_domain = keeps } in
      let code = coded_is K b n in
      cond_both (ltb (code_plus (code_of xs (9 * j + i)) c) 33554433) empty (cond (every 81 (λ p. in_reach (code_cut xs i j c p))) (kept (codes_to 81 (code_cut xs i j c))) beyond) (CutFine i j b xs)
      (λ e. (cut_empties K xs s i j b fit c code (ltb-true _ _ e), tt))
      (λ e. let some : 33554433 ≤ code_plus (code_of xs (9 * j + i)) c = ltb-false _ _ e in
      cond_both (every 81 (λ p. in_reach (code_cut xs i j c p))) (kept (codes_to 81 (code_cut xs i j c))) beyond (CutFine i j b xs)
      (λ f. let ys = codes_to 81 (code_cut xs i j c) in
      let is : (p : ℕ) → p < 81 → (code_of (codes_to 81 (code_cut xs i j c)) p ≡ code_cut xs i j c p) × Near 4000000 (code_cut xs i j c p) = λ p h. (code_to 81 (code_cut xs i j c) p h, in_reach_yes _ (every_at 81 (λ q. in_reach (code_cut xs i j c q)) f p h)) in
      (cut_keeps K xs s i j b fit c code some ys is, record { many = many_codes 81 (code_cut xs i j c); sound = cut_sound K xs s i j b fit c code some ys is }))
      (λ f. let q = every_not 81 (λ p. in_reach (code_cut xs i j c p)) f in
      (cut_overs K xs s i j b fit c code some (q.0, q.1, in_reach_no _ q.2), tt)))

-- ---- a cut by a box
ordinary_fits : (l : UpperBound) → Ordinary l → Beyond l → ⊥
unfolding Ordinary Beyond
ordinary_fits none o b = b
ordinary_fits (upto s n) o b = ⊎_elim {C = ⊥} (λ h. omega (arith, ints)) (λ h. omega (arith, ints)) b

turned_fits : (l : UpperBound) → Ordinary l → Beyond (turned l) → ⊥
unfolding Ordinary Beyond turned
turned_fits none o b = b
turned_fits (upto s n) o b = ⊎_elim {C = ⊥} (λ h. omega (arith, ints)) (λ h. omega (arith, ints)) b

pub step_fits : (sides : List Side) → Plain sides → (s : ℕ) → s < 16 → Beyond (box_bound sides s) → ⊥
unfolding box_bound
step_fits sides p s h = cond_both (eqb (s % 2) 1) (bound_of (side_of sides (s / 2)).upper) (turned (bound_of (side_of sides (s / 2)).lower)) (λ l. Beyond l → ⊥)
    (λ _. ordinary_fits _ (p (s / 2) (omega arith)).1)
    (λ _. turned_fits _ (p (s / 2) (omega arith)).0)

module _ {allows : ℕ → Bool} {normal : UpperBound → UpperBound} (K : ScaleLaws allows normal) (sides : List Side) (plain : Plain sides) (xs : List Code) (keeps : OfDomain normal xs) where
  -- after n steps
  Steps : ℕ → Remains → Type 0
  Steps n (kept ys) = Boxed allows normal sides xs ys n × ZoneCodes ys
  Steps n empty = BoxSays allows normal sides xs xs (Ok cut.Empty)
  Steps n beyond = BoxSays allows normal sides xs xs (Err refused.Range)

  next_step : (n : ℕ) → n < 16 → (ys : List Code) → Boxed allows normal sides xs ys n → (o : Remains)
      → CutSays allows normal (row_of n) (column_of n) (box_bound sides n) ys (left ys o) (answered o) × Valid o → Steps (suc n) o
  unfolding Steps
  next_step n h ys b (kept zs) f = (subst (Boxed allows normal sides xs zs) (add-one n) (box_more allows normal sides xs ys n h b zs f.0), f.1)
  next_step n h ys b empty f = box_empty allows normal sides xs ys n h b ys plain keeps f.0
  next_step n h ys b beyond f = box_refused allows normal sides xs ys n h b ys refused.Range plain keeps f.0

  step_on : (n : ℕ) → n < 16 → (o : Remains) → Steps n o → Steps (suc n) (then o (cut_zone normal (row_of n) (column_of n) (box_bound sides n)))
  unfolding Steps
  step_on n h (kept ys) s = next_step n h ys s.0 (cut_zone normal (row_of n) (column_of n) (box_bound sides n) ys)
      (cut_fine K ys s.1.sound s.0.keeps (row_of n) (column_of n) (row_9 n h) (column_9 n h) (box_bound sides n) (step_fits sides plain n h))
  step_on n h empty s = s
  step_on n h beyond s = s

  steps : ZoneCodes xs → (n : ℕ) → n ≤ 16 → Steps n (box_steps normal sides n xs)
  unfolding box_steps Steps
  steps z zero h = (box_start allows normal sides xs keeps, z)
  steps z (suc n) h = step_on n (omega arith) (box_steps normal sides n xs) (steps z n (omega arith))

  BoxFine : Remains → Type 0
  BoxFine o = BoxSays allows normal sides xs (left xs o) (answered o) × Valid o

  all_steps : (o : Remains) → Steps 16 o → BoxFine o
  unfolding Steps BoxFine
  all_steps (kept ys) s = (box_done allows normal sides xs ys plain keeps s.0, s.1)
  all_steps empty s = (s, tt)
  all_steps beyond s = (s, tt)

  pub box_fine : ZoneCodes xs → BoxSays allows normal sides xs (left xs (cut_box normal sides xs)) (answered (cut_box normal sides xs)) × Valid (cut_box normal sides xs)
  unfolding BoxFine
  box_fine z = all_steps (box_steps normal sides 16 xs) (steps z 16 (omega arith))

-- ---- what is said of a cut by a box fits one answer
module _ {allows : ℕ → Bool} {normal : UpperBound → UpperBound} (K : ScaleLaws allows normal) (sides : List Side) (xs : List Code) where
  kept_some : (ys : List Code) → Sound ys → BoxKept allows normal sides xs ys → (n : ℕ) → n ≤ 16 → NoneTo allows sides xs n → ⊥
  kept_some ys s k n h gone =
      let t = a_state K (at ys) s.canon (λ a b ha hb. k.of_domain (9 * a + b) (omega arith)) in
      let D = t.0 in
      let v = t.1.0 in
      let al = t.1.1.1 in
      let r = (k.states D v al).0 t.1.1.2 in
      gone D v al r.0 (λ m l. box_upto sides D v r.1 m (omega arith))

  kept_empty : (ys zs : List Code) → Sound ys → BoxKept allows normal sides xs ys → BoxEmpty allows normal sides xs zs → ⊥
  kept_empty ys zs s k e = kept_some ys s k (suc e.step.0) (omega (arith, e.step.1)) e.step.3

  some_none : (m n : ℕ) → n ≤ m → SomeTo allows sides xs m → NoneTo allows sides xs n → ⊥
  some_none m n h s gone = gone s.0 s.1.0 s.1.1.1 s.1.1.2 (λ k l. s.1.1.3 k (omega arith))

  kept_over : (ys zs : List Code) → BoxKept allows normal sides xs ys → BoxOver allows normal sides xs zs → ⊥
  kept_over ys zs k o = k.in_range o.step.0 o.step.1 o.step.4

  empty_over : (ys zs : List Code) → BoxEmpty allows normal sides xs ys → BoxOver allows normal sides xs zs → ⊥
  empty_over ys zs e o = ⊎_elim {C = ⊥}
      (λ l. e.step.2 o.step.0 l o.step.4)
      (λ l. some_none (suc o.step.0) (suc e.step.0) (omega arith) o.step.3 e.step.3)
      (cases_lt o.step.0 e.step.0)

  Same : Remains → List Code → Result Cut Refusal → Type 0
  Same o ys r = (answered o ≡ r) × (left xs o ≡ ys)

  said_kept : (o : Remains) → BoxSays allows normal sides xs (left xs o) (answered o) × Valid o → (ys : List Code) → ZoneCodes ys → BoxKept allows normal sides xs ys → Same o ys (Ok cut.Kept)
  unfolding Same
  said_kept (kept zs) f ys z k = (refl, same_zone zs ys f.1.sound z.sound f.1.many z.many (λ i j hi hj. f.0.bounds i j hi hj ∙ sym (k.bounds i j hi hj)))
  said_kept empty f ys z k = absurd (kept_empty ys xs z.sound k f.0)
  said_kept beyond f ys z k = absurd (kept_over ys xs k f.0)

  said_empty : (o : Remains) → BoxSays allows normal sides xs (left xs o) (answered o) × Valid o → (ys : List Code) → BoxEmpty allows normal sides xs ys → Same o ys (Ok cut.Empty)
  unfolding Same
  said_empty (kept zs) f ys k = absurd (kept_empty zs ys f.1.sound f.0 k)
  said_empty empty f ys k = (refl, sym k.unchanged)
  said_empty beyond f ys k = absurd (empty_over ys xs k f.0)

  said_over : (o : Remains) → BoxSays allows normal sides xs (left xs o) (answered o) × Valid o → (ys : List Code) → BoxOver allows normal sides xs ys → Same o ys (Err refused.Range)
  unfolding Same
  said_over (kept zs) f ys k = absurd (kept_over zs ys f.0 k)
  said_over empty f ys k = absurd (empty_over xs ys f.0 k)
  said_over beyond f ys k = (refl, sym k.unchanged)

  said : (o : Remains) → BoxSays allows normal sides xs (left xs o) (answered o) × Valid o → Plain sides → OfDomain normal xs → (ys : List Code) → ZoneCodes ys
      → (r : Result Cut Refusal) → BoxSays allows normal sides xs ys r → Same o ys r
  said o f p d ys z (Ok cut.Kept) k = said_kept o f ys z k
  said o f p d ys z (Ok cut.Empty) k = said_empty o f ys k
  said o f p d ys z (Err refused.Line) k = absurd k
  said o f p d ys z (Err refused.Order) k = absurd k
  said o f p d ys z (Err refused.Number) k = absurd (k.0 (p, d))
  said o f p d ys z (Err refused.Name) k = absurd k
  said o f p d ys z (Err refused.Chance) k = absurd k
  said o f p d ys z (Err refused.Rows) k = absurd k
  said o f p d ys z (Err refused.Clocks) k = absurd k
  said o f p d ys z (Err refused.State) k = absurd k
  said o f p d ys z (Err refused.Full) k = absurd k
  said o f p d ys z (Err refused.Range) k = said_over o f ys k
  said o f p d ys z (Err refused.Phase) k = absurd k
  said o f p d ys z (Err refused.Entry) k = absurd k
  said o f p d ys z (Err refused.Buffer) k = absurd k

  -- so it is what the function on codes gives
  pub box_only : Plain sides → OfDomain normal xs → ZoneCodes xs → (ys : List Code) → ZoneCodes ys → (r : Result Cut Refusal) → BoxSays allows normal sides xs ys r
      → (answered (cut_box normal sides xs) ≡ r) × (left xs (cut_box normal sides xs) ≡ ys)
  unfolding Same
  box_only p d x ys z r k = said (cut_box normal sides xs) (box_fine K sides p xs d x) p d ys z r k
