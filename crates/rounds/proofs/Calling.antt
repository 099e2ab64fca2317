-- `all`, `back`, `undo`, `within` and `holds`, as functions on codes, say what the calls of a zone say
use Rattle.std.proofs.Common.{◌≡◌, ℕ, zero, suc, ◌+◌, ◌*◌, ◌/◌, ◌%◌, ◌<◌, ◌≤◌, Bool, true, false, cond, ◌&&◌, ◌||◌, eqb, ltb, leb, List, length, ℤ, ◌-ℤ◌, Ok, Err, Result, sym, refl, ap, ◌∙◌, subst, ⊎_elim, add-one, arith}
use Rattle.std.proofs.lemmas.Bool.{cond_both, ltb-true, ltb-false, leb-true, leb-false, and_parts, and_cases, cases_Bool, both_ways}
use Rattle.bounds.specs.declared.refusal.Refusal.{Refusal}
use Rattle.bounds.specs.declared.refusal.Refusal.TheVariants as refused
use Rattle.bounds.specs.Bounds.{UpperBound, Meets}
use Rattle.bounds.proofs.ScaleLaws.{ScaleLaws}
use Rattle.bounds.proofs.Apart.{normal_none}
use Rattle.zones.specs.declared.zone.Cut.{Cut}
use Rattle.zones.specs.declared.zone.Cut.TheVariants as cut
use Rattle.zones.specs.declared.codes.Code.{Code}
use Rattle.zones.specs.Codes.{code_of, code_cut, code_all, code_back, code_free, at, decode}
use Rattle.zones.specs.Matrices.{Holds, Readings, all_at, free_at, zero_all, zeroed}
use Rattle.zones.specs.Cuts.{OfDomain}
use Rattle.zones.specs.Resets.{reset, Stuck, Zeroed}
use Rattle.zones.specs.States.{reading}
use Rattle.zones.specs.Calls.{AllSays, BackSays, BackDone, Known, UndoSays, UndoKept, UndoEmpty, HoldsSays, WithinSays, Inside}
use Rattle.zones.proofs.Whole.{a_reading}
use Rattle.zones.proofs.Zero.{zero_start, zero_more, stuck}
use Rattle.zones.proofs.All.{all_sound, all_holds, all_is}
use Rattle.zones.proofs.Codings.{level_code, none_code}
use Rattle.zones.proofs.Outcomes.{back_is, back_sound, back_kept, back_exact, held_same, undo_same, undo_is, undo_sound, undo_kept, undo_exact, within_yes, within_no}
use Rattle.rounds.specs.Codes.{Remains, then, every, codes_to, whole, back_zone, zero_clock, zero_steps, freed, undo_zone, within_zone, meets, holds_zone}
use Rattle.rounds.specs.Codes.Remains.{kept, empty, beyond}
use Rattle.rounds.specs.Answers.{answered, left, ZoneCodes}
use Rattle.rounds.specs.Calls.{Undoes}
use Rattle.rounds.proofs.Unasking.{unasked_same, free_unasked, zero_unasked}
use Rattle.rounds.proofs.Places.{every_at, every_from, every_not, code_to, many_codes, same_zone, meets_yes, yes_meets}

same_test : (a b : Bool) → (a ≡ true → b ≡ true) → (b ≡ true → a ≡ true) → a ≡ b
same_test true b f g = sym (f refl)
same_test false true f g = g refl
same_test false false f g = refl

-- ---- all
pub whole_codes : ZoneCodes whole
unfolding whole
whole_codes = record { many = many_codes 81 code_all; sound = all_sound (codes_to 81 code_all) (λ p h. code_to 81 code_all p h) }

pub whole_is : (i j : ℕ) → i < 9 → j < 9 → at whole i j ≡ all_at i j
unfolding whole
whole_is = all_is (codes_to 81 code_all) (λ p h. code_to 81 code_all p h)

pub whole_holds : (D : ℕ) (v : ℕ → ℤ) → Readings v → Holds (at whole) D v
unfolding whole
whole_holds D v r = all_holds (codes_to 81 code_all) (λ p h. code_to 81 code_all p h) D v r.0 r.1

pub whole_domain : {allows : ℕ → Bool} {normal : UpperBound → UpperBound} → ScaleLaws allows normal → OfDomain normal whole
unfolding whole
whole_domain {allows} {normal} K p h = subst (λ k. normal (decode k) ≡ decode k) (sym (code_to 81 code_all p h))
    (cond_both (ltb p 9 || eqb (p % 10) 0) 33554433 4294967295 (λ k. normal (decode k) ≡ decode k)
    (λ _. subst (λ l. normal l ≡ l) (sym level_code) K.zero)
    (λ _. subst (λ l. normal l ≡ l) (sym none_code) (normal_none K)))

pub whole_only : (xs : List Code) → ZoneCodes xs → AllSays xs → xs ≡ whole
whole_only xs z a = same_zone xs whole z.sound whole_codes.sound z.many whole_codes.many (λ i j hi hj. a.bounds i j hi hj ∙ sym (whole_is i j hi hj))

-- ---- back
module _ {allows : ℕ → Bool} {normal : UpperBound → UpperBound} (K : ScaleLaws allows normal) (xs : List Code) (z : ZoneCodes xs) (keeps : OfDomain normal xs) where
  back_codes : ZoneCodes (codes_to 81 (code_back xs))
  back_codes = record { many = many_codes 81 (code_back xs); sound = back_sound xs (codes_to 81 (code_back xs)) z.sound (λ p h. code_to 81 (code_back xs) p h) }

  back_done : BackDone allows normal xs (codes_to 81 (code_back xs))
  back_done = record {
    was_of_domain = keeps;
    of_domain = back_kept xs (codes_to 81 (code_back xs)) z.sound (λ p h. code_to 81 (code_back xs) p h) K keeps;
    bounds = back_is xs (codes_to 81 (code_back xs)) z.sound (λ p h. code_to 81 (code_back xs) p h);
    states = back_exact xs (codes_to 81 (code_back xs)) z.sound (λ p h. code_to 81 (code_back xs) p h) K keeps;
  }

  -- what remains, and that it is what `back` says
  pub back_fine : (ys : List Code) × (back_zone xs ≡ kept ys) × ZoneCodes ys × BackDone allows normal xs ys
  unfolding back_zone
  back_fine = (codes_to 81 (code_back xs), refl, back_codes, back_done)

  pub back_only : (ys : List Code) → ZoneCodes ys → (u : Unit {0}) → BackSays allows normal xs ys (Ok u) → back_zone xs ≡ kept ys
  unfolding back_zone
  back_only ys y u b = ap kept (same_zone (codes_to 81 (code_back xs)) ys back_codes.sound y.sound back_codes.many y.many (λ i j hi hj. back_done.bounds i j hi hj ∙ sym (b.bounds i j hi hj)))

-- ---- undo
module _ {allows : ℕ → Bool} {normal : UpperBound → UpperBound} (K : ScaleLaws allows normal) (r : ℕ → Bool) (r0 : r 0 ≡ false) (xs : List Code) (z : ZoneCodes xs) (keeps : OfDomain normal xs) where
  Zeroing : ℕ → Remains → Type 0
  Zeroing n (kept ys) = Zeroed r xs ys n × (length ys ≡ 81)
  Zeroing n empty = Stuck r xs
  Zeroing n beyond = ⊥

  zero_one : (n : ℕ) → n < 9 → (ys : List Code) → Zeroed r xs ys n → Zeroing (suc n) (zero_clock r n ys)
  unfolding zero_clock Zeroing
  zero_one n h ys s =
      let f : ℕ → ℕ = λ p. cond (r n) (code_cut ys n 0 33554433 p) (code_of ys p) in
      cond_both (r n && ltb (code_of ys n) 33554433) empty (kept (codes_to 81 (λ p. cond (r n) (code_cut ys n 0 33554433 p) (code_of ys p)))) (Zeroing (suc n))
      (λ e. let a = and_parts (r n) (ltb (code_of ys n) 33554433) e in stuck r xs ys n h s a.0 (ltb-true _ _ a.1))
      (λ e. (
        subst (Zeroed r xs (codes_to 81 f)) (add-one n)
            (zero_more r xs ys n h s (codes_to 81 f) (λ p l. code_to 81 f p l)
            (λ on. ⊎_elim {C = 33554433 ≤ code_of ys n} (λ a. absurd (both_ways (r n) a on)) (λ a. ltb-false _ _ a) (and_cases (r n) (ltb (code_of ys n) 33554433) e))),
        many_codes 81 f,
      ))

  zero_on : (n : ℕ) → n < 9 → (o : Remains) → Zeroing n o → Zeroing (suc n) (then o (zero_clock r n))
  unfolding Zeroing
  zero_on n h (kept ys) s = zero_one n h ys s.0
  zero_on n h empty s = s
  zero_on n h beyond s = s

  zeros : (n : ℕ) → n ≤ 9 → Zeroing n (zero_steps r n xs)
  unfolding zero_steps Zeroing
  zeros zero h = (zero_start r xs z.sound, z.many)
  zeros (suc n) h = zero_on n (omega arith) (zero_steps r n xs) (zeros n (omega arith))

  free_on : (o : Remains) → Zeroing 9 o → Undoes allows normal r xs (then o (freed r))
  unfolding Zeroing freed
  free_on (kept zs) s =
      let is : (p : ℕ) → p < 81 → code_of (codes_to 81 (code_free r zs)) p ≡ code_free r zs p = λ p h. code_to 81 (code_free r zs) p h in
      record {
        codes = record { many = many_codes 81 (code_free r zs); sound = undo_sound r r0 xs zs (codes_to 81 (code_free r zs)) s.0 is };
        of_domain = undo_kept r r0 xs zs (codes_to 81 (code_free r zs)) s.0 is K keeps;
        bounds = λ i j hi hj. undo_is r r0 xs zs (codes_to 81 (code_free r zs)) s.0 is i j hi hj ∙ undo_same r r (λ k h. refl) (at zs) (at xs) s.0.is i j hi hj;
        states = undo_exact r r0 xs zs (codes_to 81 (code_free r zs)) s.0 is K keeps;
        unasked = λ n off u. unasked_same n (at (codes_to 81 (code_free r zs))) (free_at r (at zs)) (undo_is r r0 xs zs (codes_to 81 (code_free r zs)) s.0 is)
            (free_unasked n r r0 off (at zs) (unasked_same n (at zs) (zero_all r (at xs) 9) s.0.is (zero_unasked n r off (at xs) u 9 (omega arith))) s.0.sound.canon);
      }
  free_on empty s = λ D v al rd h. s D (K.positive D al) v rd.0 h
  free_on beyond s = s

  pub undo_fine : Undoes allows normal r xs (undo_zone r xs)
  unfolding undo_zone
  undo_fine = free_on (zero_steps r 9 xs) (zeros 9 (omega arith))

  undo_some : (ys : List Code) → ZoneCodes ys → OfDomain normal ys → ((D : ℕ) (v : ℕ → ℤ) → allows D ≡ true → Readings v → Holds (at ys) D v → ⊥) → ⊥
  undo_some ys y d gone =
      let s = a_reading K (at ys) y.sound.canon (λ a b ha hb. d (9 * a + b) (omega arith)) in
      gone s.0 s.1.0 s.1.1.0 s.1.1.1 s.1.1.2

  module _ (cs : List ℕ) (known : Known cs) (agree : (i : ℕ) → i < 9 → r i ≡ reset cs i) where
    to_list : (D : ℕ) (v : ℕ → ℤ) → Holds (at xs) D (λ k. v (zeroed r k)) → Holds (at xs) D (λ k. v (zeroed (reset cs) k))
    to_list D v h = held_same r (reset cs) agree (at xs) D v h

    from_list : (D : ℕ) (v : ℕ → ℤ) → Holds (at xs) D (λ k. v (zeroed (reset cs) k)) → Holds (at xs) D (λ k. v (zeroed r k))
    from_list D v h = held_same (reset cs) r (λ i l. sym (agree i l)) (at xs) D v h

    said_kept : (o : Remains) → Undoes allows normal r xs o → (ys : List Code) → ZoneCodes ys → UndoKept allows normal cs xs ys → (answered o ≡ Ok cut.Kept) × (left xs o ≡ ys)
    said_kept (kept zs) u ys y k = (
      refl,
      same_zone zs ys u.codes.sound y.sound u.codes.many y.many
          (λ i j hi hj. u.bounds i j hi hj ∙ sym (undo_same (reset cs) r (λ k l. sym (agree k l)) (zero_all (reset cs) (at xs) 9) (at xs) (λ a b ha hb. refl) i j hi hj) ∙ sym (k.bounds i j hi hj)),
    )
    said_kept empty u ys y k = absurd (undo_some ys y k.of_domain (λ D v al rd h. u D v al rd (from_list D v ((k.states D v al rd).0 h))))
    said_kept beyond u ys y k = absurd u

    said_empty : (o : Remains) → Undoes allows normal r xs o → (ys : List Code) → UndoEmpty allows normal cs xs ys → (answered o ≡ Ok cut.Empty) × (left xs o ≡ ys)
    said_empty (kept zs) u ys k = absurd (undo_some zs u.codes u.of_domain (λ D v al rd h. k.gone D v al rd (to_list D v ((u.states D v al rd).0 h))))
    said_empty empty u ys k = (refl, sym k.unchanged)
    said_empty beyond u ys k = absurd u

    said : (o : Remains) → Undoes allows normal r xs o → (ys : List Code) → ZoneCodes ys → (a : Result Cut Refusal) → UndoSays allows normal cs xs ys a → (answered o ≡ a) × (left xs o ≡ ys)
    said o u ys y (Ok cut.Kept) k = said_kept o u ys y k
    said o u ys y (Ok cut.Empty) k = said_empty o u ys k
    said o u ys y (Err refused.Line) k = absurd k
    said o u ys y (Err refused.Order) k = absurd k
    said o u ys y (Err refused.Number) k = absurd (k.1 keeps)
    said o u ys y (Err refused.Name) k = absurd (k.0 known)
    said o u ys y (Err refused.Chance) k = absurd k
    said o u ys y (Err refused.Rows) k = absurd k
    said o u ys y (Err refused.Clocks) k = absurd k
    said o u ys y (Err refused.State) k = absurd k
    said o u ys y (Err refused.Full) k = absurd k
    said o u ys y (Err refused.Range) k = absurd k
    said o u ys y (Err refused.Phase) k = absurd k
    said o u ys y (Err refused.Entry) k = absurd k
    said o u ys y (Err refused.Buffer) k = absurd k

    pub undo_only : (ys : List Code) → ZoneCodes ys → (a : Result Cut Refusal) → UndoSays allows normal cs xs ys a → (answered (undo_zone r xs) ≡ a) × (left xs (undo_zone r xs) ≡ ys)
    undo_only ys y a k = said (undo_zone r xs) undo_fine ys y a k

-- ---- within
module _ {allows : ℕ → Bool} {normal : UpperBound → UpperBound} (K : ScaleLaws allows normal) (xs ys : List Code) (x : ZoneCodes xs) (y : ZoneCodes ys) (keeps : OfDomain normal xs) where
  pub within_inside : within_zone xs ys ≡ true → Inside allows xs ys
  unfolding within_zone
  within_inside e = within_yes K xs ys x.sound y.sound.near keeps (λ p h. leb-true _ _ (every_at 81 (λ q. leb (code_of xs q) (code_of ys q)) e p h))

  pub inside_within : Inside allows xs ys → within_zone xs ys ≡ true
  unfolding within_zone
  inside_within i = ⊎_elim {C = every 81 (λ q. leb (code_of xs q) (code_of ys q)) ≡ true}
      (λ e. e)
      (λ e. let n = every_not 81 (λ q. leb (code_of xs q) (code_of ys q)) e in
      absurd (within_no K xs ys x.sound y.sound.near keeps n.0 n.1 (leb-false _ _ n.2) i))
      (cases_Bool (every 81 (λ q. leb (code_of xs q) (code_of ys q))))

  pub within_only : (b : Bool) → WithinSays allows normal xs ys (Ok b) → within_zone xs ys ≡ b
  within_only b w = same_test (within_zone xs ys) b (λ e. w.2.1 (within_inside e)) (λ e. inside_within (w.2.0 e))

-- ---- holds
pub holds_yes : (xs : List Code) (D : ℕ) (v : ℕ → ℤ) → holds_zone xs D v ≡ true → Holds (at xs) D v
unfolding holds_zone
holds_yes xs D v e i j hi hj =
    let m = meets_yes D _ _ (every_at 81 (λ p. meets D (v (p / 9) -ℤ v (p % 9)) (decode (code_of xs p))) e (9 * i + j) (omega arith)) in
    let a : (9 * i + j) / 9 ≡ i = omega arith in
    let b : (9 * i + j) % 9 ≡ j = omega arith in
    subst (λ n. Meets D (v n -ℤ v j) (at xs i j)) a (subst (λ n. Meets D (v ((9 * i + j) / 9) -ℤ v n) (at xs i j)) b m)

pub yes_holds : (xs : List Code) (D : ℕ) (v : ℕ → ℤ) → Holds (at xs) D v → holds_zone xs D v ≡ true
unfolding holds_zone
yes_holds xs D v h = every_from 81 (λ p. meets D (v (p / 9) -ℤ v (p % 9)) (decode (code_of xs p)))
    (λ p l. let e : 9 * (p / 9) + p % 9 ≡ p = omega arith in
    subst (λ q. meets D (v (p / 9) -ℤ v (p % 9)) (decode (code_of xs q)) ≡ true) e
    (yes_meets D (v (p / 9) -ℤ v (p % 9)) (at xs (p / 9) (p % 9)) (h (p / 9) (p % 9) (omega arith) (omega arith))))

pub holds_only : (allows : ℕ → Bool) (normal : UpperBound → UpperBound) (D : ℕ) (rs : List ℕ) (xs : List Code) (b : Bool) → HoldsSays allows normal D rs xs (Ok b) → holds_zone xs D (reading rs) ≡ b
holds_only allows normal D rs xs b s = same_test (holds_zone xs D (reading rs)) b (λ e. s.2.1 (holds_yes xs D (reading rs) e)) (λ e. yes_holds xs D (reading rs) (s.2.0 e))
