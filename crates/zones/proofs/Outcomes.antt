-- What `back`, `undo` and `within` come to, for a time of time
use Rattle.zones.specs.declared.codes.Code.{Code}
use Rattle.std.proofs.Common.{◌≡◌, ℕ, zero, suc, ◌+◌, ◌*◌, ◌/◌, ◌%◌, ◌<◌, ◌≤◌, Bool, true, false, cond, eqb, List, ℤ, pos, ◌-ℤ◌, sym, refl, ap, ◌∙◌, subst, ⊎_elim, arith}
use borrow.Author.Differences.{ints}
use Rattle.std.proofs.lemmas.Bool.{cases_Bool, cond-true, cond-false}
use Rattle.bounds.specs.Bounds.{UpperBound, none, plus, level, Meets, Tight}
use Rattle.bounds.specs.Laws.{times_is}
use Rattle.bounds.proofs.ScaleLaws.{ScaleLaws}
use Rattle.zones.specs.Matrices.{tighter, Holds, Readings, cut_at, back_at, zeroed, free_at, zero_all, undo_at}
use Rattle.zones.specs.Codes.{Near, Sound, decode, at, code_back, code_free, code_of}
use Rattle.zones.specs.Cuts.{OfDomain}
use Rattle.zones.specs.Resets.{Zeroed}
use Rattle.zones.specs.Calls.{Leads, Inside}
use Rattle.zones.proofs.Decoding.{canon_same, decode_tight, decode_below}
use Rattle.zones.proofs.Extend.{normal_cut}
use Rattle.bounds.proofs.Apart.{normal_none}
use Rattle.zones.proofs.Codings.{back_near, back_bound, free_near, free_bound, code_le}
use Rattle.zones.proofs.Backward.{front_one, back_canon, back_in, back_out}
use Rattle.zones.proofs.Undo.{free_canon, free_in, free_out}
use Rattle.zones.proofs.Within.{within_in, within_out}
use Rattle.zones.proofs.Whole.{no_less}

zero_level : (D : ℕ) (d : ℤ) → d ≡ pos 0 → Meets D d level
unfolding Meets
zero_level D d e = omega (arith, ints, times_is (pos 0) D)

-- codes by pairs give codes by number
by_pairs : (P : ℕ → Type 0) → ((a b : ℕ) → a < 9 → b < 9 → P (9 * a + b)) → (p : ℕ) → p < 81 → P p
by_pairs P f p h = let e : 9 * (p / 9) + p % 9 ≡ p = omega arith in subst P e (f (p / 9) (p % 9) (omega arith) (omega arith))

pub keeps_at : (normal : UpperBound → UpperBound) (xs : List Code) → OfDomain normal xs → (a b : ℕ) → a < 9 → b < 9 → normal (at xs a b) ≡ at xs a b
keeps_at normal xs keeps a b ha hb = keeps (9 * a + b) (omega arith)

moved : (Y Z : ℕ → ℕ → UpperBound) → ((a b : ℕ) → a < 9 → b < 9 → Y a b ≡ Z a b) → (D : ℕ) (v : ℕ → ℤ) → Holds Y D v → Holds Z D v
moved Y Z e D v h a b ha hb = subst (Meets D (v a -ℤ v b)) (e a b ha hb) (h a b ha hb)

-- ---- back
module _ (xs ys : List Code) (s : Sound xs) (is : (p : ℕ) → p < 81 → code_of ys p ≡ code_back xs p) where
  pub back_is : (a b : ℕ) → a < 9 → b < 9 → at ys a b ≡ back_at (at xs) a b
  back_is a b ha hb = ap decode (is (9 * a + b) (omega arith)) ∙ back_bound xs a b ha hb

  pub back_sound : Sound ys
  back_sound = record {
    near = λ p h. subst (Near 4000000) (sym (is p h)) (back_near xs p h s.near);
    canon = canon_same (at ys) (back_at (at xs)) back_is (back_canon (at xs) s.canon);
  }

  module _ {allows : ℕ → Bool} {normal : UpperBound → UpperBound} (K : ScaleLaws allows normal) (keeps : OfDomain normal xs) where
    back_keeps : (a b : ℕ) → a < 9 → b < 9 → normal (back_at (at xs) a b) ≡ back_at (at xs) a b
    back_keeps zero b ha hb = front_one (λ l. normal l ≡ l) (at xs) 8 b K.zero (λ k h l. keeps_at normal xs keeps k b (omega arith) hb)
    back_keeps (suc a) b ha hb = keeps_at normal xs keeps (suc a) b ha hb

    pub back_kept : OfDomain normal ys
    back_kept = by_pairs (λ p. normal (decode (code_of ys p)) ≡ decode (code_of ys p)) (λ a b ha hb. subst (λ l. normal l ≡ l) (sym (back_is a b ha hb)) (back_keeps a b ha hb))

    pub back_exact : (D : ℕ) (v : ℕ → ℤ) → allows D ≡ true → Readings v → (Holds (at ys) D v → Leads allows xs D v) × (Leads allows xs D v → Holds (at ys) D v)
    back_exact D v al rd = (
      λ h. back_out (at xs) s.canon K (keeps_at normal xs keeps) D v al rd.0 (moved (at ys) (back_at (at xs)) back_is D v h),
      λ l. moved (back_at (at xs)) (at ys) (λ a b ha hb. sym (back_is a b ha hb)) D v
          (back_in (at xs) s.canon D l.0 (K.positive D al) l.1.1.0 v l.1.0 l.1.1.2 rd.0 rd.1 l.1.1.3),
    )

-- ---- undo
-- two sets of clocks that agree on all nine
module _ (r q : ℕ → Bool) (agree : (i : ℕ) → i < 9 → r i ≡ q i) where
  zeroed_same : (k : ℕ) → k < 9 → zeroed r k ≡ zeroed q k
  zeroed_same k h = ap (λ b. cond b 0 k) (agree k h)

  pub held_same : (Z : ℕ → ℕ → UpperBound) (D : ℕ) (v : ℕ → ℤ) → Holds Z D (λ k. v (zeroed r k)) → Holds Z D (λ k. v (zeroed q k))
  held_same Z D v h a b ha hb = subst (λ i. Meets D (v i -ℤ v (zeroed q b)) (Z a b)) (zeroed_same a ha) (subst (λ j. Meets D (v (zeroed r a) -ℤ v j) (Z a b)) (zeroed_same b hb) (h a b ha hb))

  zero_same : (Z : ℕ → ℕ → UpperBound) (n a b : ℕ) → n ≤ 9 → a < 9 → b < 9 → zero_all r Z n a b ≡ zero_all q Z n a b
  unfolding zero_all
  zero_same Z zero a b hn ha hb = refl
  zero_same Z (suc n) a b hn ha hb =
      ap (λ t. cond t (cut_at (zero_all r Z n) n 0 level a b) (zero_all r Z n a b)) (agree n (omega arith))
      ∙ ap (λ l. cond (q n) l (zero_all r Z n a b)) (same_cut (zero_all r Z n a b) (zero_all q Z n a b) _ _ _ _ (zero_same Z n a b (omega arith) ha hb) (zero_same Z n a n (omega arith) ha (omega arith)) (zero_same Z n 0 b (omega arith) (omega arith) hb))
      ∙ ap (cond (q n) (cut_at (zero_all q Z n) n 0 level a b)) (zero_same Z n a b (omega arith) ha hb)
    where
      same_cut : (x x' y y' z z' : UpperBound) → x ≡ x' → y ≡ y' → z ≡ z' → tighter x (plus (plus y level) z) ≡ tighter x' (plus (plus y' level) z')
      same_cut x x' y y' z z' e f g = ap (λ l. tighter l (plus (plus y level) z)) e ∙ ap (λ l. tighter x' (plus (plus l level) z)) f ∙ ap (λ l. tighter x' (plus (plus y' level) l)) g

  zeroed_9 : (k : ℕ) → k < 9 → zeroed r k < 9
  zeroed_9 k h = ⊎_elim {C = zeroed r k < 9} (λ e. omega (arith, cond-true (r k) 0 k e)) (λ e. omega (arith, cond-false (r k) 0 k e)) (cases_Bool (r k))

  pub undo_same : (Y Z : ℕ → ℕ → UpperBound) → ((a b : ℕ) → a < 9 → b < 9 → Y a b ≡ zero_all r Z 9 a b) → (a b : ℕ) → a < 9 → b < 9 → free_at r Y a b ≡ undo_at q Z a b
  undo_same Y Z e a b ha hb =
      ap (λ l. cond (eqb a b) level (cond (r a) none l)) (e a (zeroed r b) ha (zeroed_9 b hb) ∙ zero_same Z 9 a (zeroed r b) (omega arith) ha (zeroed_9 b hb))
      ∙ ap (λ t. cond (eqb a b) level (cond t none (zero_all q Z 9 a (zeroed r b)))) (agree a ha)
      ∙ ap (λ j. cond (eqb a b) level (cond (q a) none (zero_all q Z 9 a j))) (zeroed_same b hb)

module _ (r : ℕ → Bool) (r0 : r 0 ≡ false) (xs zs ys : List Code) (z : Zeroed r xs zs 9) (is : (p : ℕ) → p < 81 → code_of ys p ≡ code_free r zs p) where
  pub undo_is : (a b : ℕ) → a < 9 → b < 9 → at ys a b ≡ free_at r (at zs) a b
  undo_is a b ha hb = ap decode (is (9 * a + b) (omega arith)) ∙ free_bound r zs a b ha hb

  at_zero : (j : ℕ) → j < 9 → r j ≡ true → Tight (at zs j 0) level
  at_zero j h e = z.zero j h h e

  pub undo_sound : Sound ys
  undo_sound = record {
    near = λ p h. subst (Near 4000000) (sym (is p h)) (free_near r zs p h z.sound.near);
    canon = canon_same (at ys) (free_at r (at zs)) undo_is (free_canon r r0 (at zs) z.sound.canon at_zero);
  }

  module _ {allows : ℕ → Bool} {normal : UpperBound → UpperBound} (K : ScaleLaws allows normal) (keeps : OfDomain normal xs) where
    zero_keeps : (n : ℕ) → n ≤ 9 → (a b : ℕ) → a < 9 → b < 9 → normal (zero_all r (at xs) n a b) ≡ zero_all r (at xs) n a b
    unfolding zero_all
    zero_keeps zero hn a b ha hb = keeps_at normal xs keeps a b ha hb
    zero_keeps (suc n) hn a b ha hb = gate (r n) _ _
        (normal_cut K (zero_all r (at xs) n) n 0 level (omega arith) (omega arith) K.zero (zero_keeps n (omega arith)) a b ha hb)
        (zero_keeps n (omega arith) a b ha hb)
      where
        gate : (t : Bool) (x y : UpperBound) → normal x ≡ x → normal y ≡ y → normal (cond t x y) ≡ cond t x y
        gate true x y e f = e
        gate false x y e f = f

    gates : (s t : Bool) (l : UpperBound) → normal l ≡ l → normal (cond s level (cond t none l)) ≡ cond s level (cond t none l)
    gates true t l e = K.zero
    gates false true l e = normal_none K
    gates false false l e = e

    zeroed_lt : (k : ℕ) → k < 9 → zeroed r k < 9
    zeroed_lt k h = ⊎_elim {C = zeroed r k < 9} (λ e. omega (arith, cond-true (r k) 0 k e)) (λ e. omega (arith, cond-false (r k) 0 k e)) (cases_Bool (r k))

    pub undo_kept : OfDomain normal ys
    undo_kept = by_pairs (λ p. normal (decode (code_of ys p)) ≡ decode (code_of ys p)) (λ a b ha hb. subst (λ l. normal l ≡ l) (sym (undo_is a b ha hb))
        (gates (eqb a b) (r a) (at zs a (zeroed r b)) (subst (λ l. normal l ≡ l) (sym (z.is a (zeroed r b) ha (zeroed_lt b hb))) (zero_keeps 9 (omega arith) a (zeroed r b) ha (zeroed_lt b hb)))))

    pub undo_exact : (D : ℕ) (v : ℕ → ℤ) → allows D ≡ true → Readings v → (Holds (at ys) D v → Holds (at xs) D (λ k. v (zeroed r k))) × (Holds (at xs) D (λ k. v (zeroed r k)) → Holds (at ys) D v)
    undo_exact D v al rd =
        let big = K.positive D al in (
          λ h. z.out D big (λ k. v (zeroed r k)) (free_out r r0 (at zs) z.sound.canon at_zero D big v rd.0 rd.1 (moved (at ys) (free_at r (at zs)) undo_is D v h)),
          λ h. moved (free_at r (at zs)) (at ys) (λ a b ha hb. sym (undo_is a b ha hb)) D v
              (free_in r r0 (at zs) z.sound.canon at_zero D big v rd.0 rd.1 (z.inn D big (λ k. v (zeroed r k)) h (λ k l e. level_met D (v (zeroed r k)) (v (zeroed r 0)) (ap v (cond-true _ _ _ e) ∙ rd.0) (ap v (cond-false _ _ _ r0) ∙ rd.0)))),
        )
      where
        level_met : (D : ℕ) (x y : ℤ) → x ≡ pos 0 → y ≡ pos 0 → Meets D (x -ℤ y) level
        level_met D x y e f = zero_level D (x -ℤ y) (omega (arith, ints))

-- ---- within
module _ {allows : ℕ → Bool} {normal : UpperBound → UpperBound} (K : ScaleLaws allows normal) (xs ys : List Code) (s : Sound xs) (near : (p : ℕ) → p < 81 → Near 4000000 (code_of ys p)) (keeps : OfDomain normal xs) where
  pub within_yes : ((p : ℕ) → p < 81 → code_of xs p ≤ code_of ys p) → Inside allows xs ys
  within_yes f D v al rd h = within_in (at xs) (at ys) (λ i j hi hj. decode_tight _ _ (f (9 * i + j) (omega arith))) D (K.positive D al) v h

  pub within_no : (p : ℕ) → p < 81 → code_of ys p < code_of xs p → Inside allows xs ys → ⊥
  within_no p hp lt f =
      let i = p / 9 in
      let j = p % 9 in
      let hi : p / 9 < 9 = omega arith in
      let hj : p % 9 < 9 = omega arith in
      let e : 9 * (p / 9) + p % 9 ≡ p = omega arith in
      let nx = s.near p hp in
      let ltn : code_of ys p < 4294967295 = omega (arith, nx.1) in
      let t = within_out K (at xs) s.canon (keeps_at normal xs keeps) (p / 9) (p % 9) hi hj (at ys (p / 9) (p % 9))
      (λ n. not_none (code_of ys p) ltn (subst (λ q. decode (code_of ys q) ≡ none) e n))
      (λ g. absurd_lt (code_of xs p) (code_of ys p) nx.1 lt (subst (λ q. Tight (decode (code_of xs q)) (decode (code_of ys q))) e g)) in
      let v = t.1.0 in
      let w = t.1.1 in
      w.3 (f t.0 v w.1 (w.0, no_less K (at xs) s.canon (keeps_at normal xs keeps) t.0 v (K.positive t.0 w.1) w.0 w.2) w.2 (p / 9) (p % 9) hi hj)
    where
      not_none : (k : ℕ) → k < 4294967295 → decode k ≡ none → ⊥
      not_none k h e = let f = sym (decode_below k h) ∙ e in let z : ◌≡◌ {A = ℕ} 0 1 = cc in omega arith

      absurd_lt : (a b : ℕ) → a ≤ 4294967295 → b < a → Tight (decode a) (decode b) → ⊥
      absurd_lt a b h l t = let q = code_le a b h t in omega arith
