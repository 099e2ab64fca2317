-- Cutting clocks to 0, one after the other
use Rattle.zones.specs.declared.codes.Code.{Code}
use Rattle.std.proofs.Common.{◌≡◌, ℕ, suc, ◌+◌, ◌*◌, ◌/◌, ◌%◌, ◌<◌, ◌≤◌, min, Bool, true, false, cond, List, ℤ, pos, ◌-ℤ◌, sym, refl, ap, ◌∙◌, subst, ⊎_elim, add-one, arith}
use borrow.Author.Differences.{ints}
use Rattle.std.proofs.lemmas.Bool.Decides.{nat_tests}
use Rattle.std.proofs.lemmas.Bool.{cases_eq, cases_Bool, cond-true, cond-false}
use Rattle.bounds.specs.Bounds.{UpperBound, plus, level, Meets, Tight}
use Rattle.bounds.specs.Laws.{plus_comm, plus_level, tight_refl, tight_trans, tight_plus, times_is}
use Rattle.zones.specs.Matrices.{tighter, Canon, Holds, cut_at, zeroed, zero_all}
use Rattle.zones.specs.Codes.{Near, Sound, decode, at, code_plus, code_cut, code_of}
use Rattle.zones.specs.Resets.{Stuck, Zeroed}
use Rattle.zones.proofs.Canon.{cut_canon, cut_holds, cut_back, zero_meets, tighter_left, tighter_right}
use Rattle.zones.proofs.Decoding.{decode_cut, canon_same}
use Rattle.zones.proofs.CutFacts.{from_level, under_level}
use Rattle.zones.proofs.Codings.{level_code, code_le}

plus_level_right : (a : UpperBound) → plus a level ≡ a
plus_level_right a = plus_comm a level ∙ plus_level a

zero_level : (D : ℕ) (d : ℤ) → d ≡ pos 0 → Meets D d level
unfolding Meets
zero_level D d e = omega (arith, ints, times_is (pos 0) D)

-- row 0 is the tightest of all rows
row_0 : (Z : ℕ → ℕ → UpperBound) → Canon Z → (a b : ℕ) → a < 9 → b < 9 → Tight (Z 0 b) (Z a b)
row_0 Z can a b ha hb = tight_trans _ _ _ (can.around 0 b a (omega arith) hb ha)
    (subst (Tight (plus (Z 0 a) (Z a b))) (plus_level (Z a b)) (tight_plus _ _ _ _ (can.front a ha) (tight_refl (Z a b))))

near_zero_code : (x y z : ℕ) → Near 4000000 x → Near 4000000 y → Near 4000000 z → z ≤ 33554433 → z ≤ x → 33554433 ≤ y → Near 4000000 (min x (code_plus (code_plus y 33554433) z))
unfolding code_plus
near_zero_code x y z p q s h k l = grind (arith, nat_tests)

near_level : Near 1000001 33554433
near_level = (λ _. omega arith, omega arith)

module _ (xs : List Code) (s : Sound xs) (k : ℕ) (hk : k < 9) (ok : 33554433 ≤ code_of xs k) where
  at_0 : (b : ℕ) → at xs 0 b ≡ decode (code_of xs b)
  at_0 b = let e : 9 * 0 + b ≡ b = omega arith in ap (λ n. decode (code_of xs n)) e

  low : Tight level (at xs 0 k)
  low = subst (Tight level) (sym (at_0 k)) (from_level _ ok)

  pub near_zero : (p : ℕ) → p < 81 → Near 4000000 (code_cut xs k 0 33554433 p)
  unfolding code_cut
  near_zero p hp =
      let a = p / 9 in
      let b = p % 9 in
      let ha : p / 9 < 9 = omega arith in
      let hb : p % 9 < 9 = omega arith in
      let hx : 9 * (p / 9) + k < 81 = omega arith in
      let hz : 9 * 0 + p % 9 < 81 = omega arith in
      let e : 9 * (p / 9) + p % 9 ≡ p = omega arith in
      let x = s.near p hp in
      let y = s.near (9 * (p / 9) + k) hx in
      let z = s.near (9 * 0 + p % 9) hz in
      let h1 : code_of xs (9 * 0 + p % 9) ≤ 33554433 = code_le _ 33554433 z.1 (subst (Tight (at xs 0 (p % 9))) (sym level_code) (s.canon.front (p % 9) hb)) in
      let h2 : code_of xs (9 * 0 + p % 9) ≤ code_of xs p = code_le _ (code_of xs p) z.1 (subst (λ q. Tight (at xs 0 (p % 9)) (decode (code_of xs q))) e (row_0 (at xs) s.canon (p / 9) (p % 9) ha hb)) in
      let h3 : 33554433 ≤ code_of xs (9 * (p / 9) + k) = code_le 33554433 _ (omega arith) (subst (λ l. Tight l (at xs (p / 9) k)) (sym level_code) (tight_trans _ _ _ low (row_0 (at xs) s.canon (p / 9) k ha hk))) in
      near_zero_code (code_of xs p) (code_of xs (9 * (p / 9) + k)) (code_of xs (9 * 0 + p % 9)) x y z h1 h2 h3

  pub zero_lim : (a b : ℕ) → a < 9 → b < 9 → decode (code_cut xs k 0 33554433 (9 * a + b)) ≡ cut_at (at xs) k 0 level a b
  zero_lim a b ha hb = decode_cut xs k 0 33554433 a b hk (omega arith) ha hb s.near near_level ∙ ap (λ l. cut_at (at xs) k 0 l a b) level_code

  pub zero_ok : Tight level (plus (at xs 0 k) level)
  zero_ok = subst (Tight level) (sym (plus_level_right (at xs 0 k))) low

  pub zero_sound : (ws : List Code) → ((p : ℕ) → p < 81 → code_of ws p ≡ code_cut xs k 0 33554433 p) → Sound ws
  zero_sound ws is = record {
    near = λ p h. subst (Near 4000000) (sym (is p h)) (near_zero p h);
    canon = canon_same (at ws) (cut_at (at xs) k 0 level) (λ a b ha hb. ap decode (is (9 * a + b) (omega arith)) ∙ zero_lim a b ha hb) (cut_canon (at xs) s.canon k 0 hk (omega arith) level zero_ok);
  }

-- one clock more
module _ (r : ℕ → Bool) (xs ys : List Code) (n : ℕ) (hn : n < 9) (z : Zeroed r xs ys n) (ws : List Code)
    (is : (p : ℕ) → p < 81 → code_of ws p ≡ cond (r n) (code_cut ys n 0 33554433 p) (code_of ys p)) where
  module _ (off : r n ≡ false) where
    same : (p : ℕ) → p < 81 → code_of ws p ≡ code_of ys p
    same p h = is p h ∙ cond-false _ _ _ off

    same_at : (a b : ℕ) → a < 9 → b < 9 → at ws a b ≡ at ys a b
    same_at a b ha hb = ap decode (same (9 * a + b) (omega arith))

    zero_off : Zeroed r xs ws (suc n)
    unfolding zero_all
    zero_off = record {
      sound = record { near = λ p h. subst (Near 4000000) (sym (same p h)) (z.sound.near p h); canon = canon_same (at ws) (at ys) same_at z.sound.canon };
      is = λ a b ha hb. same_at a b ha hb ∙ z.is a b ha hb ∙ sym (cond-false _ _ _ off);
      inn = λ D big v h f a b ha hb. subst (Meets D (v a -ℤ v b)) (sym (same_at a b ha hb)) (z.inn D big v h (λ k l e. f k (omega arith) e) a b ha hb);
      out = λ D big v h. z.out D big v (λ a b ha hb. subst (Meets D (v a -ℤ v b)) (same_at a b ha hb) (h a b ha hb));
      zero = λ k h hk e. subst (λ l. Tight l level) (sym (same_at k 0 hk (omega arith)))
          (⊎_elim {C = Tight (at ys k 0) level} (λ q. absurd (both r k n q e off)) (λ q. z.zero k (omega arith) hk e) (cases_eq k n));
    }
      where
        both : (r : ℕ → Bool) (k n : ℕ) → k ≡ n → r k ≡ true → r n ≡ false → ⊥
        both r k n q e f = let g : r k ≡ r n = ap r q in let c : ◌≡◌ {A = ℕ} 0 1 = cc in omega arith

  module _ (on : r n ≡ true) (ok : 33554433 ≤ code_of ys n) where
    cut : (p : ℕ) → p < 81 → code_of ws p ≡ code_cut ys n 0 33554433 p
    cut p h = is p h ∙ cond-true _ _ _ on

    cut_is : (a b : ℕ) → a < 9 → b < 9 → at ws a b ≡ cut_at (at ys) n 0 level a b
    cut_is a b ha hb = ap decode (cut (9 * a + b) (omega arith)) ∙ zero_lim ys z.sound n hn ok a b ha hb

    cut_all : (a b : ℕ) → a < 9 → b < 9 → cut_at (at ys) n 0 level a b ≡ cut_at (zero_all r (at xs) n) n 0 level a b
    cut_all a b ha hb =
        ap (λ l. tighter l (plus (plus (at ys a n) level) (at ys 0 b))) (z.is a b ha hb)
        ∙ ap (λ l. tighter (zero_all r (at xs) n a b) (plus (plus l level) (at ys 0 b))) (z.is a n ha hn)
        ∙ ap (λ l. tighter (zero_all r (at xs) n a b) (plus (plus (zero_all r (at xs) n a n) level) l)) (z.is 0 b (omega arith) hb)

    zero_on : Zeroed r xs ws (suc n)
    unfolding zero_all
    zero_on = record {
      sound = zero_sound ys z.sound n hn ok ws cut;
      is = λ a b ha hb. cut_is a b ha hb ∙ cut_all a b ha hb ∙ sym (cond-true _ _ _ on);
      inn = λ D big v h f a b ha hb. subst (Meets D (v a -ℤ v b)) (sym (cut_is a b ha hb))
          (cut_holds (at ys) z.sound.canon n 0 hn (omega arith) level D big v (z.inn D big v h (λ k l e. f k (omega arith) e)) (f n (omega arith) on) a b ha hb);
      out = λ D big v h. z.out D big v
          (cut_back (at ys) z.sound.canon n 0 hn (omega arith) level D big v (λ a b ha hb. subst (Meets D (v a -ℤ v b)) (cut_is a b ha hb) (h a b ha hb))).0;
      zero = λ k h hk e. subst (λ l. Tight l level) (sym (cut_is k 0 hk (omega arith)))
          (⊎_elim {C = Tight (cut_at (at ys) n 0 level k 0) level} (λ q. there k hk q) (λ q. tight_trans _ _ _ (earlier k) (z.zero k (omega arith) hk e)) (cases_eq k n));
    }
      where
        earlier : (k : ℕ) → Tight (cut_at (at ys) n 0 level k 0) (at ys k 0)
        earlier k = tighter_left (at ys k 0) (plus (plus (at ys k n) level) (at ys 0 0))

        there : (k : ℕ) → k < 9 → k ≡ n → Tight (cut_at (at ys) n 0 level k 0) level
        there k hk q = subst (Tight (cut_at (at ys) n 0 level k 0))
            (ap (λ l. plus (plus l level) (at ys 0 0)) (ap (λ m. at ys m n) q ∙ z.sound.canon.diagonal n hn) ∙ ap (plus (plus level level)) (z.sound.canon.diagonal 0 (omega arith)) ∙ ap (λ l. plus l level) (plus_level level) ∙ plus_level level)
            (tighter_right (at ys k 0) (plus (plus (at ys k n) level) (at ys 0 0)))

  pub zero_more : (r n ≡ true → 33554433 ≤ code_of ys n) → Zeroed r xs ws (n + 1)
  zero_more ok = subst (Zeroed r xs ws) (sym (add-one n))
      (⊎_elim {C = Zeroed r xs ws (suc n)} (λ e. zero_on e (ok e)) zero_off (cases_Bool (r n)))

module _ (r : ℕ → Bool) (xs ys : List Code) (n : ℕ) (hn : n < 9) (z : Zeroed r xs ys n) where
  pub zero_cut : (ws : List Code) → r n ≡ true → 33554433 ≤ code_of ys n → ((p : ℕ) → p < 81 → code_of ws p ≡ code_cut ys n 0 33554433 p) → Zeroed r xs ws (n + 1)
  zero_cut ws on ok is = zero_more r xs ys n hn z ws (λ p h. is p h ∙ sym (cond-true _ _ _ on)) (λ _. ok)

  pub zero_kept : r n ≡ false → Zeroed r xs ys (n + 1)
  zero_kept off = zero_more r xs ys n hn z ys (λ p h. sym (cond-false _ _ _ off)) (λ e. (cc))

pub zero_start : (r : ℕ → Bool) (xs : List Code) → Sound xs → Zeroed r xs xs 0
unfolding zero_all
zero_start r xs s = record {
  sound = s;
  is = λ a b ha hb. refl;
  inn = λ D big v h f. h;
  out = λ D big v h. h;
  zero = λ k h hk e. absurd (omega arith);
}

-- a clock that cannot be 0
pub stuck : (r : ℕ → Bool) (xs ys : List Code) (n : ℕ) → n < 9 → Zeroed r xs ys n → r n ≡ true → code_of ys n < 33554433 → Stuck r xs
stuck r xs ys n hn z on lt D big v v0 h =
    let w : ℕ → ℤ = λ k. v (zeroed r k) in
    let w0 : v (zeroed r 0) ≡ pos 0 = from_zero r v v0 in
    let held : Holds (at ys) D (λ k. v (zeroed r k)) = z.inn D big (λ k. v (zeroed r k)) h (λ k l e. zero_level D _ (let f : v (zeroed r k) ≡ pos 0 = in_zero r v v0 k e in omega (arith, ints))) in
    let m : Meets D (v (zeroed r 0) -ℤ v (zeroed r n)) (at ys 0 n) = held 0 n (omega arith) hn in
    let f : v (zeroed r n) ≡ pos 0 = in_zero r v v0 n on in
    let d : v (zeroed r 0) -ℤ v (zeroed r n) ≡ pos 0 = omega (arith, ints) in
    let i : 9 * 0 + n ≡ n = omega arith in
    under_level (code_of ys n) lt (subst (λ q. Tight level (decode (code_of ys q))) i (zero_meets D big (at ys 0 n) (subst (λ t. Meets D t (at ys 0 n)) d m)))
  where
    in_zero : (r : ℕ → Bool) (v : ℕ → ℤ) → v 0 ≡ pos 0 → (k : ℕ) → r k ≡ true → v (zeroed r k) ≡ pos 0
    in_zero r v v0 k e = ap v (cond-true _ _ _ e) ∙ v0

    from_zero : (r : ℕ → Bool) (v : ℕ → ℤ) → v 0 ≡ pos 0 → v (zeroed r 0) ≡ pos 0
    from_zero r v v0 = ⊎_elim {C = v (zeroed r 0) ≡ pos 0} (λ e. ap v (cond-true _ _ _ e) ∙ v0) (λ e. ap v (cond-false _ _ _ e) ∙ v0) (cases_Bool (r 0))
