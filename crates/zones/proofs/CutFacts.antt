-- What the cut of a zone's codes comes to
use Rattle.zones.specs.declared.codes.Code.{Code}
use Rattle.std.proofs.Common.{◌≡◌, ℕ, ◌+◌, ◌*◌, ◌/◌, ◌%◌, ◌<◌, ◌≤◌, Bool, true, false, eqb, List, ℤ, pos, negsuc, ◌+ℤ◌, ◌-ℤ◌, ◌≤ℤ◌, Ok, Err, Result, MatchResult, sym, refl, ap, ◌∙◌, subst, inl, inr, ⊎_elim, arith}
use borrow.Author.Differences.{ints}
use Rattle.std.proofs.lemmas.Bool.{cases_lt}
use Rattle.bounds.specs.Bounds.{UpperBound, none, upto, plus, level, Meets, Tight}
use Rattle.bounds.specs.Sums.{Vast}
use Rattle.bounds.specs.Domains.{Alike}
use Rattle.bounds.specs.declared.bound.Bound.{Bound}
use Rattle.bounds.specs.declared.refusal.Refusal.{Refusal}
use Rattle.bounds.specs.Chosen.{NormalSays}
use Rattle.bounds.specs.Logic.{Iff}
use Rattle.zones.specs.Matrices.{tighter, Canon, Holds, cut_at}
use Rattle.zones.specs.Codes.{Near, Sound, code_plus, code_cut, decode, at, code_of}
use Rattle.zones.specs.Cuts.{OfDomain, Left, Far, Over, Beyond, CodeOf, Fit, CutOver, CutEmpty, CutKept}
use Rattle.zones.proofs.Canon.{cut_canon, cut_holds, cut_back, cut_empty}
use Rattle.zones.proofs.Decoding.{decode_below, decode_none, decode_tight, decode_plus, decode_cut, canon_same, bit_odd, tighter_first}
use Rattle.bounds.proofs.ScaleLaws.{ScaleLaws}
use Rattle.bounds.proofs.Apart.{close as close-numbers, normal_twice, normal_none}
use Rattle.zones.proofs.Extend.{normal_cut}
use Rattle.zones.proofs.Whole.{a_state}

none_last : (l : UpperBound) → Tight l none
unfolding Tight
none_last none = tt
none_last (upto s a) = tt

-- a code below that of `<= 0` is tighter
pub under_level : (k : ℕ) → k < 33554433 → Tight level (decode k) → ⊥
unfolding Tight
under_level k h t =
    let u : Tight level (upto (eqb (k % 2) 1) (pos (k / 2) -ℤ pos 16777216)) = subst (Tight level) (decode_below k (omega arith)) t in
    omega (arith, ints, u, bit_odd (k % 2) (omega arith))

pub from_level : (k : ℕ) → 33554433 ≤ k → Tight level (decode k)
from_level k h = subst (λ l. Tight l (decode k)) level_code (decode_tight 33554433 k h)
  where
    level_code : decode 33554433 ≡ level
    level_code = decode_below 33554433 (omega arith)

-- a code that is not near is far
pub far_code : (k : ℕ) → k ≤ 4294967295 → (Near 4000000 k → ⊥) → Far (decode k)
unfolding Far
far_code k le n = ⊎_elim {C = Far (decode k)}
    (λ h. subst Far (sym (decode_below k h))
    (⊎_elim {C = Far (upto (eqb (k % 2) 1) (pos (k / 2) -ℤ pos 16777216))}
    (λ a. inl (omega (arith, ints)))
    (λ a. ⊎_elim {C = Far (upto (eqb (k % 2) 1) (pos (k / 2) -ℤ pos 16777216))}
    (λ b. absurd (n (λ _. omega arith, le)))
    (λ b. inr (omega (arith, ints)))
    (cases_lt k 41554434))
    (cases_lt k 25554432)))
    (λ h. absurd (n (λ l. absurd (omega arith), le)))
    (cases_lt k 4294967295)

pub near_code : (k : ℕ) → Near 4000000 k → Far (decode k) → ⊥
unfolding Far
near_code k n f = ⊎_elim {C = ⊥}
    (λ h. let r = n.0 h in ⊎_elim {C = ⊥} (λ a. omega (arith, ints)) (λ a. omega (arith, ints)) (subst Far (decode_below k h) f))
    (λ h. subst Far (decode_none k h) f)
    (cases_lt k 4294967295)

module _ {allows : ℕ → Bool} {normal : UpperBound → UpperBound} (K : ScaleLaws allows normal) (xs : List Code) (s : Sound xs) (keeps : OfDomain normal xs)
    (i j : ℕ) (hi : i < 9) (hj : j < 9) (l : UpperBound) (c : ℕ) (nc : Near 1000001 c) (ec : decode c ≡ normal l) where
  keeps_at : (a b : ℕ) → a < 9 → b < 9 → normal (at xs a b) ≡ at xs a b
  keeps_at a b ha hb = keeps (9 * a + b) (omega arith)

  way : decode (code_plus (code_of xs (9 * j + i)) c) ≡ plus (at xs j i) (normal l)
  way = decode_plus 4000000 1000001 _ _ (omega arith) (s.near (9 * j + i) (omega arith)) nc ∙ ap (plus (at xs j i)) ec

  pub none_left : code_plus (code_of xs (9 * j + i)) c < 33554433 → (D : ℕ) (v : ℕ → ℤ) → Left allows i j l xs D v → ⊥
  none_left h D v left =
      under_level _ h (subst (Tight level) (sym way)
      (cut_empty (at xs) i j hi hj (normal l) D (K.positive D left.0) v left.1 ((K.same D l left.0 (v i -ℤ v j)).0 left.2)))

  cut_code : (a b : ℕ) → a < 9 → b < 9 → decode (code_cut xs i j c (9 * a + b)) ≡ cut_at (at xs) i j (normal l) a b
  cut_code a b ha hb = decode_cut xs i j c a b hi hj ha hb s.near nc ∙ ap (λ m. cut_at (at xs) i j m a b) ec

  module _ (some : 33554433 ≤ code_plus (code_of xs (9 * j + i)) c) where
    ok : Tight level (plus (at xs j i) (normal l))
    ok = subst (Tight level) way (from_level _ some)

    canon : Canon (cut_at (at xs) i j (normal l))
    canon = cut_canon (at xs) s.canon i j hi hj (normal l) ok

    keeps_cut : (a b : ℕ) → a < 9 → b < 9 → normal (cut_at (at xs) i j (normal l) a b) ≡ cut_at (at xs) i j (normal l) a b
    keeps_cut = normal_cut K (at xs) i j (normal l) hi hj (normal_twice K l) keeps_at

    left_from : (D : ℕ) (v : ℕ → ℤ) → allows D ≡ true → Holds (cut_at (at xs) i j (normal l)) D v → Left allows i j l xs D v
    left_from D v al h =
        let r = cut_back (at xs) s.canon i j hi hj (normal l) D (K.positive D al) v h in
        (al, r.0, (K.same D l al (v i -ℤ v j)).1 r.1)

    -- a state is left
    pub some_left : (D : ℕ) × ((v : ℕ → ℤ) × ((v 0 ≡ pos 0) × Left allows i j l xs D v))
    some_left =
        let t = a_state K (cut_at (at xs) i j (normal l)) canon keeps_cut in
        (t.0, (t.1.0, (t.1.1.0, left_from t.0 t.1.0 t.1.1.1 t.1.1.2)))

    module _ (ys : List Code) (is : (p : ℕ) → p < 81 → (code_of ys p ≡ code_cut xs i j c p) × Near 4000000 (code_cut xs i j c p)) where
      pub at_is : (a b : ℕ) → a < 9 → b < 9 → at ys a b ≡ cut_at (at xs) i j (normal l) a b
      at_is a b ha hb = ap decode (is (9 * a + b) (omega arith)).0 ∙ cut_code a b ha hb

      pub still_sound : Sound ys
      still_sound = record {
        near = λ p h. subst (Near 4000000) (sym (is p h).0) (is p h).1;
        canon = canon_same (at ys) (cut_at (at xs) i j (normal l)) at_is canon;
      }

      pub still_kept : OfDomain normal ys
      still_kept p h =
          let e : 9 * (p / 9) + p % 9 ≡ p = omega arith in
          subst (λ q. normal (decode (code_of ys q)) ≡ decode (code_of ys q)) e
          (subst (λ m. normal m ≡ m) (sym (at_is (p / 9) (p % 9) (omega arith) (omega arith))) (keeps_cut (p / 9) (p % 9) (omega arith) (omega arith)))

      pub exact : (D : ℕ) (v : ℕ → ℤ) → allows D ≡ true → (Holds (at ys) D v → Left allows i j l xs D v) × (Left allows i j l xs D v → Holds (at ys) D v)
      exact D v al = (
        λ h. left_from D v al (λ a b ha hb. subst (Meets D (v a -ℤ v b)) (at_is a b ha hb) (h a b ha hb)),
        λ t a b ha hb. subst (Meets D (v a -ℤ v b)) (sym (at_is a b ha hb))
            (cut_holds (at xs) s.canon i j hi hj (normal l) D (K.positive D al) v t.1 ((K.same D l al (v i -ℤ v j)).0 t.2) a b ha hb),
      )

      pub not_over : Over normal i j l xs → ⊥
      not_over o = near_code (code_cut xs i j c (9 * o.0 + o.1.0)) (is _ (omega (arith, o.1.1.0, o.1.1.1))).1
          (subst Far (sym (cut_code o.0 o.1.0 o.1.1.0 o.1.1.1)) o.1.1.2)

  pub over : ((p : ℕ) × (p < 81) × (Near 4000000 (code_cut xs i j c p) → ⊥)) → Over normal i j l xs
  unfolding code_cut
  over o =
      let p = o.0 in
      let h = o.1 in
      let e : 9 * (p / 9) + p % 9 ≡ p = omega arith in
      let ha : p / 9 < 9 = omega (arith, h) in
      let hb : p % 9 < 9 = omega arith in
      (p / 9, (p % 9, (ha, hb, subst Far (ap (λ q. decode (code_cut xs i j c q)) (sym e) ∙ cut_code (p / 9) (p % 9) ha hb) (far_code _ (cut_le p h) o.2))))
    where
      cut_le : (p : ℕ) → p < 81 → code_cut xs i j c p ≤ 4294967295
      cut_le p h = omega (arith, (s.near p h).1)

-- what a fit cut by a bound with the code c answers
module _ {allows : ℕ → Bool} {normal : UpperBound → UpperBound} (K : ScaleLaws allows normal) (xs : List Code) (s : Sound xs) (i j : ℕ) (b : UpperBound)
    (fit : Fit normal i j b xs) (c : ℕ) (code : CodeOf (normal b) c) where
  pub cut_empties : code_plus (code_of xs (9 * j + i)) c < 33554433 → CutEmpty allows normal i j b xs xs
  cut_empties h = record {
    fit = fit;
    gone = none_left K xs s fit.of_domain i j fit.row fit.column b c code.near code.is h;
    unchanged = refl;
  }

  module _ (some : 33554433 ≤ code_plus (code_of xs (9 * j + i)) c) where
    pub cut_overs : ((p : ℕ) × (p < 81) × (Near 4000000 (code_cut xs i j c p) → ⊥)) → CutOver allows normal i j b xs xs
    cut_overs o = record {
      fit = fit;
      some = some_left K xs s fit.of_domain i j fit.row fit.column b c code.near code.is some;
      over = over K xs s fit.of_domain i j fit.row fit.column b c code.near code.is o;
      unchanged = refl;
    }

    module _ (ys : List Code) (is : (p : ℕ) → p < 81 → (code_of ys p ≡ code_cut xs i j c p) × Near 4000000 (code_cut xs i j c p)) where
      pub cut_sound : Sound ys
      cut_sound = still_sound K xs s fit.of_domain i j fit.row fit.column b c code.near code.is some ys is

      pub cut_keeps : CutKept allows normal i j b xs ys
      cut_keeps = record {
        fit = fit;
        in_range = not_over K xs s fit.of_domain i j fit.row fit.column b c code.near code.is some ys is;
        of_domain = still_kept K xs s fit.of_domain i j fit.row fit.column b c code.near code.is some ys is;
        bounds = at_is K xs s fit.of_domain i j fit.row fit.column b c code.near code.is some ys is;
        states = exact K xs s fit.of_domain i j fit.row fit.column b c code.near code.is some ys is;
      }

pub none_beyond : Beyond none → ⊥
unfolding Beyond
none_beyond h = h

pub not_vast : (s : Bool) (n : ℤ) → negsuc 3999999 ≤ℤ n → n ≤ℤ pos 4000000 → Vast (upto s n) → ⊥
unfolding Vast
not_vast s n h k b = ⊎_elim {C = ⊥} (λ a. omega (arith, ints)) (λ a. omega (arith, ints)) b

-- the bound of a code that is near is not vast
pub near_not_vast : (k : ℕ) (b : UpperBound) → b ≡ decode k → Near 4000000 k → Vast b → ⊥
unfolding Vast
near_not_vast k b e n v = ⊎_elim {C = ⊥}
    (λ h. let r = n.0 h in ⊎_elim {C = ⊥} (λ a. omega (arith, ints)) (λ a. omega (arith, ints)) (subst Vast (e ∙ decode_below k h) v))
    (λ h. subst Vast (e ∙ decode_none k h) v)
    (cases_lt k 4294967295)

-- whether a bound that is not vast comes back as it was
pub normal_answer : (normal : UpperBound → UpperBound) (b : Bound) (k : ℕ) → upto b.closed b.number ≡ decode k → Near 4000000 k
    → (r : Result Bound Refusal) (v : Bool) (P : Bound → Type 0) → ((n : Bound) → P n → Iff (v ≡ true) (n ≡ b)) → NormalSays normal (upto b.closed b.number) r → MatchResult r P (λ _. v ≡ false) → Iff (v ≡ true) (normal (decode k) ≡ decode k)
normal_answer normal b k e near (Ok n) v P f says h =
    let back : normal (decode k) ≡ upto n.closed n.number = sym (ap normal e) ∙ sym says.0 in (
      λ t. back ∙ ap (λ (m : Bound). upto m.closed m.number) ((f n h).0 t) ∙ e,
      λ q. (f n h).1 (same_bound n b (sym back ∙ q ∙ sym e)),
    )
  where
    same_bound : (x y : Bound) → upto x.closed x.number ≡ upto y.closed y.number → x ≡ y
    same_bound x y q = let c : x.closed ≡ y.closed = cc in let m : x.number ≡ y.number = cc in
        ap (λ (s : Bool). record { number = x.number; closed = s }) c ∙ ap (λ (n : ℤ). record { number = n; closed = y.closed }) m
normal_answer normal b k e near (Err why) v P f says h = absurd (near_not_vast k _ e near says.1)

-- the normal form of a bound is close by
pub close : {allows : ℕ → Bool} {normal : UpperBound → UpperBound} (K : ScaleLaws allows normal) (s t : Bool) (m n : ℤ) → upto t n ≡ normal (upto s m) → (n ≤ℤ (m +ℤ pos 1)) × (m ≤ℤ (n +ℤ pos 1))
close K s t m n e = close-numbers s t m n (subst (Alike 1 (upto s m)) (sym e) (K.same 1 (upto s m) K.one))

-- a cut by none
module _ {allows : ℕ → Bool} {normal : UpperBound → UpperBound} (K : ScaleLaws allows normal) (xs : List Code) (s : Sound xs) (keeps : OfDomain normal xs) (i j : ℕ) where
  none_cut : (x y z : UpperBound) → tighter x (plus (plus y none) z) ≡ x
  unfolding plus
  none_cut x none z = tighter_first x none (none_last x)
  none_cut x (upto t y) z = tighter_first x none (none_last x)

  pub none_is : (a b : ℕ) → a < 9 → b < 9 → at xs a b ≡ cut_at (at xs) i j (normal none) a b
  none_is a b ha hb = sym (ap (λ l. cut_at (at xs) i j l a b) (normal_none K) ∙ none_cut (at xs a b) (at xs a i) (at xs j b))

  pub none_over : Over normal i j none xs → ⊥
  none_over o = near_code (code_of xs (9 * o.0 + o.1.0)) (s.near _ (omega (arith, o.1.1.0, o.1.1.1)))
      (subst Far (sym (none_is o.0 o.1.0 o.1.1.0 o.1.1.1)) o.1.1.2)

  pub none_exact : (D : ℕ) (v : ℕ → ℤ) → allows D ≡ true → (Holds (at xs) D v → Left allows i j none xs D v) × (Left allows i j none xs D v → Holds (at xs) D v)
  unfolding Meets
  none_exact D v al = (λ h. (al, h, tt), λ l. l.1)
