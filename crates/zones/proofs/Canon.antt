-- A cut of a canonical zone is canonical, and exact
use Rattle.std.proofs.Common.{◌≡◌, ℕ, ◌<◌, ◌≤◌, true, false, ℤ, pos, ◌+ℤ◌, ◌-ℤ◌, ◌≤ℤ◌, sym, ap, ◌∙◌, subst, arith}
use borrow.Author.Differences.{ints}
use lib.Signed.{le_z}
use Rattle.std.proofs.lemmas.Bool.{cond_both}
use Rattle.bounds.specs.Bounds.{UpperBound, none, upto, plus, level, Meets, Tight, bit}
use Rattle.zones.specs.Matrices.{tighter, Canon, Holds, cut_at}
use Rattle.bounds.specs.Laws.{plus_assoc, plus_comm, plus_level, tight_refl, tight_trans, tight_same, tight_plus, meets_plus, meets_looser, times_is, times_le, times_plus}
use Rattle.std.proofs.lemmas.Int.{by_lt_z}

pub tighter_left : (a b : UpperBound) → Tight (tighter a b) a
unfolding tighter Tight
tighter_left none b = tt
tighter_left (upto s a) none = tight_refl (upto s a)
tighter_left (upto s a) (upto t b) = cond_both (le_z ((a +ℤ a) +ℤ pos (bit s)) ((b +ℤ b) +ℤ pos (bit t))) (upto s a) (upto t b) (λ l. Tight l (upto s a)) (λ e. tight_refl (upto s a)) (λ e. omega (arith, ints))

pub tighter_right : (a b : UpperBound) → Tight (tighter a b) b
unfolding tighter Tight
tighter_right none b = tight_refl b
tighter_right (upto s a) none = tt
tighter_right (upto s a) (upto t b) = cond_both (le_z ((a +ℤ a) +ℤ pos (bit s)) ((b +ℤ b) +ℤ pos (bit t))) (upto s a) (upto t b) (λ l. Tight l (upto t b)) (λ e. omega (arith, ints)) (λ e. tight_refl (upto t b))

pub tighter_one : (P : UpperBound → Type 0) (a b : UpperBound) → P a → P b → P (tighter a b)
unfolding tighter
tighter_one P none b h k = k
tighter_one P (upto s a) none h k = h
tighter_one P (upto s a) (upto t b) h k = cond_both (le_z ((a +ℤ a) +ℤ pos (bit s)) ((b +ℤ b) +ℤ pos (bit t))) (upto s a) (upto t b) P (λ e. h) (λ e. k)

plus_level_right : (a : UpperBound) → plus a level ≡ a
plus_level_right a = plus_comm a level ∙ plus_level a

module _ (Z : ℕ → ℕ → UpperBound) (can : Canon Z) (i j : ℕ) (p : i < 9) (q : j < 9) (c : UpperBound) where
  -- no way round by the new bound is tighter than `<= 0`
  turn : Tight level (plus (Z j i) c) → (a : ℕ) → a < 9 → Tight level (plus (plus (Z j a) (Z a i)) c)
  turn ok a h = tight_trans _ _ _ ok (tight_plus _ _ _ _ (can.around j i a q p h) (tight_refl c))

  cut_around : Tight level (plus (Z j i) c) → (a b k : ℕ) → a < 9 → b < 9 → k < 9 → Tight (cut_at Z i j c a b) (plus (cut_at Z i j c a k) (cut_at Z i j c k b))
  cut_around ok a b k ha hb hk =
      tighter_one (λ l. Tight (cut_at Z i j c a b) (plus l (cut_at Z i j c k b))) (Z a k) (plus (plus (Z a i) c) (Z j k))
      (tighter_one (λ l. Tight (cut_at Z i j c a b) (plus (Z a k) l)) (Z k b) (plus (plus (Z k i) c) (Z j b))
      (tight_trans _ _ _ (tighter_left _ _) (can.around a b k ha hb hk))
      (tight_trans _ _ _ (tighter_right _ _)
      (subst (Tight (plus (plus (Z a i) c) (Z j b))) (ap (λ l. plus l (Z j b)) (plus_assoc (Z a k) (Z k i) c) ∙ plus_assoc (Z a k) (plus (Z k i) c) (Z j b))
      (tight_plus _ _ _ _ (tight_plus _ _ _ _ (can.around a i k ha p hk) (tight_refl c)) (tight_refl (Z j b))))))
      (tighter_one (λ l. Tight (cut_at Z i j c a b) (plus (plus (plus (Z a i) c) (Z j k)) l)) (Z k b) (plus (plus (Z k i) c) (Z j b))
      (tight_trans _ _ _ (tighter_right _ _)
      (subst (Tight (plus (plus (Z a i) c) (Z j b))) (sym (plus_assoc (plus (Z a i) c) (Z j k) (Z k b)))
      (tight_plus _ _ _ _ (tight_refl (plus (Z a i) c)) (can.around j b k q hb hk))))
      (tight_trans _ _ _ (tighter_right _ _)
      (subst (Tight (plus (plus (Z a i) c) (Z j b))) (round a b k)
      (tight_plus _ _ _ _ (subst (λ l. Tight l (plus (plus (Z a i) c) (plus (plus (Z j k) (Z k i)) c))) (plus_level_right (plus (Z a i) c)) (tight_plus _ _ _ _ (tight_refl (plus (Z a i) c)) (turn ok k hk))) (tight_refl (Z j b))))))
    where
      round : (a b k : ℕ) → plus (plus (plus (Z a i) c) (plus (plus (Z j k) (Z k i)) c)) (Z j b) ≡ plus (plus (plus (Z a i) c) (Z j k)) (plus (plus (Z k i) c) (Z j b))
      round a b k = simp plus_assoc

  pub cut_canon : Tight level (plus (Z j i) c) → Canon (cut_at Z i j c)
  cut_canon ok = record {
    diagonal = λ a h. tight_same _ _
        (subst (Tight (cut_at Z i j c a a)) (can.diagonal a h) (tighter_left _ _))
        (tighter_one (Tight level) (Z a a) (plus (plus (Z a i) c) (Z j a))
        (subst (Tight level) (sym (can.diagonal a h)) (tight_refl level))
        (subst (Tight level) (plus_assoc (Z j a) (Z a i) c ∙ plus_comm (Z j a) (plus (Z a i) c)) (turn ok a h)));
    front = λ b h. tight_trans _ _ _ (tighter_left _ _) (can.front b h);
    around = cut_around ok;
  }

  -- it is no looser than c at (i, j)
  cut_there : Tight (cut_at Z i j c i j) c
  cut_there = subst (Tight (cut_at Z i j c i j))
      (ap (λ l. plus (plus l c) (Z j j)) (can.diagonal i p) ∙ ap (plus (plus level c)) (can.diagonal j q) ∙ plus_level_right (plus level c) ∙ plus_level c)
      (tighter_right _ _)

  pub cut_holds : (D : ℕ) → 1 ≤ D → (v : ℕ → ℤ) → Holds Z D v → Meets D (v i -ℤ v j) c → Holds (cut_at Z i j c) D v
  cut_holds D big v h m a b ha hb = tighter_one (Meets D (v a -ℤ v b)) (Z a b) (plus (plus (Z a i) c) (Z j b)) (h a b ha hb)
      (let e : ((v a -ℤ v i) +ℤ (v i -ℤ v j)) +ℤ (v j -ℤ v b) ≡ v a -ℤ v b = omega (arith, ints) in
      subst (λ d. Meets D d (plus (plus (Z a i) c) (Z j b))) e
      (meets_plus D _ _ _ _ (meets_plus D _ _ _ _ (h a i ha p) m) (h j b q hb)))

  pub cut_back : (D : ℕ) → 1 ≤ D → (v : ℕ → ℤ) → Holds (cut_at Z i j c) D v → Holds Z D v × Meets D (v i -ℤ v j) c
  cut_back D big v h = (λ a b ha hb. meets_looser D big _ _ _ (tighter_left _ _) (h a b ha hb), meets_looser D big _ _ _ cut_there (h i j p q))

-- a difference of 0 meets nothing tighter than `<= 0`
pub zero_meets : (D : ℕ) → 1 ≤ D → (l : UpperBound) → Meets D (pos 0) l → Tight level l
unfolding Meets Tight
zero_meets D big none h = tt
zero_meets D big (upto true c) h = by_lt_z c (pos 0) (λ n. let q : (c +ℤ pos 1) ≤ℤ pos 0 = omega (arith, ints) in absurd (omega (arith, ints, times_le (c +ℤ pos 1) (pos 0) D q, times_plus c (pos 1) D, times_is (pos 1) D, times_is (pos 0) D))) (λ n. omega (arith, ints))
zero_meets D big (upto false c) h = by_lt_z (pos 0) c (λ n. omega (arith, ints)) (λ n. absurd (omega (arith, ints, times_le c (pos 0) D n, times_is (pos 0) D)))

-- no state meets both, where the way round is tighter than `<= 0`
pub cut_empty : (Z : ℕ → ℕ → UpperBound) (i j : ℕ) → i < 9 → j < 9 → (c : UpperBound) (D : ℕ) → 1 ≤ D → (v : ℕ → ℤ) → Holds Z D v → Meets D (v i -ℤ v j) c → Tight level (plus (Z j i) c)
cut_empty Z i j p q c D big v h m =
    let e : (v j -ℤ v i) +ℤ (v i -ℤ v j) ≡ pos 0 = omega (arith, ints) in
    zero_meets D big _ (subst (λ d. Meets D d (plus (Z j i) c)) e (meets_plus D _ _ _ _ (h j i q p) m))
