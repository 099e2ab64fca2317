-- What the laws of a time domain give of normal forms: none stays none, a number moves by one at most, twice is once,
-- and of two different ones some difference meets one alone
use Rattle.std.proofs.Common.{◌≡◌, ℕ, ◌*◌, ◌≤◌, Bool, true, false, ◌⊎◌, ℤ, pos, negsuc, ◌+ℤ◌, ◌-ℤ◌, ◌*ℤ◌, ◌≤ℤ◌, ◌<ℤ◌, sym, refl, ap, ◌∙◌, subst, inl, inr, ⊎_elim, mul-one, arith}
use borrow.Author.Differences.{ints}
use Rattle.std.proofs.lemmas.Int.{by_lt_z}
use Rattle.bounds.specs.Bounds.{UpperBound, none, upto, plus, level, Meets, Tight}
use Rattle.bounds.specs.Domains.{Alike, Lawful, scales}
use Rattle.bounds.specs.Chosen.{AlwaysAlike}
use Rattle.bounds.specs.Laws.{times_is, times_le, times_plus, tight_same}
use Rattle.bounds.proofs.ScaleLaws.{ScaleLaws, scale_laws, scale_allowed}

all_met : (l : UpperBound) → ((d : ℤ) → Meets 1 d l) → l ≡ none
unfolding Meets
all_met none h = refl
all_met (upto true c) h = absurd (omega (arith, ints, h (c +ℤ pos 1), times_is c 1))
all_met (upto false c) h = absurd (omega (arith, ints, h c, times_is c 1))

right : (a : UpperBound) → plus a level ≡ a
unfolding plus
right none = refl
right (upto true a) = ap (upto true) (omega (arith, ints))
right (upto false a) = ap (upto false) (omega (arith, ints))

-- two bounds that are met by the same differences at scale 1 have numbers one apart at most
pub close : (s t : Bool) (c e : ℤ) → Alike 1 (upto s c) (upto t e) → (e ≤ℤ (c +ℤ pos 1)) × (c ≤ℤ (e +ℤ pos 1))
unfolding Meets
close true true c e h = let x = (h c).0 (omega (arith, ints, times_is c 1)) in let y = (h e).1 (omega (arith, ints, times_is e 1)) in (omega (arith, ints, times_is c 1, times_is e 1), omega (arith, ints, times_is c 1, times_is e 1))
close true false c e h = let x = (h c).0 (omega (arith, ints, times_is c 1)) in let y = (h (e -ℤ pos 1)).1 (omega (arith, ints, times_is e 1)) in (omega (arith, ints, times_is c 1, times_is e 1), omega (arith, ints, times_is c 1, times_is e 1))
close false true c e h = let x = (h (c -ℤ pos 1)).0 (omega (arith, ints, times_is c 1)) in let y = (h e).1 (omega (arith, ints, times_is e 1)) in (omega (arith, ints, times_is c 1, times_is e 1), omega (arith, ints, times_is c 1, times_is e 1))
close false false c e h = let x = (h (c -ℤ pos 1)).0 (omega (arith, ints, times_is c 1)) in let y = (h (e -ℤ pos 1)).1 (omega (arith, ints, times_is e 1)) in (omega (arith, ints, times_is c 1, times_is e 1), omega (arith, ints, times_is c 1, times_is e 1))

-- some difference, at a scale that counts, meets a and not b
abbrev pub Apart : (ℕ → Bool) → UpperBound → UpperBound → Type 0
Apart allows a b = (m : ℕ) × ((d : ℤ) × ((1 ≤ m) × (allows m ≡ true) × Meets m d a × (Meets m d b → ⊥)))

module _ {allows : ℕ → Bool} {normal : UpperBound → UpperBound} (K : ScaleLaws allows normal) where
  pub normal_none : normal none ≡ none
  unfolding Meets
  normal_none = all_met (normal none) (λ d. (K.same 1 none K.one d).0 (none_met d))
    where
      none_met : (d : ℤ) → Meets 1 d none
      none_met d = tt

  pub normal_plus : (a b : UpperBound) → normal a ≡ a → normal b ≡ b → normal (plus a b) ≡ plus a b
  normal_plus a b e f = ap (λ l. normal (plus l b)) (sym e) ∙ ap (λ l. normal (plus (normal a) l)) (sym f) ∙ K.sums a b ∙ ap (λ l. plus l (normal b)) e ∙ ap (plus a) f

  pub normal_twice : (l : UpperBound) → normal (normal l) ≡ normal l
  normal_twice l = ap normal (sym (right (normal l))) ∙ ap (λ m. normal (plus (normal l) m)) (sym K.zero) ∙ K.sums l level ∙ ap (plus (normal l)) K.zero ∙ right (normal l)

  at_one : (a b : UpperBound) (d : ℤ) → Meets 1 d a → (Meets 1 d b → ⊥) → Apart allows a b
  at_one a b d h n = (1, (d, (omega arith, K.one, h, n)))

  -- a bound in normal form that is not as tight as b is told apart from it by some difference
  pub apart : (a b : UpperBound) → normal a ≡ a → (Tight a b → ⊥) → Apart allows a b
  unfolding Meets Tight plus
  apart a none e n = absurd (n tt)
  apart none (upto true c) e n = at_one none (upto true c) (c +ℤ pos 1) tt (λ h. omega (arith, ints, times_is c 1))
  apart none (upto false c) e n = at_one none (upto false c) c tt (λ h. omega (arith, ints, times_is c 1))
  apart (upto true p) (upto true q) e n = by_lt_z q p
      (λ h. at_one (upto true p) (upto true q) p (omega (arith, ints, times_is p 1)) (λ k. omega (arith, ints, times_is q 1)))
      (λ h. absurd (n (omega (arith, ints))))
  apart (upto true p) (upto false q) e n = by_lt_z p q
      (λ h. absurd (n (omega (arith, ints))))
      (λ h. at_one (upto true p) (upto false q) p (omega (arith, ints, times_is p 1)) (λ k. omega (arith, ints, times_is q 1)))
  apart (upto false p) (upto false q) e n = by_lt_z q p
      (λ h. at_one (upto false p) (upto false q) (p -ℤ pos 1) (omega (arith, ints, times_is p 1)) (λ k. omega (arith, ints, times_is q 1)))
      (λ h. absurd (n (omega (arith, ints))))
  apart (upto false p) (upto true q) e n = by_lt_z q p
      (λ h.
      let d : ℤ = (p +ℤ p) -ℤ pos 1 in
      let s = K.splits 1 d (upto false p) (upto false p) K.one e e (omega (arith, ints, times_is (p +ℤ p) 1)) in
      let g : (q +ℤ pos 1) ≤ℤ p = omega (arith, ints) in (
        s.m * 1,
        (
          s.x,
          (
            K.positive _ s.allowed,
            s.allowed,
            s.first,
            λ k. between_two q p s.x s.y s.m (s.m * 1) (mul-one s.m) s.some h s.sum s.second k,
          ),
        ),
      ))
      (λ h. absurd (n (omega (arith, ints))))
    where
      between_two : (q p x y : ℤ) (m k : ℕ) → k ≡ m → 1 ≤ m → q <ℤ p → x +ℤ y ≡ ((p +ℤ p) -ℤ pos 1) *ℤ pos m → y <ℤ (p *ℤ pos k) → x ≤ℤ (q *ℤ pos k) → ⊥
      between_two q p x y m k e big h s f g =
          let w : (q +ℤ pos 1) ≤ℤ p = omega (arith, ints) in
          let f' : y <ℤ (p *ℤ pos m) = subst (λ n. y <ℤ (p *ℤ pos n)) e f in
          let g' : x ≤ℤ (q *ℤ pos m) = subst (λ n. x ≤ℤ (q *ℤ pos n)) e g in
          omega (arith, ints, times_plus p p m, times_plus (p +ℤ p) (negsuc 0) m, times_is (negsuc 0) m, times_plus q (pos 1) m, times_is (pos 1) m, times_le (q +ℤ pos 1) p m w)

-- a decision: tight, or not
pub tight_or : (a b : UpperBound) → Tight a b ⊎ (Tight a b → ⊥)
unfolding Tight
tight_or a none = inl tt
tight_or none (upto t b) = inr (λ h. h)
tight_or (upto s a) (upto t b) = by_lt_z _ _ (λ h. inr (λ k. omega (arith, ints))) (λ h. inl h)

module _ {allows : ℕ → Bool} {normal : UpperBound → UpperBound} (L : Lawful allows normal) where
  K : ScaleLaws (scales allows) normal
  K = scale_laws allows normal L

  -- bounds with one normal form are always alike
  pub alike_normal : (a b : UpperBound) → normal a ≡ normal b → AlwaysAlike allows a b
  alike_normal a b e D big al d = (
    λ h. (L.same D b big al d).1 (subst (Meets D d) e ((L.same D a big al d).0 h)),
    λ h. (L.same D a big al d).1 (subst (Meets D d) (sym e) ((L.same D b big al d).0 h)),
  )

  as_tight : (a b : UpperBound) → AlwaysAlike allows a b → Tight (normal a) (normal b)
  as_tight a b f = ⊎_elim {C = Tight (normal a) (normal b)} (λ t. t)
      (λ n. let p = apart K (normal a) (normal b) (normal_twice K a) n in
      let D = p.0 in
      let d = p.1.0 in
      let q = p.1.1 in
      let al = scale_allowed allows D q.1 in
      absurd (q.3 ((L.same D b q.0 al d).0 ((f D q.0 al d).0 ((L.same D a q.0 al d).1 q.2)))))
      (tight_or (normal a) (normal b))

  turned : (a b : UpperBound) → AlwaysAlike allows a b → AlwaysAlike allows b a
  turned a b f D big al d = ((f D big al d).1, (f D big al d).0)

  -- bounds that are always alike have one normal form
  pub normal_alike : (a b : UpperBound) → AlwaysAlike allows a b → normal a ≡ normal b
  normal_alike a b f = tight_same _ _ (as_tight a b f) (as_tight b a (turned a b f))
