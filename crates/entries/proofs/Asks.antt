-- A zone asks nothing of the clocks above n exactly if its bounds follow from those among the others
use Rattle.std.proofs.Common.{◌≡◌, ℕ, ◌+◌, ◌*◌, ◌/◌, ◌%◌, ◌<◌, ◌≤◌, Bool, true, false, cond, eqb, List, get_or, ℤ, pos, negsuc, ◌+ℤ◌, ◌-ℤ◌, ◌*ℤ◌, nat_abs, ◌≤ℤ◌, None, Option, sym, refl, ap, ◌∙◌, subst, ⊎_elim, arith, eq-eqb, ne_eqb}
use borrow.Author.Differences.{ints}
use Rattle.std.proofs.lemmas.Bool.{cases_lt, cases_eq, cond-true, cond-false}
use Rattle.bounds.specs.Bounds.{UpperBound, none, upto, plus, level, Meets, Tight}
use Rattle.bounds.specs.Domains.{scales, hand_allows, hand_normal}
use Rattle.bounds.specs.DomainLaws.{hand_lawful}
use Rattle.bounds.specs.Laws.{times_is, plus_comm, plus_level, tight_same}
use Rattle.bounds.proofs.ScaleLaws.{ScaleLaws, scale_laws}
use Rattle.bounds.proofs.Apart.{tight_or}
use Rattle.zones.specs.declared.codes.Code.{Code}
use Rattle.zones.specs.Matrices.{Holds, Readings}
use Rattle.zones.specs.Codes.{Sound, at}
use Rattle.zones.proofs.Canon.{zero_meets}
use Rattle.zones.proofs.Whole.{a_reading, no_less}
use Rattle.zones.proofs.Within.{within_out}
use Rattle.bounds.specs.declared.bound.Bound.{Bound}
use Rattle.bounds.specs.Sums.{bound_of}
use Rattle.entries.specs.Entries.{AsksNothing, whole, bounds_at}
use Rattle.entries.proofs.Wholes.{whole_same, whole_none, whole_kept, whole_zero, whole_first, whole_alike}

-- every bound follows from those among the clocks up to n
abbrev pub Free : ℕ → (ℕ → ℕ → UpperBound) → Type 0
Free n Z = (i j : ℕ) → i < 9 → j < 9 → Z i j ≡ whole n Z i j

laws : ScaleLaws (scales hand_allows) hand_normal
laws = scale_laws hand_allows hand_normal hand_lawful

-- a smaller difference meets what a larger one does
meets_down : (D : ℕ) (d e : ℤ) (b : UpperBound) → e ≤ℤ d → Meets D d b → Meets D e b
unfolding Meets
meets_down D d e none h m = tt
meets_down D d e (upto true c) h m = omega (arith, ints)
meets_down D d e (upto false c) h m = omega (arith, ints)

low_meets : (D : ℕ) (d : ℤ) → d ≤ℤ pos 0 → Meets D d level
unfolding Meets
low_meets D d h = omega (arith, ints, times_is (pos 0) D)

-- clock c set to x
moved : (ℕ → ℤ) → ℕ → ℤ → ℕ → ℤ
moved v c x k = cond (eqb k c) x (v k)

moved_here : (v : ℕ → ℤ) (c : ℕ) (x : ℤ) → moved v c x c ≡ x
unfolding moved
moved_here v c x = cond-true (eqb c c) _ _ (eq-eqb c c refl)

moved_other : (v : ℕ → ℤ) (c : ℕ) (x : ℤ) (k : ℕ) → (k ≡ c → ⊥) → moved v c x k ≡ v k
unfolding moved
moved_other v c x k h = cond-false (eqb k c) _ _ (ne_eqb k c h)

moved_readings : (v : ℕ → ℤ) (c : ℕ) (x : ℤ) → 0 < c → pos 0 ≤ℤ x → Readings v → Readings (moved v c x)
moved_readings v c x h px rd = (
  moved_other v c x 0 (λ e. omega arith) ∙ rd.0,
  λ k hk. ⊎_elim {C = pos 0 ≤ℤ moved v c x k}
      (λ e. subst (λ (t : ℤ). pos 0 ≤ℤ t) (sym (ap (moved v c x) e ∙ moved_here v c x)) px)
      (λ d. subst (λ (t : ℤ). pos 0 ≤ℤ t) (sym (moved_other v c x k d)) (rd.1 k hk))
      (cases_eq k c),
)

-- a product is not above that with the size in its place
size : (c : ℤ) (D : ℕ) → (c *ℤ pos D) ≤ℤ pos (nat_abs c * D)
size (pos c) D = omega (arith, ints, times_is (pos c) D)
size (negsuc c) D = omega (arith, ints, times_is (negsuc c) D)

any : (D : ℕ) (d : ℤ) → Meets D d none
unfolding Meets
any D d = tt

too_far : (D : ℕ) (y c : ℤ) (t : Bool) → Meets D (((y +ℤ pos (nat_abs c * D)) +ℤ pos 1) -ℤ y) (upto t c) → ⊥
unfolding Meets
too_far D y c true h = omega (arith, ints, size c D)
too_far D y c false h = omega (arith, ints, size c D)

module _ (n : ℕ) (xs : List Code) (s : Sound xs) where
  pub free_asks : Free n (at xs) → AsksNothing n xs
  free_asks f D v w big rv rw same h i j hi hj =
      subst (Meets D (w i -ℤ w j)) (sym (f i j hi hj))
      (⊎_elim {C = Meets D (w i -ℤ w j) (whole n (at xs) i j)}
      (λ e. subst (Meets D (w i -ℤ w j)) (whole_same n (at xs) i j e) (low_meets D _ (let z = ap w e in omega (arith, ints, z))))
      (λ d. ⊎_elim {C = Meets D (w i -ℤ w j) (whole n (at xs) i j)}
      (λ l. subst (Meets D (w i -ℤ w j)) (whole_none n (at xs) i j d l) (any D (w i -ℤ w j)))
      (λ l. ⊎_elim {C = Meets D (w i -ℤ w j) (whole n (at xs) i j)}
      (λ k. ⊎_elim {C = Meets D (w i -ℤ w j) (whole n (at xs) i j)}
      (λ z. subst (Meets D (w i -ℤ w j)) (whole_zero n (at xs) i j d l k z) (low_meets D _ (let a = ap w z in omega (arith, ints, a, rw.0, rw.1 j hj))))
      (λ z. subst (Meets D (w i -ℤ w j)) (whole_first n (at xs) i j d l k z) (meets_down D (v i -ℤ v 0) (w i -ℤ w j) (at xs i 0) (omega (arith, ints, same i l, rv.0, rw.1 j hj)) (h i 0 hi (omega arith))))
      (cases_eq i 0))
      (λ k. subst (Meets D (w i -ℤ w j)) (whole_kept n (at xs) i j d l k) (meets_down D (v i -ℤ v j) (w i -ℤ w j) (at xs i j) (omega (arith, ints, same i l, same j k)) (h i j hi hj)))
      (cases_lt n j))
      (cases_lt n i))
      (cases_eq i j))

  -- what the zone holds, it holds with a clock above n at any reading
  module _ (asks : AsksNothing n xs) where
    shifts : (D : ℕ) (v : ℕ → ℤ) → 1 ≤ D → Readings v → Holds (at xs) D v → (c : ℕ) (x : ℤ) → n < c → pos 0 ≤ℤ x → Holds (at xs) D (moved v c x)
    shifts D v big rd h c x l px = asks D v (moved v c x) big rd (moved_readings v c x (omega arith) px rd) (λ k hk. moved_other v c x k (λ e. omega arith)) h

    unbounded : (i j : ℕ) → i < 9 → j < 9 → n < i → (i ≡ j → ⊥) → (b : UpperBound) → at xs i j ≡ b → b ≡ none
    unbounded i j hi hj l d none e = refl
    unbounded i j hi hj l d (upto t c) e =
        let r = a_reading laws (at xs) s.canon (λ a b ha hb. refl) in
        let D = r.0 in
        let v = r.1.0 in
        let rd = r.1.1.1 in
        let x : ℤ = (v j +ℤ pos (nat_abs c * D)) +ℤ pos 1 in
        let h = shifts D v (laws.positive D r.1.1.0) rd r.1.1.2 i x l (omega (arith, ints, rd.1 j hj)) in
        absurd (too_far D (v j) c t (subst (λ d. Meets D d (upto t c)) ((λ k. moved_here v i x k -ℤ moved_other v i x j (λ z. d (sym z)) k)) (subst (Meets D (moved v i x i -ℤ moved v i x j)) e (h i j hi hj))))

    -- clock j at 0
    at_zero : (D : ℕ) (v : ℕ → ℤ) → 1 ≤ D → Readings v → Holds (at xs) D v → (i j : ℕ) → i < 9 → j < 9 → n < j → (i ≡ j → ⊥) → Meets D (v i -ℤ pos 0) (at xs i j)
    at_zero D v big rd h i j hi hj l d =
        subst (λ t. Meets D t (at xs i j)) ((λ k. moved_other v j (pos 0) i d k -ℤ moved_here v j (pos 0) k)) (shifts D v big rd h j (pos 0) l (omega (arith, ints)) i j hi hj)

    front : (j : ℕ) → j < 9 → n < j → at xs 0 j ≡ level
    front j hj l =
        let r = a_reading laws (at xs) s.canon (λ a b ha hb. refl) in
        let D = r.0 in
        let v = r.1.0 in
        let rd = r.1.1.1 in
        let big = laws.positive D r.1.1.0 in
        let m = at_zero D v big rd r.1.1.2 0 j (omega arith) hj l (λ e. omega arith) in
        let z : v 0 -ℤ pos 0 ≡ pos 0 = omega (arith, ints, rd.0) in
        tight_same (at xs 0 j) level (s.canon.front j hj) (zero_meets D big (at xs 0 j) (subst (λ t. Meets D t (at xs 0 j)) z m))

    first_in : (i j : ℕ) → i < 9 → j < 9 → n < j → Tight (at xs i j) (at xs i 0)
    first_in i j hi hj l =
        subst (Tight (at xs i j)) (ap (plus (at xs i 0)) (front j hj l) ∙ plus_comm (at xs i 0) level ∙ plus_level (at xs i 0)) (s.canon.around i j 0 hi hj (omega arith))

    first_out : (i j : ℕ) → i < 9 → j < 9 → n < j → (i ≡ j → ⊥) → (b : UpperBound) → at xs i j ≡ b → Tight (at xs i 0) b
    unfolding Tight
    first_out i j hi hj l d none e = tt
    first_out i j hi hj l d (upto t c) e =
        ⊎_elim {C = Tight (at xs i 0) (upto t c)}
        (λ y. y)
        (λ no-tight.
        let r = within_out laws (at xs) s.canon (λ a b ha hb. refl) i 0 hi (omega arith) (upto t c) (λ z. let o : ◌≡◌ {A = ℕ} 0 1 = cc in omega arith) no-tight in
        let D = r.0 in
        let v = r.1.0 in
        let f = r.1.1 in
        let big = laws.positive D f.1 in
        let m = at_zero D v big (f.0, no_less laws (at xs) s.canon (λ a b ha hb. refl) D v big f.0 f.2) f.2 i j hi hj l d in
        absurd (f.3 (subst (λ x. Meets D x (upto t c)) (ap (λ x. v i -ℤ x) (sym f.0)) (subst (Meets D (v i -ℤ pos 0)) e m))))
        (tight_or (at xs i 0) (upto t c))

    pub asks_free : Free n (at xs)
    asks_free i j hi hj =
        ⊎_elim {C = at xs i j ≡ whole n (at xs) i j}
        (λ e. ap (at xs i) (sym e) ∙ s.canon.diagonal i hi ∙ whole_same n (at xs) i j e)
        (λ d. ⊎_elim {C = at xs i j ≡ whole n (at xs) i j}
        (λ l. unbounded i j hi hj l d (at xs i j) refl ∙ whole_none n (at xs) i j d l)
        (λ l. ⊎_elim {C = at xs i j ≡ whole n (at xs) i j}
        (λ k. ⊎_elim {C = at xs i j ≡ whole n (at xs) i j}
        (λ z. ap (λ (a : ℕ). at xs a j) z ∙ front j hj k ∙ whole_zero n (at xs) i j d l k z)
        (λ z. tight_same _ _ (first_in i j hi hj k) (first_out i j hi hj k d (at xs i j) refl) ∙ whole_first n (at xs) i j d l k z)
        (cases_eq i 0))
        (λ k. whole_kept n (at xs) i j d l k)
        (cases_lt n j))
        (cases_lt n i))
        (cases_eq i j)

-- bounds in a list, against those of a zone
module _ (n : ℕ) (bs : List (Option Bound)) (Z : ℕ → ℕ → UpperBound) (is : (p : ℕ) → p < 81 → bound_of (get_or bs p None) ≡ Z (p / 9) (p % 9)) where
  listed : (i j : ℕ) → i < 9 → j < 9 → bounds_at bs i j ≡ Z i j
  listed i j hi hj =
      let r : (9 * i + j) / 9 ≡ i = omega arith in
      let c : (9 * i + j) % 9 ≡ j = omega arith in
      is (9 * i + j) (omega arith) ∙ (λ k. Z (r k) (c k))

  listed_whole : (i j : ℕ) → i < 9 → j < 9 → whole n (bounds_at bs) i j ≡ whole n Z i j
  listed_whole i j hi hj = whole_alike n (bounds_at bs) Z i j (listed i j hi hj) (listed i 0 hi (omega arith))

  pub listed_free : ((p : ℕ) → p < 81 → bound_of (get_or bs p None) ≡ whole n (bounds_at bs) (p / 9) (p % 9)) → Free n Z
  listed_free f i j hi hj =
      let r : (9 * i + j) / 9 ≡ i = omega arith in
      let c : (9 * i + j) % 9 ≡ j = omega arith in
      sym (listed i j hi hj) ∙ f (9 * i + j) (omega arith) ∙ (λ k. whole n (bounds_at bs) (r k) (c k)) ∙ listed_whole i j hi hj

  pub free_listed : Free n Z → (p : ℕ) → p < 81 → bound_of (get_or bs p None) ≡ whole n (bounds_at bs) (p / 9) (p % 9)
  free_listed f p h =
      let hi : p / 9 < 9 = omega arith in
      let hj : p % 9 < 9 = omega arith in
      is p h ∙ f (p / 9) (p % 9) hi hj ∙ sym (listed_whole (p / 9) (p % 9) hi hj)
