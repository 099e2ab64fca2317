-- A box holds the readings that meet all its bounds, and a clock list resets the clocks that it names.
use Rattle.std.proofs.Common.{◌≡◌, ℕ, suc, ◌-◌, ◌<◌, ◌≤◌, Bool, true, false, cond, not, ◌&&◌, eqb, ◌⊎◌, List, [], ◌∷◌, length, get_or, set, replicate, ℤ, pos, ◌-ℤ◌, neg_ℤ, Some, None, Option, sym, refl, ap, ◌∙◌, subst, inl, inr, ⊎_elim, arith, length-set, get_or-set_other, get_or-set_same, eq-eqb}
use lib.Signed.{lt_z}
use Rattle.std.proofs.lemmas.Int.{ints}
use Rattle.std.proofs.lemmas.Bool.{eqb-true}
use Rattle.bounds.specs.declared.bound.Bound.{Bound}
use Rattle.bounds.specs.Bounds.{upto, Meets, Tight}
use Rattle.bounds.specs.Laws.{meets_looser}
use Rattle.bounds.specs.Logic.{Iff}
use Rattle.bounds.specs.Sums.{bound_of}
use Rattle.zones.specs.declared.boxes.Side.{Side}
use Rattle.zones.specs.Boxes.{no_side, turned}
use Rattle.plans.specs.Boxes.{InSide}
use Rattle.texts.specs.BoxFields.{tighter, tightest, side_with, no_sides, tightened}
use Rattle.grammar.specs.BoxesWritten.{BoundText, OneOf, FineBound, All, held, tightened_by, marked_by}
use Rattle.grammar.specs.Meant.{MeetsBound, BoxMeans, Named, ClocksMean}
use Rattle.grammar.proofs.FineRows.{same_place}

-- ---- the tighter of two bounds
upper_new : (s t : Bool) (a b : ℤ) → cond (lt_z a b) true (cond (lt_z b a) false (not s && t)) ≡ true → Tight (upto s a) (upto t b)
unfolding Tight
upper_new true true a b h = grind (arith, ints)
upper_new true false a b h = grind (arith, ints)
upper_new false true a b h = grind (arith, ints)
upper_new false false a b h = grind (arith, ints)

upper_old : (s t : Bool) (a b : ℤ) → cond (lt_z a b) true (cond (lt_z b a) false (not s && t)) ≡ false → Tight (upto t b) (upto s a)
unfolding Tight
upper_old true true a b h = grind (arith, ints)
upper_old true false a b h = grind (arith, ints)
upper_old false true a b h = grind (arith, ints)
upper_old false false a b h = grind (arith, ints)

lower_new : (s t : Bool) (a b : ℤ) → cond (lt_z a b) false (cond (lt_z b a) true (not s && t)) ≡ true → Tight (upto s (neg_ℤ a)) (upto t (neg_ℤ b))
unfolding Tight
lower_new true true a b h = grind (arith, ints)
lower_new true false a b h = grind (arith, ints)
lower_new false true a b h = grind (arith, ints)
lower_new false false a b h = grind (arith, ints)

lower_old : (s t : Bool) (a b : ℤ) → cond (lt_z a b) false (cond (lt_z b a) true (not s && t)) ≡ false → Tight (upto t (neg_ℤ b)) (upto s (neg_ℤ a))
unfolding Tight
lower_old true true a b h = grind (arith, ints)
lower_old true false a b h = grind (arith, ints)
lower_old false true a b h = grind (arith, ints)
lower_old false false a b h = grind (arith, ints)

module _ (D : ℕ) (one : 1 ≤ D) (d : ℤ) where
  upper_both : (o : Option Bound) (b : Bound) → Iff (Meets D d (bound_of (tightest true o b))) (Meets D d (bound_of o) × Meets D d (bound_of (Some b)))
  unfolding Meets
  upper_both None b = (λ h. (tt, h), λ h. h.1)
  upper_both (Some a) b =
      elim (tighter true b a) as (λ t. tighter true b a ≡ t → Iff (Meets D d (bound_of (cond t (Some b) (Some a)))) (Meets D d (bound_of (Some a)) × Meets D d (bound_of (Some b)))) [
        | true ↦ λ e. (λ h. (meets_looser D one d (upto b.closed b.number) (upto a.closed a.number) (upper_new b.closed a.closed b.number a.number e) h, h), λ h. h.1)
        | false ↦ λ e. (λ h. (h, meets_looser D one d (upto a.closed a.number) (upto b.closed b.number) (upper_old b.closed a.closed b.number a.number e) h), λ h. h.0)
      ] refl

  lower_both : (o : Option Bound) (b : Bound) → Iff (Meets D d (turned (bound_of (tightest false o b)))) (Meets D d (turned (bound_of o)) × Meets D d (turned (bound_of (Some b))))
  unfolding Meets turned
  lower_both None b = (λ h. (tt, h), λ h. h.1)
  lower_both (Some a) b =
      elim (tighter false b a) as (λ t. tighter false b a ≡ t → Iff (Meets D d (turned (bound_of (cond t (Some b) (Some a))))) (Meets D d (turned (bound_of (Some a))) × Meets D d (turned (bound_of (Some b))))) [
        | true ↦ λ e. (λ h. (meets_looser D one d (upto b.closed (neg_ℤ b.number)) (upto a.closed (neg_ℤ a.number)) (lower_new b.closed a.closed b.number a.number e) h, h), λ h. h.1)
        | false ↦ λ e. (λ h. (h, meets_looser D one d (upto a.closed (neg_ℤ a.number)) (upto b.closed (neg_ℤ b.number)) (lower_old b.closed a.closed b.number a.number e) h), λ h. h.0)
      ] refl

-- a side with one bound more
module _ (D : ℕ) (one : 1 ≤ D) (r : ℕ) where
  side_both : (s : Side) (u : Bool) (b : Bound) → Iff (InSide D r (side_with s u b)) (InSide D r s × InSide D r (side_with no_side u b))
  unfolding Meets turned
  side_both s true b =
      let i = upper_both D one (pos r) s.upper b in
      (λ h. let x = i.0 h.0 in ((x.0, h.1), (x.1, tt)), λ h. (i.1 (h.0.0, h.1.0), h.0.1))
  side_both s false b =
      let i = lower_both D one (pos 0 -ℤ pos r) s.lower b in
      (λ h. let x = i.0 h.1 in ((h.0, x.0), (tt, x.1)), λ h. (h.0.0, i.1 (h.0.1, h.1.1)))

-- ---- sides
abbrev InSides : ℕ → (ℕ → ℕ) → List Side → Type 0
InSides D v sides = (i : ℕ) → i < 8 → InSide D (v (suc i)) (get_or sides i no_side)

same_or_not : (X : Type 0) (i k : ℕ) → (i ≡ k → X) → ((i ≡ k → ⊥) → X) → X
same_or_not X i k f g =
    elim (eqb i k) as (λ t. eqb i k ≡ t → X) [
      | true ↦ λ e. f (eqb-true i k e)
      | false ↦ λ e. g (λ q. let y = eq-eqb i k q in let z : ◌≡◌ {A = ℕ} 0 1 = cc in omega arith)
    ] refl

module _ (D : ℕ) (one : 1 ≤ D) (v : ℕ → ℕ) (sides : List Side) (eight : length sides ≡ 8) (n : ℕ) (few : n ≤ 8) (m : BoundText) (f : FineBound n m) where
  lt : m.clock - 1 < length sides
  lt = omega (arith, eight, f.clock.low, f.clock.high)

  next : suc (m.clock - 1) ≡ m.clock
  next = omega (arith, f.clock.low)

  one_more : Iff (InSides D v (tightened sides (held m))) (InSides D v sides × MeetsBound D v m)
  unfolding tightened
  one_more =
      let k = m.clock - 1 in
      let x = side_with (get_or sides (m.clock - 1) no_side) m.upper (held m).bound in
      let both = side_both D one (v (suc (m.clock - 1))) (get_or sides (m.clock - 1) no_side) m.upper (held m).bound in
      let here : get_or (set sides (m.clock - 1) (side_with (get_or sides (m.clock - 1) no_side) m.upper (held m).bound)) (m.clock - 1) no_side ≡ side_with (get_or sides (m.clock - 1) no_side) m.upper (held m).bound = get_or-set_same sides (m.clock - 1) (side_with (get_or sides (m.clock - 1) no_side) m.upper (held m).bound) no_side lt in (
        λ h.
            let at = both.0 (subst (λ (s : Side). InSide D (v (suc (m.clock - 1))) s) here (h (m.clock - 1) (omega (arith, eight, lt)))) in (
              (λ i li. same_or_not _ i (m.clock - 1)
                  (λ e. subst (λ (j : ℕ). InSide D (v (suc j)) (get_or sides j no_side)) (sym e) at.0)
                  (λ ne. subst (λ (s : Side). InSide D (v (suc i)) s) (get_or-set_other sides (m.clock - 1) i (side_with (get_or sides (m.clock - 1) no_side) m.upper (held m).bound) no_side ne) (h i li))),
              subst (λ (c : ℕ). InSide D (v c) (side_with no_side m.upper (held m).bound)) next at.1,
            ),
        λ h i li. same_or_not _ i (m.clock - 1)
            (λ e. subst (λ (j : ℕ). InSide D (v (suc j)) (get_or (set sides (m.clock - 1) (side_with (get_or sides (m.clock - 1) no_side) m.upper (held m).bound)) j no_side)) (sym e) (subst (λ (s : Side). InSide D (v (suc (m.clock - 1))) s) (sym here) (both.1 (h.0 (m.clock - 1) (omega (arith, eight, lt)), subst (λ (c : ℕ). InSide D (v c) (side_with no_side m.upper (held m).bound)) (sym next) h.1))))
            (λ ne. subst (λ (s : Side). InSide D (v (suc i)) s) (sym (get_or-set_other sides (m.clock - 1) i (side_with (get_or sides (m.clock - 1) no_side) m.upper (held m).bound) no_side ne)) (h.0 i li)),
      )

  still : length (tightened sides (held m)) ≡ 8
  unfolding tightened
  still = length-set sides (m.clock - 1) (side_with (get_or sides (m.clock - 1) no_side) m.upper (held m).bound) ∙ eight

all_bounds : (n D : ℕ) (v : ℕ → ℕ) (sides : List Side) (ms : List BoundText) → n ≤ 8 → 1 ≤ D → length sides ≡ 8 → All (FineBound n) ms → Iff (InSides D v (tightened_by sides ms)) (InSides D v sides × All (MeetsBound D v) ms)
unfolding tightened_by
all_bounds n D v sides [] few one eight f = (λ h. (h, tt), λ h. h.0)
all_bounds n D v sides (m ∷ ms) few one eight f =
    let step = one_more D one v sides eight n few m f.0 in
    let rest = all_bounds n D v (tightened sides (held m)) ms few one (still D one v sides eight n few m f.0) f.1 in
    (λ h. let a = rest.0 h in let b = step.0 a.0 in (b.0, (b.1, a.1)), λ h. rest.1 (step.1 (h.0, h.1.0), h.1.1))

nothing_asked : (D : ℕ) (v : ℕ → ℕ) → InSides D v no_sides
unfolding Meets turned
nothing_asked D v i lt = subst (λ (s : Side). InSide D (v (suc i)) s) (sym (same_place 8 no_side i)) (tt, tt)

pub box_means : BoxMeans
box_means n D v ms few one f =
    let i = all_bounds n D v no_sides ms few one refl f in
    (λ h. (i.0 h).1, λ h. i.1 (nothing_asked D v, h))

-- ---- clock lists
marks_mean : (n i : ℕ) (ms : List Bool) (cs : List ℕ) → n ≤ 8 → length ms ≡ 8 → All (OneOf n) cs → Iff (get_or (marked_by ms cs) i false ≡ true) ((get_or ms i false ≡ true) ⊎ Named (suc i) cs)
unfolding marked_by
marks_mean n i ms [] few eight f = (λ h. inl h, λ h. ⊎_elim (λ x. x) (λ x. absurd x) h)
marks_mean n i ms (c ∷ cs) few eight f =
    let lt : c - 1 < length ms = omega (arith, eight, f.0.low, f.0.high) in
    let rest = marks_mean n i (set ms (c - 1) true) cs few (length-set ms (c - 1) true ∙ eight) f.1 in
    let there : (i ≡ c - 1) → suc i ≡ c = λ e. omega (arith, f.0.low) in
    let back : suc i ≡ c → i ≡ c - 1 = λ e. omega arith in (
      λ h. ⊎_elim
          (λ a. same_or_not _ i (c - 1) (λ e. inr (inl (there e))) (λ ne. inl (sym (get_or-set_other ms (c - 1) i true false ne) ∙ a)))
          (λ b. inr (inr b)) (rest.0 h),
      λ h. rest.1 (⊎_elim
          (λ a. same_or_not _ i (c - 1) (λ e. inl (ap (λ (j : ℕ). get_or (set ms (c - 1) true) j false) e ∙ get_or-set_same ms (c - 1) true false lt)) (λ ne. inl (get_or-set_other ms (c - 1) i true false ne ∙ a)))
          (λ b. ⊎_elim (λ e. inl (ap (λ (j : ℕ). get_or (set ms (c - 1) true) j false) (back e) ∙ get_or-set_same ms (c - 1) true false lt)) (λ d. inr d) b) h),
    )

pub clocks_mean : ClocksMean
clocks_mean n i cs few f =
    let m = marks_mean n i (replicate 8 false) cs few refl f in
    (λ h. ⊎_elim (λ a. absurd (never (sym (same_place 8 false i) ∙ a))) (λ b. b) (m.0 h), λ h. m.1 (inr h)) where
      never : false ≡ true → ⊥
      never q = let z : ◌≡◌ {A = ℕ} 0 1 = cc in omega arith
