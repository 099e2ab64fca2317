-- One line after another
use Rattle.std.proofs.Common.{◌≡◌, ℕ, zero, suc, ◌+◌, ◌<◌, Bool, true, false, not, cond, eqb, min, List, [], ◌∷◌, ◌++◌, length, get_or, map, Some, None, Option, MatchOption, Bor, slice_get, sym, refl, ap, ◌∙◌, subst, arith, eq-eqb}
use Rattle.std.specs.List.{IsFirstMatchOrLen}
use Rattle.std.specs.Fn.{ComputesKey, ReturnsEach}
use Rattle.std.specs.Slice.Iter.{split_inclusive_rest, split_inclusive_callee}
use Rattle.std.specs.declared.slice.SplitInclusive.{SplitInclusive}
use Rattle.std.proofs.lemmas.Bool.{cond-true, cond-false, and_parts}
use Rattle.std.proofs.lemmas.Iterator.{YieldsList}
use Rattle.std.proofs.lemmas.Iterator.Splits.{YieldsList-from_shown_while}
use denote.Param.Members.{Mut, Called}
use Rattle.byte_text.proofs.Spelling.{lacks}
use Rattle.entries.specs.declared.entry.Entry.{Entry}
use Rattle.entries.specs.Lines.{body, line}
use Rattle.entries.specs.Lists.{lines, AllEntries}
use Rattle.entries.proofs.Drafts.{body_lacks}
use Rattle.entries.proofs.Unique.{line_on}

abbrev pub onto_first : ℕ → List (List ℕ) → List (List ℕ)
onto_first x [] = (x ∷ []) ∷ []
onto_first x (l ∷ ls) = (x ∷ l) ∷ ls

-- the pieces of some bytes of which each ends with the byte b, and what stands after the last of them
abbrev pub ended : ℕ → List ℕ → List (List ℕ)
ended b [] = []
ended b (x ∷ xs) = cond (eqb x b) ((x ∷ []) ∷ ended b xs) (onto_first x (ended b xs))

falls : {A : Type 0} → ◌≡◌ {A = Bool} false true → A
falls e = let z : ◌≡◌ {A = ℕ} 0 1 = cc in absurd (omega arith)

-- the first piece
first_piece : (b : ℕ) (a t : List ℕ) (i : ℕ) → 0 < length (a ++ t) → length a ≡ min (i + 1) (length (a ++ t)) → IsFirstMatchOrLen (λ x. eqb x b) (a ++ t) i → ended b (a ++ t) ≡ a ∷ ended b t
first_piece b [] t i some long is = absurd (omega arith)
first_piece b (x ∷ []) t zero some long is = cond-true (eqb x b) _ _ (is.1 (omega arith) 0)
first_piece b (x ∷ (y ∷ ys)) t zero some long is = absurd (omega arith)
first_piece b (x ∷ []) [] (suc i) some long is = cond-false (eqb x b) _ _ (is.0 0 0 (omega arith) (omega arith))
first_piece b (x ∷ []) (z ∷ zs) (suc i) some long is = absurd (omega arith)
first_piece b (x ∷ (y ∷ ys)) t (suc i) some long is =
    cond-false (eqb x b) _ _ (is.0 0 0 (omega arith) (omega arith))
    ∙ ap (onto_first x) (first_piece b (y ∷ ys) t i (omega arith) (omega arith) (λ k d l h. is.0 (suc k) d (omega arith) (omega arith), λ h d. is.1 (omega arith) d))

ended_mark : (b : ℕ) (xs rest : List ℕ) → lacks b xs ≡ true → ended b (xs ++ (b ∷ rest)) ≡ (xs ++ (b ∷ [])) ∷ ended b rest
ended_mark b [] rest h = cond-true (eqb b b) _ _ (eq-eqb b b refl)
ended_mark b (x ∷ xs) rest h =
    let p = and_parts (not (eqb x b)) (lacks b xs) h in
    cond-false (eqb x b) _ _ (turned (eqb x b) p.0) ∙ ap (onto_first x) (ended_mark b xs rest p.1)
  where
    turned : (t : Bool) → not t ≡ true → t ≡ false
    turned true e = falls e
    turned false e = refl

ended_lines : (n : ℕ) (es : List Entry) → AllEntries n es → ended 10 (lines n es) ≡ map (line n) es
unfolding line
ended_lines n [] a = refl
ended_lines n (e ∷ es) a =
    ap (ended 10) (line_on n e (lines n es)) ∙ ended_mark 10 (body n e) (lines n es) (body_lacks n e a.0) ∙ ap (λ (l : List (List ℕ)). line n e ∷ l) (ended_lines n es a.1)

-- the line of an entry among others
there : (n : ℕ) (es fs : List Entry) (e : Entry) (i : ℕ) → length es ≡ i → slice_get (map (line n) (es ++ (e ∷ fs))) i ≡ Some (line n e)
there n [] fs e zero h = refl
there n [] fs e (suc i) h = absurd (omega (arith, h))
there n (x ∷ es) fs e zero h = absurd (omega (arith, h))
there n (x ∷ es) fs e (suc i) h = there n es fs e i (omega (arith, h))

pub nth_ended : (n : ℕ) (es fs : List Entry) (e : Entry) (bs : List ℕ) (i : ℕ) → AllEntries n (es ++ (e ∷ fs)) → lines n (es ++ (e ∷ fs)) ≡ bs → length es ≡ i → slice_get (ended 10 bs) i ≡ Some (line n e)
nth_ended n es fs e bs i all is long = ap (λ (l : List ℕ). slice_get (ended 10 l) i) (sym is) ∙ ap (λ (l : List (List ℕ)). slice_get l i) (ended_lines n (es ++ (e ∷ fs)) all) ∙ there n es fs e i long

-- where each call gives p of its argument and leaves the closure as it was
pub computes : {F : Type 0} (g : Mut F (Bor ℕ × Unit {0}) Bool) (p : ℕ → Bool) (f : F) → ((a : Bor ℕ × Unit {0}) (r : Bool) (q : F) → Called g f a r q → (r ≡ p a.0.now) × (q ≡ f)) → ComputesKey g p f
computes g p f h = record { at = λ xs. each g p f h xs }
  where
    each : {F : Type 0} (g : Mut F (Bor ℕ × Unit {0}) Bool) (p : ℕ → Bool) (f : F) → ((a : Bor ℕ × Unit {0}) (r : Bool) (q : F) → Called g f a r q → (r ≡ p a.0.now) × (q ≡ f)) → (xs : List (Bor ℕ × Unit {0})) → ReturnsEach g (λ a r. r ≡ p a.0.now) f xs
    each g p f h [] = tt
    each g p f h (a ∷ xs) = λ r q k. let e = h a r q k in (e.0, subst (λ z. ReturnsEach g (λ a r. r ≡ p a.0.now) z xs) (sym e.1) (each g p f h xs))

module _ {F : Type 0} (g : Mut F (Bor ℕ × Unit {0}) Bool) (b : ℕ) where
  abbrev steps : SplitInclusive ℕ F → Option (Bor (List ℕ)) → SplitInclusive ℕ F → Type 0
  steps s r t = MatchOption r ((length (split_inclusive_rest s) ≡ 0) × (t ≡ s))
      (λ x. (split_inclusive_rest s ≡ x.now ++ split_inclusive_rest t)
      × ((i : ℕ) × (length x.now ≡ min (i + 1) (length (split_inclusive_rest s))) × ((p : ℕ → Bool) → ComputesKey g p (split_inclusive_callee s) → ComputesKey g p (split_inclusive_callee t) × IsFirstMatchOrLen p (split_inclusive_rest s) i))
      × (0 < length (split_inclusive_rest s)))

  -- what `split_inclusive` gives
  pub pieces : (s : SplitInclusive ℕ F) → ComputesKey g (λ x. eqb x b) (split_inclusive_callee s) → YieldsList steps (λ x. x.now) s (ended b (split_inclusive_rest s))
  pieces s h = YieldsList-from_shown_while steps (λ x. x.now) (λ s. ended b (split_inclusive_rest s)) (λ s. ComputesKey g (λ x. eqb x b) (split_inclusive_callee s)) none some s h
    where
      no_bytes : (bs : List ℕ) → length bs ≡ 0 → length (ended b bs) ≡ 0
      no_bytes [] e = refl
      no_bytes (x ∷ xs) e = absurd (omega (arith, e))

      none : (s t : SplitInclusive ℕ F) → ComputesKey g (λ x. eqb x b) (split_inclusive_callee s) → steps s None t → length (ended b (split_inclusive_rest s)) ≡ 0
      none s t h k = no_bytes (split_inclusive_rest s) k.0

      some : (s : SplitInclusive ℕ F) (x : Bor (List ℕ)) (t : SplitInclusive ℕ F) → ComputesKey g (λ x. eqb x b) (split_inclusive_callee s) → steps s (Some x) t → ComputesKey g (λ x. eqb x b) (split_inclusive_callee t) × (ended b (split_inclusive_rest s) ≡ x.now ∷ ended b (split_inclusive_rest t))
      some s x t h k =
          let step = k.1.2 (λ y. eqb y b) h in
          (step.0, ap (ended b) k.0 ∙ first_piece b x.now (split_inclusive_rest t) k.1.0 (subst (λ (l : List ℕ). 0 < length l) k.0 k.2) (subst (λ (l : List ℕ). length x.now ≡ min (k.1.0 + 1) (length l)) k.0 k.1.1) (subst (λ (l : List ℕ). IsFirstMatchOrLen (λ y. eqb y b) l k.1.0) k.0 step.1))

-- entry k of a list, from 1, with those before and after it
pub record Parted (es : List Entry) (i : ℕ) : Type 0 where
  pub before : List Entry
  pub entry : Entry
  pub after : List Entry
  pub are : es ≡ before ++ (entry ∷ after)
  pub long : length before ≡ i

pub parted_at : (es : List Entry) (i : ℕ) → i < length es → Parted es i
parted_at [] i h = absurd (omega arith)
parted_at (e ∷ es) zero h = record { before = []; entry = e; after = es; are = refl; long = refl }
parted_at (e ∷ es) (suc i) h =
    let p = parted_at es i (omega arith) in
    record { before = e ∷ p.before; entry = p.entry; after = p.after; are = ap (λ (l : List Entry). e ∷ l) p.are; long = ap suc p.long }

pub item_there : (fs gs : List Entry) (x : Entry) (i : ℕ) → length fs ≡ i → x ≡ get_or (fs ++ (x ∷ gs)) i x
item_there [] gs x zero h = refl
item_there [] gs x (suc i) h = absurd (omega (arith, h))
item_there (f ∷ fs) gs x zero h = absurd (omega (arith, h))
item_there (f ∷ fs) gs x (suc i) h = item_there fs gs x i (omega (arith, h))
