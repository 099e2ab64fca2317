-- What is written is read back
use Rattle.std.proofs.Common.{◌≡◌, ℕ, zero, suc, ◌+◌, ◌-◌, ◌*◌, ◌/◌, ◌%◌, ◌^◌, ◌<◌, ◌≤◌, Bool, true, false, not, ◌&&◌, eqb, leb, ◌≢◌, List, [], ◌∷◌, ◌++◌, length, get_or, drop, set, replicate, ℤ, pos, negsuc, Some, None, decimal, Option, sym, refl, ap, ◌∙◌, subst, ⊎_elim, append-nil, arith, length-set, get_or-set_other, get_or-set_same, ne_eqb}
use lib.ListN.{length-replicate}
use lib.Signed.{mag}
use Rattle.std.specs.Fmt.{signed_decimal}
use Rattle.std.specs.Str.{all_ascii_digits}
use Rattle.std.specs.Char.{is_ascii_digit}
use Rattle.std.proofs.lemmas.Bool.Decides.{nat_tests}
use Rattle.std.proofs.lemmas.Bool.{and_parts, and_from, cond-true, cond-false, cases_eq}
use Rattle.std.proofs.lemmas.Fmt.{decimal_nonempty}
use Rattle.bounds.specs.declared.bound.Bound.{Bound}
use Rattle.bounds.specs.Bounds.{UpperBound, none, upto}
use Rattle.bounds.specs.Sums.{bound_of}
use Rattle.byte_text.specs.Parts.{Place, parted}
use Rattle.byte_text.proofs.Spelling.{digits_all, number_back, lacks, lacks_append, lacks_decimal, parted_mark, parted_end}
use Rattle.entries.specs.Lines.{seen, equals, item, item_at, items, commas}
use Rattle.entries.specs.Reading.{above, below, signed_of, clock, with_number, before_number, item_of, noted, bounds_from}
use Rattle.entries.proofs.Short.{Reach, seen_reach}
use Rattle.entries.proofs.Items.{items_more, items_none}

first_digit : (n : ℕ) → n < 2 ^ 64 → eqb (get_or (decimal n) 0 0) 45 ≡ false
first_digit n h = digit_head (decimal n) (digits_all n h) (decimal_nonempty n h)
  where
    digit_head : (ds : List ℕ) → all_ascii_digits ds ≡ true → 0 < length ds → eqb (get_or ds 0 0) 45 ≡ false
    digit_head [] a l = absurd (omega arith)
    digit_head (d ∷ ds) a l = let p = (and_parts (is_ascii_digit d) (all_ascii_digits ds) a).0 in grind (arith, nat_tests)

-- a number that is written is read back
pub signed_back : (z : ℤ) → mag z ≤ 4000000 → signed_of (signed_decimal z) ≡ Some z
unfolding signed_of
signed_back (pos n) h =
    cond-false (eqb (get_or (decimal n) 0 0) 45) _ _ (first_digit n (omega arith)) ∙ ap above (number_back 4000001 n (omega arith) (omega arith))
signed_back (negsuc n) h = ap below (number_back 4000001 (suc n) (omega arith) (omega arith))

equals_skip : (closed : Bool) (p : ℕ) (z : ℤ) → drop (before_number closed) (item p closed z) ≡ signed_decimal z
equals_skip true p z = refl
equals_skip false p z = refl

signed_head : (z : ℤ) → mag z ≤ 4000000 → eqb (get_or (signed_decimal z) 0 0) 61 ≡ false
signed_head (pos n) h = digit_head (decimal n) (digits_all n (omega arith)) (decimal_nonempty n (omega arith))
  where
    digit_head : (ds : List ℕ) → all_ascii_digits ds ≡ true → 0 < length ds → eqb (get_or ds 0 0) 61 ≡ false
    digit_head [] a l = absurd (omega arith)
    digit_head (d ∷ ds) a l = let p = (and_parts (is_ascii_digit d) (all_ascii_digits ds) a).0 in grind (arith, nat_tests)
signed_head (negsuc n) h = refl

fifth : (p : ℕ) (closed : Bool) (z : ℤ) → mag z ≤ 4000000 → eqb (get_or (item p closed z) 4 0) 61 ≡ closed
fifth p true z h = refl
fifth p false z h = signed_head z h

signed_some : (z : ℤ) → mag z ≤ 4000000 → 0 < length (signed_decimal z)
signed_some (pos n) h = decimal_nonempty n (omega arith)
signed_some (negsuc n) h = omega arith

item_long : (p : ℕ) (closed : Bool) (z : ℤ) → mag z ≤ 4000000 → 5 ≤ length (item p closed z)
item_long p true z h = omega (arith, signed_some z h)
item_long p false z h = omega (arith, signed_some z h)

-- a bound that is written is read back
pub item_back : (p : ℕ) (closed : Bool) (z : ℤ) → p < 81 → mag z ≤ 4000000 → item_of (item p closed z) ≡ Some (p, record { number = z; closed = closed })
unfolding item_of
item_back p closed z h m =
    let bs = item p closed z in
    let long = item_long p closed z m in
    let t : (leb 5 (length (item p closed z)) && (clock (48 + p / 9) && clock (48 + p % 9))) ≡ true = grind (arith, nat_tests) in
    let place : 9 * (48 + p / 9 - 48) + (48 + p % 9 - 48) ≡ p = omega arith in
    let five = fifth p closed z m in
    cond-true _ _ _ t
    ∙ (λ i. with_number (place i) (five i) (signed_of (drop (before_number (five i)) bs)))
    ∙ ap (with_number p closed) (ap signed_of (equals_skip closed p z) ∙ signed_back z m)

-- ---- all the bounds of a line

-- no item has the byte b
abbrev pub all_lack : ℕ → List (List ℕ) → Bool
all_lack b [] = true
all_lack b (w ∷ ws) = lacks b w && all_lack b ws

pub all_lack_append : (b : ℕ) (ws vs : List (List ℕ)) → all_lack b ws ≡ true → all_lack b vs ≡ true → all_lack b (ws ++ vs) ≡ true
all_lack_append b [] vs h k = k
all_lack_append b (w ∷ ws) vs h k =
    let p = and_parts (lacks b w) (all_lack b ws) h in
    and_from (lacks b w) (all_lack b (ws ++ vs)) p.0 (all_lack_append b ws vs p.1 k)

not_it : (x b : ℕ) → (x ≡ b → ⊥) → not (eqb x b) ≡ true
not_it x b d = ap not (ne_eqb x b d)

lacks_signed : (b : ℕ) (z : ℤ) → b < 45 → mag z ≤ 4000000 → lacks b (signed_decimal z) ≡ true
lacks_signed b (pos n) l h = lacks_decimal b n (omega arith) (omega arith)
lacks_signed b (negsuc n) l h = and_from (not (eqb 45 b)) (lacks b (decimal (suc n))) (not_it 45 b (λ e. omega arith)) (lacks_decimal b (suc n) (omega arith) (omega arith))

lacks_equals : (b : ℕ) (closed : Bool) → b < 45 → lacks b (equals closed) ≡ true
lacks_equals b true l = and_from (not (eqb 61 b)) true (not_it 61 b (λ e. omega arith)) refl
lacks_equals b false l = refl

lacks_item : (b p : ℕ) (closed : Bool) (z : ℤ) → b < 45 → mag z ≤ 4000000 → lacks b (item p closed z) ≡ true
lacks_item b p closed z l h =
    and_from _ _ (not_it (48 + p / 9) b (λ e. omega arith))
    (and_from _ _ (not_it 45 b (λ e. omega arith))
    (and_from _ _ (not_it (48 + p % 9) b (λ e. omega arith))
    (and_from _ _ (not_it 60 b (λ e. omega arith))
    (lacks_append b (equals closed) (signed_decimal z) (lacks_equals b closed l) (lacks_signed b z l h)))))

lacks_at : (b p : ℕ) (u : UpperBound) → b < 45 → Reach u → all_lack b (item_at p u) ≡ true
lacks_at b p none l h = refl
lacks_at b p (upto s c) l h = and_from _ true (lacks_item b p s c l h) refl

lacks_commas : (b : ℕ) (ws : List (List ℕ)) → b < 44 → all_lack b ws ≡ true → lacks b (commas ws) ≡ true
lacks_commas b [] l h = refl
lacks_commas b (w ∷ []) l h = (and_parts (lacks b w) true h).0
lacks_commas b (w ∷ (v ∷ vs)) l h =
    let p = and_parts (lacks b w) (all_lack b (v ∷ vs)) h in
    lacks_append b w (44 ∷ commas (v ∷ vs)) p.0 (and_from (not (eqb 44 b)) (lacks b (commas (v ∷ vs))) (not_it 44 b (λ e. omega arith)) (lacks_commas b (v ∷ vs) l p.1))

-- the bounds with those that the words give
fold : List (List ℕ) → List (Option Bound) → List (Option Bound)
fold [] bs = bs
fold (w ∷ ws) bs = fold ws (noted bs (item_of w))

fold_push : (ws : List (List ℕ)) (w : List ℕ) (bs : List (Option Bound)) → fold (ws ++ (w ∷ [])) bs ≡ noted (fold ws bs) (item_of w)
unfolding fold
fold_push [] w bs = refl
fold_push (v ∷ vs) w bs = fold_push vs w (noted bs (item_of v))

no_item : (bs : List (Option Bound)) → noted bs (item_of []) ≡ bs
unfolding item_of
no_item bs = refl

fold_parted : (at : ℕ) (ws : List (List ℕ)) (bs : List (Option Bound)) → all_lack 44 ws ≡ true → bounds_from (parted 44 at (commas ws)) bs ≡ fold ws bs
unfolding bounds_from fold
fold_parted at [] bs h = no_item bs
fold_parted at (w ∷ []) bs h = ap (λ (l : List Place). bounds_from l bs) (parted_end 44 at w (and_parts (lacks 44 w) true h).0)
fold_parted at (w ∷ (v ∷ vs)) bs h =
    let p = and_parts (lacks 44 w) (all_lack 44 (v ∷ vs)) h in
    ap (λ (l : List Place). bounds_from l bs) (parted_mark 44 at w (commas (v ∷ vs)) p.0) ∙ fold_parted (at + suc (length w)) (v ∷ vs) (noted bs (item_of w)) p.1

module _ (n : ℕ) (Z : ℕ → ℕ → UpperBound) (reach : (p : ℕ) → p < 81 → Reach (Z (p / 9) (p % 9))) where
  reached : (p : ℕ) → p < 81 → Reach (seen n Z p)
  reached p h = seen_reach n Z p (reach p h)

  pub items_lack : (b : ℕ) → b < 45 → (p : ℕ) → p ≤ 81 → all_lack b (items n Z p) ≡ true
  items_lack b l zero h = ap (all_lack b) (items_none n Z)
  items_lack b l (suc p) h =
      let s : p + 1 ≡ suc p = omega arith in
      ap (λ (m : ℕ). all_lack b (items n Z m)) (sym s) ∙ ap (all_lack b) (items_more n Z p)
      ∙ all_lack_append b (items n Z p) (item_at p (seen n Z p)) (items_lack b l p (omega arith)) (lacks_at b p (seen n Z p) l (reached p (omega arith)))

  pub commas_lack : (b : ℕ) → b < 44 → lacks b (commas (items n Z 81)) ≡ true
  commas_lack b l = lacks_commas b (items n Z 81) l (items_lack b (omega arith) 81 (omega arith))

  -- what was written at the places below p stands there, and none elsewhere
  record Filled (p : ℕ) (bs : List (Option Bound)) : Type 0 where
    long : length bs ≡ 81
    done : (q : ℕ) → q < p → bound_of (get_or bs q None) ≡ seen n Z q
    rest : (q : ℕ) → p ≤ q → get_or bs q None ≡ None

  nothing : Filled 0 (replicate 81 None)
  nothing = record { long = length-replicate {A = Option Bound} 81 None; done = λ q h. absurd (omega arith); rest = λ q h. none_there 81 q }
    where
      none_there : (k q : ℕ) → get_or (replicate {A = Option Bound} k None) q None ≡ None
      none_there zero q = refl
      none_there (suc k) zero = refl
      none_there (suc k) (suc q) = none_there k q

  passed : (p : ℕ) (bs : List (Option Bound)) → p < 81 → none ≡ seen n Z p → Filled p bs → Filled (suc p) bs
  passed p bs h e f = record {
    long = f.long;
    done = λ q l. ⊎_elim {C = bound_of (get_or bs q None) ≡ seen n Z q}
        (λ s. ap (λ (k : ℕ). bound_of (get_or bs k None)) s ∙ ap bound_of (f.rest p (omega arith)) ∙ e ∙ ap (seen n Z) (sym s))
        (λ d. f.done q (omega arith))
        (cases_eq q p);
    rest = λ q l. f.rest q (omega arith);
  }

  entered : (p : ℕ) (bs : List (Option Bound)) (s : Bool) (c : ℤ) → p < 81 → upto s c ≡ seen n Z p → Filled p bs → Filled (suc p) (set bs p (Some (record { number = c; closed = s })))
  entered p bs s c h e f =
      let b : Option Bound = Some (record { number = c; closed = s }) in
      let lt : p < length bs = omega (arith, f.long) in
      record {
        long = length-set bs p b ∙ f.long;
        done = λ q l. ⊎_elim {C = bound_of (get_or (set bs p b) q None) ≡ seen n Z q}
            (λ s. ap (λ (k : ℕ). bound_of (get_or (set bs p b) k None)) s ∙ ap bound_of (get_or-set_same bs p b None lt) ∙ e ∙ ap (seen n Z) (sym s))
            (λ d. ap bound_of (get_or-set_other bs p q b None d) ∙ f.done q (omega arith))
            (cases_eq q p);
        rest = λ q l. let d : q ≢ p = omega arith in get_or-set_other bs p q b None d ∙ f.rest q (omega arith);
      }

  start : List (Option Bound)
  start = replicate 81 None

  more : (p : ℕ) → p < 81 → (u : UpperBound) → u ≡ seen n Z p → Reach u → Filled p (fold (items n Z p) start) → Filled (suc p) (fold (items n Z p ++ item_at p u) start)
  more p h none e r f = subst (λ (l : List (List ℕ)). Filled (suc p) (fold l start)) (sym (append-nil (items n Z p))) (passed p _ h e f)
  more p h (upto s c) e r f =
      subst (Filled (suc p)) (sym (fold_push (items n Z p) (item p s c) start ∙ ap (noted (fold (items n Z p) start)) (item_back p s c h r))) (entered p _ s c h e f)

  filled : (p : ℕ) → p ≤ 81 → Filled p (fold (items n Z p) start)
  unfolding fold start
  filled zero h = subst (λ (l : List (List ℕ)). Filled 0 (fold l start)) (sym (items_none n Z)) nothing
  filled (suc p) h =
      let s : p + 1 ≡ suc p = omega arith in
      subst (λ (l : List (List ℕ)). Filled (suc p) (fold l start)) (sym (items_more n Z p) ∙ ap (items n Z) s)
      (more p (omega arith) (seen n Z p) refl (reached p (omega arith)) (filled p (omega arith)))

  -- the bounds that a line has are read back
  pub bounds_back : (at q : ℕ) → q < 81 → bound_of (get_or (bounds_from (parted 44 at (commas (items n Z 81))) (replicate 81 None)) q None) ≡ seen n Z q
  unfolding start
  bounds_back at q h =
      ap (λ (l : List (Option Bound)). bound_of (get_or l q None)) (fold_parted at (items n Z 81) (replicate 81 None) (items_lack 44 (omega arith) 81 (omega arith)))
      ∙ (filled 81 (omega arith)).done q h
