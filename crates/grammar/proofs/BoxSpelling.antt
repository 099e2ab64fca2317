-- Boxes written and read.
use Rattle.std.proofs.Common.{◌≡◌, ℕ, suc, ◌+◌, ◌<◌, ◌≤◌, Bool, true, false, cond, not, ◌&&◌, ◌||◌, eqb, ltb, leb, List, [], ◌∷◌, ◌++◌, length, get_or, take, drop, pos, Some, None, Ok, decimal, Option, Result, sym, refl, ap, ◌∙◌, arith, lit<, length-append, lt-ltb, ne_eqb, le-leb}
use Rattle.std.proofs.lemmas.Bool.Decides.{nat_tests}
use Rattle.std.proofs.lemmas.Bool.{cond-true, cond-false, and_parts, and_from, and_left, leb-true, ltb-true, eqb-true}
use Rattle.std.specs.Str.{all_ascii_digits}
use Rattle.std.specs.Char.{is_ascii_digit}
use Rattle.std.proofs.lemmas.Fmt.{decimal_nonempty}
use Rattle.bounds.specs.declared.refusal.Refusal.{Refusal}
use Rattle.zones.specs.declared.boxes.Side.{Side}
use Rattle.byte_text.specs.Numerals.{number_to}
use Rattle.byte_text.specs.Parts.{Place, parted}
use Rattle.byte_text.proofs.Spelling.{digits_all, number_back, number_there, lacks, lacks_decimal, lacks_append, parted_mark, parted_end, joins, joins_parted, parted_not_empty}
use Rattle.texts.specs.declared.boxes.ClockBound.{ClockBound}
use Rattle.texts.specs.Fields.{dash}
use Rattle.texts.specs.BoxFields.{up_to_sign, bound_from, bound_with, bound_after, bound_in, no_sides, tightened, box_with, box_from, box_of}
use Rattle.grammar.specs.BoxesWritten.{BoundText, sign, after_sign, spell_bound, commas, spell_box, FineBound, All, held, tightened_by}

-- the text of a box, with what it makes of the sides
pub record BoxSaid (n : ℕ) (text : List ℕ) (b : List Side) : Type 0 where
  pub marks : List BoundText
  pub spelt : text ≡ spell_box marks
  pub fine : All (FineBound n) marks
  pub box : b ≡ tightened_by no_sides marks

-- digits, a sign and the rest: where the sign stands
module _ (x : ℕ) (one-sign : (eqb x 60 || eqb x 62) ≡ true) (rest : List ℕ) where
  sign_at : (ds : List ℕ) → all_ascii_digits ds ≡ true → up_to_sign (ds ++ (x ∷ rest)) ≡ length ds
  sign_at [] h = cond-true _ _ _ one-sign
  sign_at (d ∷ ds) h =
      let p = and_parts (is_ascii_digit d) (all_ascii_digits ds) h in
      let dig = p.0 in
      let out : (eqb d 60 || eqb d 62) ≡ false = grind (arith, nat_tests) in
      cond-false _ _ _ out ∙ ap suc (sign_at ds p.1)

front : (ds : List ℕ) (x : ℕ) (rest : List ℕ) → (take (length ds) (ds ++ (x ∷ rest)) ≡ ds) × (get_or (ds ++ (x ∷ rest)) (length ds) 0 ≡ x) × (drop (suc (length ds)) (ds ++ (x ∷ rest)) ≡ rest)
front [] x rest = (refl, refl, refl)
front (d ∷ ds) x rest = let r = front ds x rest in (ap (λ l. d ∷ l) r.0, r.1, r.2)

open_at : (x : ℕ) (rest ds : List ℕ) → (eqb x 60 || eqb x 62) ≡ true → all_ascii_digits ds ≡ true → bound_in (ds ++ (x ∷ rest)) ≡ bound_after (eqb x 60) ds rest
open_at x rest ds one-sign digits =
    let k = sign_at x one-sign rest ds digits in
    let f = front ds x rest in
    let lt : up_to_sign (ds ++ (x ∷ rest)) < length (ds ++ (x ∷ rest)) = omega (arith, k, length-append ds (x ∷ rest)) in
    let one : up_to_sign (ds ++ (x ∷ rest)) + 1 ≡ suc (length ds) = omega (arith, k) in
    cond-true _ _ _ (lt-ltb _ _ lt)
    ∙ (λ i. bound_after (eqb ((ap (λ (j : ℕ). get_or (ds ++ (x ∷ rest)) j 0) k ∙ f.1) i) 60) ((ap (λ (j : ℕ). take j (ds ++ (x ∷ rest))) k ∙ f.0) i) ((ap (λ (j : ℕ). drop j (ds ++ (x ∷ rest))) one ∙ f.2) i))

mark_back : (u s : Bool) (c v : ℕ) → c ≤ 8 → v ≤ 1000000 → bound_with u s (decimal c) (decimal v) ≡ Some (record { clock = c; upper = u; bound = record { number = pos v; closed = s } })
mark_back u s c v hc hv =
    (λ i. bound_from u s (number_back 9 c (omega arith) (omega arith) i) (number_back 1000001 v (omega arith) (omega arith) i))
    ∙ cond-true _ _ _ (le-leb v 1000000 hv)

first_digit : (ds rest : List ℕ) → all_ascii_digits ds ≡ true → 0 < length ds → (get_or ds 0 0 ≡ 61 → ⊥) × (get_or (ds ++ rest) 0 0 ≡ 61 → ⊥)
first_digit [] rest h some = absurd (omega arith)
first_digit (d ∷ ds) rest h some =
    let p = and_parts (is_ascii_digit d) (all_ascii_digits ds) h in
    let dig = p.0 in
    let ne : d ≡ 61 → ⊥ = λ e. grind (arith, nat_tests) in
    (ne, ne)

after_back : (u s : Bool) (c v : ℕ) → c ≤ 8 → v ≤ 1000000 → bound_after u (decimal c) (after_sign s v) ≡ Some (record { clock = c; upper = u; bound = record { number = pos v; closed = s } })
after_back u false c v hc hv =
    cond-false _ _ _ (ne_eqb _ _ (first_digit (decimal v) [] (digits_all v (omega arith)) (decimal_nonempty v (omega arith))).0) ∙ mark_back u false c v hc hv
after_back u true c v hc hv = mark_back u true c v hc hv

limit_back : (u s : Bool) (c v : ℕ) → c ≤ 8 → v ≤ 1000000 → bound_in (decimal c ++ (sign u ∷ after_sign s v)) ≡ Some (record { clock = c; upper = u; bound = record { number = pos v; closed = s } })
limit_back true s c v hc hv = open_at 60 (after_sign s v) (decimal c) refl (digits_all c (omega arith)) ∙ after_back true s c v hc hv
limit_back false s c v hc hv = open_at 62 (after_sign s v) (decimal c) refl (digits_all c (omega arith)) ∙ after_back false s c v hc hv

lacks_after : (s : Bool) (v : ℕ) → v ≤ 1000000 → lacks 44 (after_sign s v) ≡ true
lacks_after true v h = lacks_decimal 44 v (lit< tt) (omega arith)
lacks_after false v h = lacks_decimal 44 v (lit< tt) (omega arith)

lacks_sign : (u s : Bool) (v : ℕ) → v ≤ 1000000 → lacks 44 (sign u ∷ after_sign s v) ≡ true
lacks_sign true s v h = lacks_after s v h
lacks_sign false s v h = lacks_after s v h

lacks_limit : (n : ℕ) (m : BoundText) → n ≤ 8 → FineBound n m → lacks 44 (spell_bound m) ≡ true
lacks_limit n m few f = lacks_append 44 (decimal m.clock) (sign m.upper ∷ after_sign m.closed m.number) (lacks_decimal 44 m.clock (lit< tt) (omega (arith, f.clock.high))) (lacks_sign m.upper m.closed m.number f.number)

fine_limit : (n : ℕ) (m : BoundText) → n ≤ 8 → FineBound n m → bound_in (spell_bound m) ≡ Some (held m)
fine_limit n m few f = limit_back m.upper m.closed m.clock m.number (omega (arith, f.clock.high)) f.number

fine_step : (n : ℕ) (b : List Side) (m : BoundText) (at : ℕ) (ps : List Place) → n ≤ 8 → FineBound n m → box_from n true b (record { bytes = spell_bound m; at = at } ∷ ps) ≡ box_from n true (tightened b (held m)) ps
unfolding box_from
fine_step n b m at ps few f =
    ap (λ o. box_with n true b o (λ ok' b'. box_from n ok' b' ps)) (fine_limit n m few f)
    ∙ cond-true _ _ _ (and_from _ _ (le-leb 1 m.clock f.clock.low) (le-leb m.clock n f.clock.high))

list_back : (n : ℕ) (b : List Side) (m : BoundText) (ms : List BoundText) (at : ℕ) → n ≤ 8 → All (FineBound n) (m ∷ ms) → box_from n true b (parted 44 at (commas spell_bound m ms)) ≡ Ok (tightened_by b (m ∷ ms))
unfolding tightened_by box_from
list_back n b m [] at few f = ap (box_from n true b) (parted_end 44 at (spell_bound m) (lacks_limit n m few f.0)) ∙ fine_step n b m at [] few f.0
list_back n b m (l ∷ ls) at few f =
    ap (box_from n true b) (parted_mark 44 at (spell_bound m) (commas spell_bound l ls) (lacks_limit n m few f.0))
    ∙ (fine_step n b m at (parted 44 (at + suc (length (spell_bound m))) (commas spell_bound l ls)) few f.0
    ∙ list_back n (tightened b (held m)) l ls (at + suc (length (spell_bound m))) few f.1)

long_limit : (n : ℕ) (m : BoundText) (rest : List ℕ) → n ≤ 8 → FineBound n m → 2 ≤ length (spell_bound m ++ rest)
long_limit n m rest few f = omega (arith, decimal_nonempty m.clock (omega (arith, f.clock.high)), length-append (decimal m.clock) (sign m.upper ∷ after_sign m.closed m.number), length-append (spell_bound m) rest)

some_after : (s : Bool) (v : ℕ) → v ≤ 1000000 → 0 < length (after_sign s v)
some_after false v h = decimal_nonempty v (omega arith)
some_after true v h = omega arith

no_dash : (n : ℕ) (m : BoundText) (ms : List BoundText) → n ≤ 8 → FineBound n m → dash (commas spell_bound m ms) ≡ false
no_dash n m [] few f =
    let ne : length (spell_bound m) ≡ 1 → ⊥ = λ e. omega (arith, decimal_nonempty m.clock (omega (arith, f.clock.high)), length-append (decimal m.clock) (sign m.upper ∷ after_sign m.closed m.number), some_after m.closed m.number f.number) in
    and_left _ _ (ne_eqb (length (spell_bound m)) 1 ne)
no_dash n m (l ∷ ls) few f =
    let ne : length (spell_bound m ++ (44 ∷ commas spell_bound l ls)) ≡ 1 → ⊥ = λ e. omega (arith, long_limit n m (44 ∷ commas spell_bound l ls) few f) in
    and_left _ _ (ne_eqb (length (spell_bound m ++ (44 ∷ commas spell_bound l ls))) 1 ne)

pub box_all : (n at : ℕ) (ms : List BoundText) → n ≤ 8 → All (FineBound n) ms → box_of n (record { bytes = spell_box ms; at = at }) ≡ Ok (tightened_by no_sides ms)
unfolding box_of tightened_by
box_all n at [] few f = refl
box_all n at (m ∷ ms) few f = cond-false _ _ _ (no_dash n m ms few f.0) ∙ list_back n no_sides m ms at few f

-- the bytes before the sign, the sign and the bytes after it
record Cut (k : ℕ) (l : List ℕ) : Type 0 where
  whole : l ≡ take k l ++ (get_or l k 0 ∷ drop (suc k) l)
  sign : (eqb (get_or l k 0) 60 || eqb (get_or l k 0) 62) ≡ true

cut_at : (bs : List ℕ) → up_to_sign bs < length bs → Cut (up_to_sign bs) bs
cut_at [] h = absurd (omega arith)
cut_at (b ∷ bs) h =
    elim (eqb b 60 || eqb b 62) as (λ t. t ≡ (eqb b 60 || eqb b 62) → cond t 0 (suc (up_to_sign bs)) < suc (length bs) → Cut (cond t 0 (suc (up_to_sign bs))) (b ∷ bs)) [
      | true ↦ λ e _. record { whole = refl; sign = sym e }
      | false ↦ λ e lt. let r = cut_at bs (omega arith) in record { whole = ap (λ l. b ∷ l) r.whole; sign = r.sign }
    ] refl h

-- a bound that was read, from its parts
with_there : (u s : Bool) (oc ov : Option ℕ) (m : ClockBound) → Some m ≡ bound_from u s oc ov → (v : ℕ) × (Some m.clock ≡ oc) × (Some v ≡ ov) × (v ≤ 1000000) × (m ≡ held (record { clock = m.clock; upper = u; closed = s; number = v }))
with_there u s None ov m e = absurd (let z : ◌≡◌ {A = ℕ} 0 1 = cc in omega arith)
with_there u s (Some c) None m e = absurd (let z : ◌≡◌ {A = ℕ} 0 1 = cc in omega arith)
with_there u s (Some c) (Some v) m e =
    elim (leb v 1000000) as (λ t. (t ≡ true → v ≤ 1000000) → Some m ≡ cond t (Some (record { clock = c; upper = u; bound = record { number = pos v; closed = s } })) None → (w : ℕ) × (Some m.clock ≡ Some c) × (Some w ≡ Some v) × (w ≤ 1000000) × (m ≡ held (record { clock = m.clock; upper = u; closed = s; number = w }))) [
      | true ↦ λ h k. let is : m ≡ record { clock = c; upper = u; bound = record { number = pos v; closed = s } } = cc in
          (v, ap (λ (x : ClockBound). Some x.clock) is, refl, h refl, is ∙ ap (λ (x : ℕ). held (record { clock = x; upper = u; closed = s; number = v })) (sym (ap (λ (x : ClockBound). x.clock) is)))
      | false ↦ λ h k. absurd (let z : ◌≡◌ {A = ℕ} 0 1 = cc in omega arith)
    ] (leb-true v 1000000) e

record Spelt (m : ClockBound) (u s : Bool) (clock number : List ℕ) : Type 0 where
  value : ℕ
  clock_is : clock ≡ decimal m.clock
  number_is : number ≡ decimal value
  small : value ≤ 1000000
  is : m ≡ held (record { clock = m.clock; upper = u; closed = s; number = value })

mark_there : (u s : Bool) (clock number : List ℕ) (m : ClockBound) → m.clock ≤ 8 → Some m ≡ bound_with u s clock number → Spelt m u s clock number
mark_there u s clock number m low e =
    let r = with_there u s (number_to 9 clock) (number_to 1000001 number) m e in
    record {
      value = r.0;
      clock_is = number_there 9 m.clock clock (lit< tt) (omega arith) r.1;
      number_is = number_there 1000001 r.0 number (lit< tt) (omega (arith, r.3)) r.2;
      small = r.3;
      is = r.4;
    }

side_there : (x : ℕ) → (eqb x 60 || eqb x 62) ≡ true → x ≡ sign (eqb x 60)
side_there x h = elim (eqb x 60) as (λ t. (t ≡ true → x ≡ 60) → (t || eqb x 62) ≡ true → x ≡ sign t) [ true ↦ λ is _. is refl | false ↦ λ _ k. eqb-true x 62 k ] (eqb-true x 60) h

equal_first : (l : List ℕ) → get_or l 0 0 ≡ 61 → l ≡ 61 ∷ drop 1 l
equal_first [] e = absurd (omega arith)
equal_first (x ∷ xs) e = ap (λ y. y ∷ xs) e

-- a bound that was read, with the sign taken off
record After (u : Bool) (clock rest : List ℕ) (m : ClockBound) : Type 0 where
  written : BoundText
  upper : written.upper ≡ u
  clock_is : clock ≡ decimal written.clock
  rest_is : rest ≡ after_sign written.closed written.number
  small : written.number ≤ 1000000
  is : m ≡ held written

after_there : (u : Bool) (clock rest : List ℕ) (m : ClockBound) → m.clock ≤ 8 → Some m ≡ bound_after u clock rest → After u clock rest m
after_there u clock rest m low e =
    elim (eqb (get_or rest 0 0) 61) as (λ t. (t ≡ true → get_or rest 0 0 ≡ 61) → Some m ≡ cond t (bound_with u true clock (drop 1 rest)) (bound_with u false clock rest) → After u clock rest m) [
      | true ↦ λ is k. let r = mark_there u true clock (drop 1 rest) m low k in
          record { written = record { clock = m.clock; upper = u; closed = true; number = r.value }; upper = refl; clock_is = r.clock_is; rest_is = equal_first rest (is refl) ∙ ap (λ l. 61 ∷ l) r.number_is; small = r.small; is = r.is }
      | false ↦ λ _ k. let r = mark_there u false clock rest m low k in
          record { written = record { clock = m.clock; upper = u; closed = false; number = r.value }; upper = refl; clock_is = r.clock_is; rest_is = r.number_is; small = r.small; is = r.is }
    ] (eqb-true (get_or rest 0 0) 61) e

-- a bound that was read, as it is written
record Bounded (bs : List ℕ) (m : ClockBound) : Type 0 where
  written : BoundText
  spelt : bs ≡ spell_bound written
  small : written.number ≤ 1000000
  is : m ≡ held written

limit_there : (bs : List ℕ) (m : ClockBound) → m.clock ≤ 8 → Some m ≡ bound_in bs → Bounded bs m
limit_there bs m low e =
    elim (ltb (up_to_sign bs) (length bs)) as (λ t. (t ≡ true → up_to_sign bs < length bs) → Some m ≡ cond t (bound_after (eqb (get_or bs (up_to_sign bs) 0) 60) (take (up_to_sign bs) bs) (drop (up_to_sign bs + 1) bs)) None → Bounded bs m) [
      | true ↦ λ h k.
          let cut = cut_at bs (h refl) in
          let r = after_there (eqb (get_or bs (up_to_sign bs) 0) 60) (take (up_to_sign bs) bs) (drop (up_to_sign bs + 1) bs) m low k in
          let one : suc (up_to_sign bs) ≡ up_to_sign bs + 1 = omega arith in
          let x : get_or bs (up_to_sign bs) 0 ≡ sign r.written.upper = side_there (get_or bs (up_to_sign bs) 0) cut.sign ∙ ap sign (sym r.upper) in
          record { written = r.written; spelt = cut.whole ∙ (λ i. r.clock_is i ++ (x i ∷ (ap (λ (j : ℕ). drop j bs) one ∙ r.rest_is) i)); small = r.small; is = r.is }
      | false ↦ λ _ k. absurd (let z : ◌≡◌ {A = ℕ} 0 1 = cc in omega arith)
    ] (ltb-true (up_to_sign bs) (length bs)) e

with_never : (n : ℕ) (b b' : List Side) (o : Option ClockBound) (go : Bool → List Side → Result (List Side) Refusal) → ((c : List Side) → Ok b' ≡ go false c → ⊥) → Ok b' ≡ box_with n false b o go → ⊥
with_never n b b' None go h e = let z : ◌≡◌ {A = ℕ} 0 1 = cc in omega arith
with_never n b b' (Some m) go h e = elim (leb 1 m.clock && leb m.clock n) as (λ t. Ok b' ≡ cond t (go false (tightened b m)) (go false b) → ⊥) [ true ↦ λ k. h (tightened b m) k | false ↦ λ k. h b k ] e

-- once a clock does not exist, no box comes of it
false_never : (n : ℕ) (b b' : List Side) (ps : List Place) → Ok b' ≡ box_from n false b ps → ⊥
unfolding box_from
false_never n b b' [] e = let z : ◌≡◌ {A = ℕ} 0 1 = cc in omega arith
false_never n b b' (p ∷ ps) e = with_never n b b' (bound_in p.bytes) (λ ok' b''. box_from n ok' b'' ps) (λ c k. false_never n c b' ps k) e

-- the first limit, and what the others make of the box
record First (n : ℕ) (b b' : List Side) (p : Place) (ps : List Place) : Type 0 where
  mark : BoundText
  spelt : p.bytes ≡ spell_bound mark
  fine : FineBound n mark
  rest : Ok b' ≡ box_from n true (tightened b (held mark)) ps

first_with : (n : ℕ) (b b' : List Side) (p : Place) (ps : List Place) (o : Option ClockBound) → n ≤ 8 → o ≡ bound_in p.bytes → Ok b' ≡ box_with n true b o (λ ok' b''. box_from n ok' b'' ps) → First n b b' p ps
first_with n b b' p ps None few is e = absurd (let z : ◌≡◌ {A = ℕ} 0 1 = cc in omega arith)
first_with n b b' p ps (Some m) few is e =
    elim (leb 1 m.clock && leb m.clock n) as (λ t. (t ≡ true → (leb 1 m.clock && leb m.clock n) ≡ true) → Ok b' ≡ cond t (box_from n true (tightened b m) ps) (box_from n false b ps) → First n b b' p ps) [
      | true ↦ λ h k.
          let q = and_parts (leb 1 m.clock) (leb m.clock n) (h refl) in
          let low = leb-true 1 m.clock q.0 in
          let high = leb-true m.clock n q.1 in
          let r = limit_there p.bytes m (omega arith) is in
          let same = ap (λ (x : ClockBound). x.clock) r.is in
          record { mark = r.written; spelt = r.spelt; fine = record { clock = record { low = omega (arith, same); high = omega (arith, same) }; number = r.small }; rest = k ∙ ap (λ (x : ClockBound). box_from n true (tightened b x) ps) r.is }
      | false ↦ λ _ k. absurd (false_never n b b' ps k)
    ] (λ t. t) e

first_there : (n : ℕ) (b b' : List Side) (p : Place) (ps : List Place) → n ≤ 8 → Ok b' ≡ box_from n true b (p ∷ ps) → First n b b' p ps
unfolding box_from
first_there n b b' p ps few e = first_with n b b' p ps (bound_in p.bytes) few refl e

-- the limits of a list of parts
record Listed (n : ℕ) (b b' : List Side) (text : List ℕ) : Type 0 where
  mark : BoundText
  marks : List BoundText
  spelt : text ≡ commas spell_bound mark marks
  fine : All (FineBound n) (mark ∷ marks)
  box : b' ≡ tightened_by b (mark ∷ marks)

list_there : (n : ℕ) (b b' : List Side) (p : Place) (ps : List Place) → n ≤ 8 → Ok b' ≡ box_from n true b (p ∷ ps) → Listed n b b' (joins 44 (p ∷ ps))
unfolding tightened_by box_from
list_there n b b' p [] few e =
    let f = first_there n b b' p [] few e in
    let is : b' ≡ tightened b (held f.mark) = ok_box b' (tightened b (held f.mark)) f.rest in
    record { mark = f.mark; marks = []; spelt = f.spelt; fine = (f.fine, tt); box = is } where
      ok_box : (x y : List Side) → ◌≡◌ {A = Result (List Side) Refusal} (Ok x) (Ok y) → x ≡ y
      ok_box x y q = cc
list_there n b b' p (q ∷ qs) few e =
    let f = first_there n b b' p (q ∷ qs) few e in
    let r = list_there n (tightened b (held f.mark)) b' q qs few f.rest in
    record { mark = f.mark; marks = r.mark ∷ r.marks; spelt = (λ i. f.spelt i ++ (44 ∷ r.spelt i)); fine = (f.fine, r.fine); box = r.box }

parts_there : (n : ℕ) (b' : List Side) (ps : List Place) (text : List ℕ) → n ≤ 8 → joins 44 ps ≡ text → (ps ≡ [] → ⊥) → Ok b' ≡ box_from n true no_sides ps → BoxSaid n text b'
parts_there n b' [] text few j ne e = absurd (ne refl)
parts_there n b' (p ∷ ps) text few j ne e =
    let r = list_there n no_sides b' p ps few e in
    record { marks = r.mark ∷ r.marks; spelt = sym j ∙ r.spelt; fine = r.fine; box = r.box }

pub dash_there : (bs : List ℕ) → dash bs ≡ true → bs ≡ 45 ∷ []
dash_there [] h = absurd (let z : ◌≡◌ {A = ℕ} 0 1 = cc in omega arith)
dash_there (x ∷ []) h = ap (λ y. y ∷ []) (eqb-true x 45 h)
dash_there (x ∷ (y ∷ ys)) h = let p = and_parts (eqb (length (x ∷ (y ∷ ys))) 1) (eqb x 45) h in let one : length (x ∷ (y ∷ ys)) ≡ 1 = eqb-true (length (x ∷ (y ∷ ys))) 1 p.0 in absurd (omega arith)

pub box_only : (n : ℕ) (p : Place) (b : List Side) → n ≤ 8 → Ok b ≡ box_of n p → BoxSaid n p.bytes b
unfolding box_of tightened_by
box_only n p b few e =
    elim (dash p.bytes) as (λ t. (t ≡ true → dash p.bytes ≡ true) → Ok b ≡ cond t (Ok no_sides) (box_from n true no_sides (parted 44 p.at p.bytes)) → BoxSaid n p.bytes b) [
      | true ↦ λ h k. record { marks = []; spelt = dash_there p.bytes (h refl); fine = tt; box = ok_box b no_sides k }
      | false ↦ λ _ k. parts_there n b (parted 44 p.at p.bytes) p.bytes few (joins_parted 44 p.at p.bytes) (parted_not_empty 44 p.at p.bytes) k
    ] (λ t. t) e where
      ok_box : (x y : List Side) → ◌≡◌ {A = Result (List Side) Refusal} (Ok x) (Ok y) → x ≡ y
      ok_box x y q = cc

pub apart : (x b : ℕ) → b < x → not (eqb x b) ≡ true
apart x b h = grind (arith, nat_tests)

-- no byte below the comma stands in a box
low_after : (b : ℕ) (s : Bool) (v : ℕ) → b < 44 → v ≤ 1000000 → lacks b (after_sign s v) ≡ true
low_after b false v lt h = lacks_decimal b v (omega arith) (omega arith)
low_after b true v lt h = and_from _ _ (apart 61 b (omega arith)) (lacks_decimal b v (omega arith) (omega arith))

low_side : (b : ℕ) (u s : Bool) (v : ℕ) → b < 44 → v ≤ 1000000 → lacks b (sign u ∷ after_sign s v) ≡ true
low_side b true s v lt h = and_from _ _ (apart 60 b (omega arith)) (low_after b s v lt h)
low_side b false s v lt h = and_from _ _ (apart 62 b (omega arith)) (low_after b s v lt h)

low_limit : (b n : ℕ) (m : BoundText) → b < 44 → n ≤ 8 → FineBound n m → lacks b (spell_bound m) ≡ true
low_limit b n m lt few f = lacks_append b (decimal m.clock) (sign m.upper ∷ after_sign m.closed m.number) (lacks_decimal b m.clock (omega arith) (omega (arith, f.clock.high))) (low_side b m.upper m.closed m.number lt f.number)

low_limits : (b n : ℕ) (m : BoundText) (ms : List BoundText) → b < 44 → n ≤ 8 → All (FineBound n) (m ∷ ms) → lacks b (commas spell_bound m ms) ≡ true
low_limits b n m [] lt few f = low_limit b n m lt few f.0
low_limits b n m (l ∷ ls) lt few f = lacks_append b (spell_bound m) (44 ∷ commas spell_bound l ls) (low_limit b n m lt few f.0) (and_from _ _ (apart 44 b lt) (low_limits b n l ls lt few f.1))

pub lacks_box : (b n : ℕ) (ms : List BoundText) → b < 44 → n ≤ 8 → All (FineBound n) ms → lacks b (spell_box ms) ≡ true
lacks_box b n [] lt few f = and_from _ _ (apart 45 b (omega arith)) refl
lacks_box b n (m ∷ ms) lt few f = low_limits b n m ms lt few f
