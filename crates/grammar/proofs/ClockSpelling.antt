-- OneOf lists written and read.
use Rattle.std.proofs.Common.{◌≡◌, ℕ, suc, ◌+◌, ◌-◌, ◌<◌, ◌≤◌, Bool, true, false, cond, ◌&&◌, leb, List, [], ◌∷◌, ◌++◌, length, get_or, set, replicate, Some, None, Ok, Err, decimal, Option, Result, sym, refl, ap, ◌∙◌, arith, lit<}
use Rattle.std.proofs.lemmas.Bool.Decides.{nat_tests}
use Rattle.std.proofs.lemmas.Bool.{cond-false, and_parts, and_from, leb-true}
use Rattle.std.specs.Str.{all_ascii_digits}
use Rattle.std.specs.Str.Parse.{digits_value}
use Rattle.std.specs.Char.{is_ascii_digit}
use Rattle.std.proofs.lemmas.Fmt.{decimal_nonempty}
use Rattle.bounds.specs.declared.refusal.Refusal.{Refusal}
use Rattle.bounds.specs.declared.refusal.Refusal.TheVariants.{Number, Name}
use Rattle.byte_text.specs.Numerals.{number_to}
use Rattle.byte_text.specs.Parts.{Place, parted}
use Rattle.byte_text.proofs.Spelling.{digits_all, number_back, number_there, lacks, lacks_decimal, lacks_append, parted_mark, parted_end, joins, joins_parted, parted_not_empty}
use Rattle.texts.specs.Fields.{dash, numerals, clocks_from, clock_list}
use Rattle.texts.proofs.ClockSteps.{numeral_none, numeral_some}
use Rattle.grammar.specs.BoxesWritten.{commas, spell_clocks, OneOf, All, marked_by, resets_by}
use Rattle.grammar.proofs.BoxSpelling.{apart, dash_there}

-- the text of a clock list, with the clocks that it marks
pub record ClocksSaid (n : ℕ) (text : List ℕ) (ms : List Bool) : Type 0 where
  pub clocks : List ℕ
  pub spelt : text ≡ spell_clocks clocks
  pub fine : All (OneOf n) clocks
  pub marks : ms ≡ resets_by clocks

-- one item of a list, and those after it
module _ (n : ℕ) (ok : Bool) (ms : List Bool) (p : Place) (ps : List Place) where
  not_number : None ≡ number_to (n + 1) p.bytes → clocks_from n ok ms (p ∷ ps) ≡ Err Number
  not_number none = let e = numeral_none (n + 1) p.bytes none in grind arith

  one_clock : (v : ℕ) → Some v ≡ number_to (n + 1) p.bytes → 1 ≤ v → v ≤ n → clocks_from n ok ms (p ∷ ps) ≡ clocks_from n ok (set ms (v - 1) true) ps
  one_clock v some low high =
      let e = numeral_some (n + 1) v p.bytes some in
      let is : digits_value 10 p.bytes ≡ v = omega (arith, e.1) in
      let num = e.0 in
      grind (arith, nat_tests)

  no_clock : (v : ℕ) → Some v ≡ number_to (n + 1) p.bytes → ((1 ≤ v) × (v ≤ n) → ⊥) → clocks_from n ok ms (p ∷ ps) ≡ clocks_from n false ms ps
  no_clock v some out =
      let e = numeral_some (n + 1) v p.bytes some in
      let num = e.0 in
      let is = e.1 in
      grind (arith, nat_tests)

dash_other : (bs : List ℕ) → (get_or bs 0 0 ≡ 45 → ⊥) → dash bs ≡ false
dash_other bs h = grind (arith, nat_tests)

clock_step : (n : ℕ) (ms : List Bool) (c at : ℕ) (ps : List Place) → n ≤ 8 → OneOf n c → clocks_from n true ms (record { bytes = decimal c; at = at } ∷ ps) ≡ clocks_from n true (set ms (c - 1) true) ps
clock_step n ms c at ps few f =
    let p : Place = record { bytes = decimal c; at = at } in
    one_clock n true ms p ps c (sym (number_back (n + 1) c (omega (arith, f.high)) (omega (arith, f.high)))) f.low f.high

lacks_clock : (b n c : ℕ) → b < 48 → n ≤ 8 → OneOf n c → lacks b (decimal c) ≡ true
lacks_clock b n c low few f = lacks_decimal b c low (omega (arith, f.high))

list_back : (n : ℕ) (ms : List Bool) (c : ℕ) (cs : List ℕ) (at : ℕ) → n ≤ 8 → All (OneOf n) (c ∷ cs) → clocks_from n true ms (parted 44 at (commas decimal c cs)) ≡ Ok (marked_by ms (c ∷ cs))
unfolding marked_by
list_back n ms c [] at few f = ap (clocks_from n true ms) (parted_end 44 at (decimal c) (lacks_clock 44 n c (lit< tt) few f.0)) ∙ clock_step n ms c at [] few f.0
list_back n ms c (d ∷ ds) at few f =
    ap (clocks_from n true ms) (parted_mark 44 at (decimal c) (commas decimal d ds) (lacks_clock 44 n c (lit< tt) few f.0))
    ∙ (clock_step n ms c at (parted 44 (at + suc (length (decimal c))) (commas decimal d ds)) few f.0
    ∙ list_back n (set ms (c - 1) true) d ds (at + suc (length (decimal c))) few f.1)

no_dash : (ds rest : List ℕ) → all_ascii_digits ds ≡ true → 0 < length ds → (get_or ds 0 0 ≡ 45 → ⊥) × (get_or (ds ++ rest) 0 0 ≡ 45 → ⊥)
no_dash [] rest h some = absurd (omega arith)
no_dash (d ∷ ds) rest h some =
    let p = and_parts (is_ascii_digit d) (all_ascii_digits ds) h in
    let dig = p.0 in
    let ne : d ≡ 45 → ⊥ = λ e. grind (arith, nat_tests) in
    (ne, ne)

list_dash : (n c : ℕ) (cs : List ℕ) → n ≤ 8 → OneOf n c → dash (commas decimal c cs) ≡ false
list_dash n c [] few f = dash_other (decimal c) (no_dash (decimal c) [] (digits_all c (omega (arith, f.high))) (decimal_nonempty c (omega (arith, f.high)))).0
list_dash n c (d ∷ ds) few f = dash_other (decimal c ++ (44 ∷ commas decimal d ds)) (no_dash (decimal c) (44 ∷ commas decimal d ds) (digits_all c (omega (arith, f.high))) (decimal_nonempty c (omega (arith, f.high)))).1

pub clocks_all : (n at : ℕ) (cs : List ℕ) → n ≤ 8 → All (OneOf n) cs → clock_list n (record { bytes = spell_clocks cs; at = at }) ≡ Ok (resets_by cs)
unfolding marked_by
clocks_all n at [] few f = refl
clocks_all n at (c ∷ cs) few f = cond-false _ _ _ (list_dash n c cs few f.0) ∙ list_back n (replicate 8 false) c cs at few f

-- once a clock does not exist, no list comes of it
false_never : (n : ℕ) (ms ms' : List Bool) (ps : List Place) → Ok ms' ≡ clocks_from n false ms ps → ⊥
false_never n ms ms' ps e =
    elim (numerals ps) as (λ t. Ok ms' ≡ cond t (Err Name) (Err Number) → ⊥) [ true ↦ λ k. let z : ◌≡◌ {A = ℕ} 0 1 = cc in omega arith | false ↦ λ k. let z : ◌≡◌ {A = ℕ} 0 1 = cc in omega arith ] e

-- the first clock, and what the others make of the marks
record First (n : ℕ) (ms ms' : List Bool) (p : Place) (ps : List Place) : Type 0 where
  clock : ℕ
  spelt : p.bytes ≡ decimal clock
  fine : OneOf n clock
  rest : Ok ms' ≡ clocks_from n true (set ms (clock - 1) true) ps

first_with : (n : ℕ) (ms ms' : List Bool) (p : Place) (ps : List Place) (o : Option ℕ) → n ≤ 8 → o ≡ number_to (n + 1) p.bytes → Ok ms' ≡ clocks_from n true ms (p ∷ ps) → First n ms ms' p ps
first_with n ms ms' p ps None few is e = absurd (never (e ∙ not_number n true ms p ps is)) where
  never : ◌≡◌ {A = Result (List Bool) Refusal} (Ok ms') (Err Number) → ⊥
  never q = let z : ◌≡◌ {A = ℕ} 0 1 = cc in omega arith
first_with n ms ms' p ps (Some v) few is e =
    elim (leb 1 v && leb v n) as (λ t. (leb 1 v && leb v n) ≡ t → First n ms ms' p ps) [
      | true ↦ λ h.
          let q = and_parts (leb 1 v) (leb v n) h in
          let low = leb-true 1 v q.0 in
          let high = leb-true v n q.1 in
          record { clock = v; spelt = number_there (n + 1) v p.bytes (omega arith) (omega arith) is; fine = record { low = low; high = high }; rest = e ∙ one_clock n true ms p ps v is low high }
      | false ↦ λ h. let out : (1 ≤ v) × (v ≤ n) → ⊥ = λ r. outside v h r in absurd (false_never n ms ms' ps (e ∙ no_clock n true ms p ps v is out))
    ] refl where
      outside : (v : ℕ) → (leb 1 v && leb v n) ≡ false → (1 ≤ v) × (v ≤ n) → ⊥
      outside v h r = grind (arith, nat_tests)

record Listed (n : ℕ) (ms ms' : List Bool) (text : List ℕ) : Type 0 where
  clock : ℕ
  clocks : List ℕ
  spelt : text ≡ commas decimal clock clocks
  fine : All (OneOf n) (clock ∷ clocks)
  marks : ms' ≡ marked_by ms (clock ∷ clocks)

ok_marks : (x y : List Bool) → ◌≡◌ {A = Result (List Bool) Refusal} (Ok x) (Ok y) → x ≡ y
ok_marks x y q = cc

list_there : (n : ℕ) (ms ms' : List Bool) (p : Place) (ps : List Place) → n ≤ 8 → Ok ms' ≡ clocks_from n true ms (p ∷ ps) → Listed n ms ms' (joins 44 (p ∷ ps))
unfolding marked_by
list_there n ms ms' p [] few e =
    let f = first_with n ms ms' p [] (number_to (n + 1) p.bytes) few refl e in
    record { clock = f.clock; clocks = []; spelt = f.spelt; fine = (f.fine, tt); marks = ok_marks ms' (set ms (f.clock - 1) true) f.rest }
list_there n ms ms' p (q ∷ qs) few e =
    let f = first_with n ms ms' p (q ∷ qs) (number_to (n + 1) p.bytes) few refl e in
    let r = list_there n (set ms (f.clock - 1) true) ms' q qs few f.rest in
    record { clock = f.clock; clocks = r.clock ∷ r.clocks; spelt = (λ i. f.spelt i ++ (44 ∷ r.spelt i)); fine = (f.fine, r.fine); marks = r.marks }

parts_there : (n : ℕ) (ms : List Bool) (ps : List Place) (text : List ℕ) → n ≤ 8 → joins 44 ps ≡ text → (ps ≡ [] → ⊥) → Ok ms ≡ clocks_from n true (replicate 8 false) ps → ClocksSaid n text ms
parts_there n ms [] text few j ne e = absurd (ne refl)
parts_there n ms (p ∷ ps) text few j ne e =
    let r = list_there n (replicate 8 false) ms p ps few e in
    record { clocks = r.clock ∷ r.clocks; spelt = sym j ∙ r.spelt; fine = r.fine; marks = r.marks }

pub clocks_only : (n : ℕ) (p : Place) (ms : List Bool) → n ≤ 8 → Ok ms ≡ clock_list n p → ClocksSaid n p.bytes ms
unfolding marked_by
clocks_only n p ms few e =
    elim (dash p.bytes) as (λ t. (t ≡ true → dash p.bytes ≡ true) → Ok ms ≡ cond t (Ok (replicate 8 false)) (clocks_from n true (replicate 8 false) (parted 44 p.at p.bytes)) → ClocksSaid n p.bytes ms) [
      | true ↦ λ h k. record { clocks = []; spelt = dash_there p.bytes (h refl); fine = tt; marks = ok_marks ms (replicate 8 false) k }
      | false ↦ λ _ k. parts_there n ms (parted 44 p.at p.bytes) p.bytes few (joins_parted 44 p.at p.bytes) (parted_not_empty 44 p.at p.bytes) k
    ] (λ t. t) e

pub lacks_clocks : (b n : ℕ) (cs : List ℕ) → b < 44 → n ≤ 8 → All (OneOf n) cs → lacks b (spell_clocks cs) ≡ true
lacks_clocks b n [] lt few f = and_from _ _ (apart 45 b (omega arith)) refl
lacks_clocks b n (c ∷ []) lt few f = lacks_clock b n c (omega arith) few f.0
lacks_clocks b n (c ∷ (d ∷ ds)) lt few f = lacks_append b (decimal c) (44 ∷ commas decimal d ds) (lacks_clock b n c (omega arith) few f.0) (and_from _ _ (apart 44 b lt) (lacks_clocks b n (d ∷ ds) lt few f.1))
