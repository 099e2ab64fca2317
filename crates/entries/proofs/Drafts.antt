-- The fields of a line
use Rattle.std.proofs.Common.{◌≡◌, ℕ, suc, ◌+◌, ◌-◌, ◌/◌, ◌%◌, ◌^◌, ◌<◌, true, false, not, eqb, List, [], ◌∷◌, ◌++◌, length, get_or, take, replicate, Some, None, decimal, Option, sym, refl, ap, ◌∙◌, subst, arith, eq-eqb}
use Rattle.std.proofs.lemmas.List.{take_at}
use Rattle.std.proofs.lemmas.Bool.{and_parts}
use Rattle.bounds.specs.Sums.{bound_of}
use Rattle.zones.specs.Codes.{at}
use Rattle.zones.proofs.Props.{sound}
use Rattle.byte_text.specs.Numerals.{number_to}
use Rattle.byte_text.specs.Parts.{Place, parted, head_place, tail_places, within, up_to}
use Rattle.byte_text.proofs.Spelling.{number_back, lacks, lacks_append, lacks_decimal, parted_mark, parted_end}
use Rattle.entries.specs.declared.entry.Entry.{Entry}
use Rattle.entries.specs.Entries.{IsEntry}
use Rattle.entries.specs.Lines.{seen, items, commas, body, line}
use Rattle.entries.specs.Reading.{bounds_from}
use Rattle.entries.proofs.Short.{Reach, zone_reach}
use Rattle.entries.proofs.Trips.{commas_lack, bounds_back}

-- four parts, of which the last three are position, round and bounds
pub record Four (n : ℕ) (e : Entry) (ps : List Place) : Type 0 where
  pub p0 : Place
  pub p1 : Place
  pub p2 : Place
  pub p3 : Place
  pub are : ps ≡ p0 ∷ p1 ∷ p2 ∷ p3 ∷ []
  pub position : p1.bytes ≡ decimal e.position
  pub round : p2.bytes ≡ decimal e.round
  pub bounds : p3.bytes ≡ commas (items n (at e.zone.codes) 81)

module _ (n : ℕ) (e : Entry) (is : IsEntry n e) where
  low : e.position < 2 ^ 64
  low = omega (arith, is.high)

  small : e.round < 2 ^ 64
  small = is.fits

  reach : (p : ℕ) → p < 81 → Reach (at e.zone.codes (p / 9) (p % 9))
  reach = zone_reach e.zone.codes (sound _ e.zone.ok)

  pub fields : Four n e (parted 9 0 (body n e))
  unfolding body
  fields =
      let one = 0 + suc 1 in
      let two = one + suc (length (decimal e.position)) in
      let three = two + suc (length (decimal e.round)) in
      let c = commas (items n (at e.zone.codes) 81) in
      let first = parted_mark 9 0 (90 ∷ []) (decimal e.position ++ (9 ∷ (decimal e.round ++ (9 ∷ c)))) refl in
      let second = parted_mark 9 one (decimal e.position) (decimal e.round ++ (9 ∷ c)) (lacks_decimal 9 e.position (omega arith) low) in
      let third = parted_mark 9 two (decimal e.round) c (lacks_decimal 9 e.round (omega arith) small) in
      let fourth = parted_end 9 three c (commas_lack n (at e.zone.codes) reach 9 (omega arith)) in
      record {
        p0 = record { bytes = 90 ∷ []; at = 0 };
        p1 = record { bytes = decimal e.position; at = one };
        p2 = record { bytes = decimal e.round; at = two };
        p3 = record { bytes = c; at = three };
        are = first ∙ ap (λ (l : List Place). record { bytes = 90 ∷ []; at = 0 } ∷ l) (second ∙ ap (λ (l : List Place). record { bytes = decimal e.position; at = one } ∷ l) (third ∙ ap (λ (l : List Place). record { bytes = decimal e.round; at = two } ∷ l) fourth));
        position = refl;
        round = refl;
        bounds = refl;
      }

  -- no byte of a line but its last ends a line
  pub body_lacks : lacks 10 (body n e) ≡ true
  unfolding body
  body_lacks =
      lacks_append 10 (decimal e.position) (9 ∷ (decimal e.round ++ (9 ∷ commas (items n (at e.zone.codes) 81)))) (lacks_decimal 10 e.position (omega arith) low)
      (lacks_append 10 (decimal e.round) (9 ∷ commas (items n (at e.zone.codes) 81)) (lacks_decimal 10 e.round (omega arith) small) (commas_lack n (at e.zone.codes) reach 10 (omega arith)))

  pub position_back : (bs : List ℕ) → bs ≡ decimal e.position → number_to 64 bs ≡ Some e.position
  position_back bs h = ap (number_to 64) h ∙ number_back 64 e.position low is.high

  pub round_back : (bs : List ℕ) → bs ≡ decimal e.round → number_to 18446744073709551615 bs ≡ Some e.round
  round_back bs h = ap (number_to 18446744073709551615) h ∙ number_back 18446744073709551615 e.round small (omega (arith, is.fits))

  pub all_back : (k : ℕ) (bs : List ℕ) → bs ≡ commas (items n (at e.zone.codes) 81) → (p : ℕ) → p < 81 → bound_of (get_or (bounds_from (parted 44 k bs) (replicate 81 None)) p None) ≡ seen n (at e.zone.codes) p
  all_back k bs h p l = ap (λ (t : List ℕ). bound_of (get_or (bounds_from (parted 44 k t) (replicate 81 None)) p None)) h ∙ bounds_back n (at e.zone.codes) reach k p l

pub within_0 : (bs : List ℕ) → within 0 bs ≡ 0
within_0 bs = omega arith

pub clash : {A : Type 0} (x : Place) → ◌≡◌ {A = Option Place} None (Some x) → A
clash x e = let z : ◌≡◌ {A = ℕ} 0 1 = cc in absurd (omega arith)

pub no_number : {A : Type 0} (x : ℕ) → ◌≡◌ {A = Option ℕ} None (Some x) → A
no_number x e = let z : ◌≡◌ {A = ℕ} 0 1 = cc in absurd (omega arith)

pub same_part : (p q : Place) → ◌≡◌ {A = Option Place} (Some p) (Some q) → p.bytes ≡ q.bytes
same_part p q e = let z : p ≡ q = cc in ap (λ (x : Place). x.bytes) z

pub same_number : (p q : ℕ) → ◌≡◌ {A = Option ℕ} (Some p) (Some q) → p ≡ q
same_number p q e = cc

-- the parts that a walk gives one after the other
module _ (n : ℕ) (e : Entry) (bs : List ℕ) (a0 a1 a2 a3 : List Place) (new : a0 ≡ parted 9 (within 0 bs) bs) (r1 : a1 ≡ tail_places a0) (is : IsEntry n e) (eq : bs ≡ body n e) where
  pub walk : Four n e a0
  walk = subst (Four n e) (sym (new ∙ (λ i. parted 9 (within_0 bs i) (eq i)))) (fields n e is)

  pub head_0 : head_place a0 ≡ Some walk.p0
  head_0 = ap head_place walk.are

  pub head_1 : head_place a1 ≡ Some walk.p1
  head_1 = ap head_place r1 ∙ ap (λ (l : List Place). head_place (tail_places l)) walk.are

  pub head_2 : a2 ≡ tail_places a1 → head_place a2 ≡ Some walk.p2
  head_2 r2 = ap head_place (r2 ∙ ap tail_places r1) ∙ ap (λ (l : List Place). head_place (tail_places (tail_places l))) walk.are

  pub head_3 : a2 ≡ tail_places a1 → a3 ≡ tail_places a2 → head_place a3 ≡ Some walk.p3
  head_3 r2 r3 = ap head_place (r3 ∙ ap tail_places (r2 ∙ ap tail_places r1)) ∙ ap (λ (l : List Place). head_place (tail_places (tail_places (tail_places l)))) walk.are

pub up_to_mark : (b : ℕ) (xs ys : List ℕ) → lacks b xs ≡ true → up_to b (xs ++ (b ∷ ys)) ≡ length xs
up_to_mark b [] ys h = let e = eq-eqb b b refl in rw e
up_to_mark b (x ∷ xs) ys h =
    let p = and_parts (not (eqb x b)) (lacks b xs) h in
    let q = p.0 in
    let e : eqb x b ≡ false = grind arith in
    let more = up_to_mark b xs ys p.1 in
    rw (e, more)

-- what stands before the first byte that ends a line
pub body_front : (n : ℕ) (f : Entry) → IsEntry n f → (bs : List ℕ) (end : ℕ) → end ≡ up_to 10 bs → line n f ≡ bs → take (end - 0) bs ≡ body n f
unfolding line
body_front n f is bs end h e =
    let u = h ∙ ap (up_to 10) (sym e) ∙ up_to_mark 10 (body n f) [] (body_lacks n f is) in
    let z : end - 0 ≡ length (body n f) = omega (arith, u) in
    (λ i. take (z i) (sym e i)) ∙ take_at (body n f) (10 ∷ []) (length (body n f)) refl
