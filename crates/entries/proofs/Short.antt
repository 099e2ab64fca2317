-- No line is longer than a line may be
use Rattle.std.proofs.Common.{◌≡◌, ℕ, zero, suc, ◌+◌, ◌*◌, ◌/◌, ◌%◌, ◌^◌, ◌<◌, ◌≤◌, Bool, true, false, cond, ◌⊎◌, List, length, ℤ, pos, negsuc, ◌<ℤ◌, refl, ap, subst, inl, inr, ⊎_elim, arith, length-append}
use borrow.Author.Differences.{ints}
use lib.Signed.{mag}
use Rattle.std.proofs.lemmas.Bool.{cases_lt}
use Rattle.std.proofs.lemmas.Fmt.{length_signed_le, length-decimal-le}
use Rattle.bounds.specs.Bounds.{UpperBound, none, upto}
use Rattle.zones.specs.declared.codes.Code.{Code}
use Rattle.zones.specs.Codes.{Sound, at}
use Rattle.zones.specs.Cuts.{Far}
use Rattle.zones.proofs.Givens.{near_not_far}
use Rattle.entries.specs.declared.entry.Entry.{Entry}
use Rattle.entries.specs.Lines.{shown, seen, items, some, commas, line}
use Rattle.entries.specs.Adding.{placed}
use Rattle.entries.proofs.Items.{items_none, commas_more, length_line}

-- a number that a zone may have
abbrev pub Reach : UpperBound → Type 0
Reach none = Unit {0}
Reach (upto s c) = mag c ≤ 4000000

within_reach : (c : ℤ) → ((c <ℤ negsuc 3999999) ⊎ (pos 4000000 <ℤ c) → ⊥) → mag c ≤ 4000000
within_reach (pos m) h = ⊎_elim {C = mag (pos m) ≤ 4000000} (λ l. absurd (h (inr (omega (arith, ints))))) (λ l. l) (cases_lt 4000000 m)
within_reach (negsuc m) h = ⊎_elim {C = mag (negsuc m) ≤ 4000000} (λ l. absurd (h (inl (omega (arith, ints))))) (λ l. l) (cases_lt 4000000 m)

reached : (b : UpperBound) → (Far b → ⊥) → Reach b
unfolding Far
reached none h = tt
reached (upto s c) h = within_reach c h

pub zone_reach : (xs : List Code) → Sound xs → (p : ℕ) → p < 81 → Reach (at xs (p / 9) (p % 9))
zone_reach xs s p h = let e : 9 * (p / 9) + p % 9 < 81 = omega arith in reached (at xs (p / 9) (p % 9)) (near_not_far _ (s.near _ e))

pub seen_reach : (n : ℕ) (Z : ℕ → ℕ → UpperBound) (p : ℕ) → Reach (Z (p / 9) (p % 9)) → Reach (seen n Z p)
unfolding seen
seen_reach n Z p h = elim (shown n p) as (λ b. Reach (cond b (Z (p / 9) (p % 9)) none)) [ true ↦ h | false ↦ tt ]

few : (any : Bool) (p : ℕ) (b : UpperBound) → Reach b → length (placed any p b) ≤ 14
few any p none h = omega arith
few true p (upto true c) h = omega (arith, length_signed_le 7 c (omega arith) (omega arith))
few true p (upto false c) h = omega (arith, length_signed_le 7 c (omega arith) (omega arith))
few false p (upto true c) h = omega (arith, length_signed_le 7 c (omega arith) (omega arith))
few false p (upto false c) h = omega (arith, length_signed_le 7 c (omega arith) (omega arith))

module _ (n : ℕ) (Z : ℕ → ℕ → UpperBound) (reach : (p : ℕ) → p < 81 → Reach (Z (p / 9) (p % 9))) where
  commas_short : (p : ℕ) → p ≤ 81 → length (commas (items n Z p)) ≤ 14 * p
  commas_short zero h = let e = ap (λ (l : List (List ℕ)). length (commas l)) (items_none n Z) in omega (arith, e)
  commas_short (suc p) h =
      let more = commas_more n Z p (some (items n Z p)) refl in
      let s : p + 1 ≡ suc p = omega arith in
      subst (λ (m : ℕ). length (commas (items n Z m)) ≤ 14 * m) s
      (omega (arith, ap length more, length-append (commas (items n Z p)) (placed (some (items n Z p)) p (seen n Z p)), few (some (items n Z p)) p (seen n Z p) (seen_reach n Z p (reach p (omega arith))), commas_short p (omega arith)))

  pub all_short : length (commas (items n Z 81)) ≤ 1134
  all_short = omega (arith, commas_short 81 (omega arith))

pub line_short : (n : ℕ) (e : Entry) → Sound e.zone.codes → e.position < 2 ^ 64 → e.round < 2 ^ 64 → length (line n e) ≤ 1200
line_short n e s hp hr =
    omega (arith, length_line n e, all_short n (at e.zone.codes) (zone_reach e.zone.codes s), length-decimal-le 20 e.position (omega arith) (omega arith) hp, length-decimal-le 20 e.round (omega arith) (omega arith) hr)
