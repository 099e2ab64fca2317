-- Zones with equal bounds are the same
use Rattle.std.proofs.Common.{◌≡◌, ℕ, suc, ◌+◌, ◌*◌, ◌/◌, ◌%◌, ◌<◌, ◌≤◌, List, [], ◌∷◌, length, get_or, None, Option, sym, refl, ap, ◌∙◌, ⊎_elim, arith}
use mathlib.Core.Logic.{∥∥₁_prop}
use mathlib.Core.HLevel.{is_prop→PathP}
use Rattle.std.proofs.lemmas.Bool.{cases_lt, cases_eq}
use Rattle.bounds.specs.declared.bound.Bound.{Bound}
use Rattle.bounds.specs.Bounds.{UpperBound}
use Rattle.bounds.specs.Sums.{bound_of}
use Rattle.zones.specs.declared.codes.Code.{Code}
use Rattle.zones.specs.declared.zone.Zone.{Zone}
use Rattle.zones.specs.Codes.{Sound, at, decode, code_of}
use Rattle.zones.specs.Given.{Given}
use Rattle.zones.proofs.Props.{sound}
use Rattle.zones.proofs.Givens.{same_code}
use Rattle.entries.specs.declared.entry.Entry.{Entry}
use Rattle.entries.specs.Entries.{IsEntry, whole, bounds_at}
use Rattle.entries.specs.Lines.{seen}
use Rattle.entries.proofs.Wholes.{whole_same, whole_none, whole_kept, whole_zero, whole_first}
use Rattle.entries.proofs.Asks.{asks_free}
use Rattle.entries.proofs.Items.{seen_shown}

pub same_codes : (xs ys : List Code) → length xs ≡ length ys → ((p : ℕ) → p < length xs → code_of xs p ≡ code_of ys p) → xs ≡ ys
same_codes [] [] l h = refl
same_codes [] (y ∷ ys) l h = absurd (omega (arith, l))
same_codes (x ∷ xs) [] l h = absurd (omega (arith, l))
same_codes (x ∷ xs) (y ∷ ys) l h =
    let e = h 0 (omega arith) in
    let m : length xs ≡ length ys = omega (arith, l) in
    let r = same_codes xs ys m (λ p k. h (suc p) (omega arith)) in
    λ i. record { 0 = e i } ∷ r i

pub same_zone : (a b : Zone) → a.codes ≡ b.codes → a ≡ b
same_zone a b e i = record { codes = e i; ok = is_prop→PathP (λ j. ∥ Sound (e j) ∥₁) (λ j. ∥∥₁_prop) a.ok b.ok i }

pub same_entry : (e f : Entry) → e.position ≡ f.position → e.round ≡ f.round → e.zone ≡ f.zone → e ≡ f
same_entry e f p r z i = record { position = p i; round = r i; zone = z i }

-- the bounds among the clocks up to n determine all
module _ (n : ℕ) (Z Y : ℕ → ℕ → UpperBound) (same : (i j : ℕ) → i < 9 → j < 9 → i ≤ n → j ≤ n → (i ≡ j → ⊥) → Y i j ≡ Z i j) where
  pub whole_by : (i j : ℕ) → i < 9 → j < 9 → whole n Y i j ≡ whole n Z i j
  whole_by i j hi hj =
      ⊎_elim {C = whole n Y i j ≡ whole n Z i j}
      (λ e. sym (whole_same n Y i j e) ∙ whole_same n Z i j e)
      (λ d. ⊎_elim {C = whole n Y i j ≡ whole n Z i j}
      (λ l. sym (whole_none n Y i j d l) ∙ whole_none n Z i j d l)
      (λ l. ⊎_elim {C = whole n Y i j ≡ whole n Z i j}
      (λ k. ⊎_elim {C = whole n Y i j ≡ whole n Z i j}
      (λ z. sym (whole_zero n Y i j d l k z) ∙ whole_zero n Z i j d l k z)
      (λ z. sym (whole_first n Y i j d l k z) ∙ same i 0 hi (omega arith) l (omega arith) z ∙ whole_first n Z i j d l k z)
      (cases_eq i 0))
      (λ k. sym (whole_kept n Y i j d l k) ∙ same i j hi hj l k d ∙ whole_kept n Z i j d l k)
      (cases_lt n j))
      (cases_lt n i))
      (cases_eq i j)

-- bounds that were read of an entry's line, and made whole, are those of its zone
pub whole_given : (n : ℕ) (f : Entry) (bs ws : List (Option Bound)) → IsEntry n f
    → ((p : ℕ) → p < 81 → bound_of (get_or bs p None) ≡ seen n (at f.zone.codes) p)
    → ((p : ℕ) → p < 81 → bound_of (get_or ws p None) ≡ whole n (bounds_at bs) (p / 9) (p % 9))
    → Given ws f.zone.codes
whole_given n f bs ws is drawn made p h =
    let xs = f.zone.codes in
    let hi : p / 9 < 9 = omega arith in
    let hj : p % 9 < 9 = omega arith in
    let e : 9 * (p / 9) + p % 9 ≡ p = omega arith in
    ap (λ (k : ℕ). decode (code_of xs k)) (sym e)
    ∙ asks_free n xs (sound xs f.zone.ok) is.asks (p / 9) (p % 9) hi hj
    ∙ sym (whole_by n (at xs) (bounds_at bs) (λ i j a b l k d.
    let r : (9 * i + j) / 9 ≡ i = omega arith in
    let c : (9 * i + j) % 9 ≡ j = omega arith in
    drawn (9 * i + j) (omega arith) ∙ sym (seen_shown n (at xs) (9 * i + j) (omega (arith, r)) (omega (arith, c)) (λ z. d (sym r ∙ z ∙ c))) ∙ (λ t. at xs (r t) (c t))) (p / 9) (p % 9) hi hj)
    ∙ sym (made p h)

-- two zones with the same bounds
pub given_same : (ws : List (Option Bound)) (a b : Zone) → length a.codes ≡ 81 → length b.codes ≡ 81 → Given ws a.codes → Given ws b.codes → a ≡ b
given_same ws a b la lb ga gb =
    let sa = sound a.codes a.ok in
    let sb = sound b.codes b.ok in
    same_zone a b (same_codes a.codes b.codes (la ∙ sym lb) (λ p h. let k : p < 81 = omega (arith, la) in same_code _ _ (sa.near p k).1 (sb.near p k).1 (ga p k ∙ sym (gb p k))))
