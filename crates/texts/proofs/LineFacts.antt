-- What the steps of a line tell.
use Rattle.std.proofs.Common.{◌≡◌, ℕ, ◌+◌, ◌^◌, ◌<◌, ◌≤◌, Bool, true, false, List, length, Some, None, Ok, Option, refl, ap, arith}
use Rattle.std.proofs.lemmas.Bool.Decides.{nat_tests}
use Rattle.bounds.specs.declared.refusal.Refusal.{Refusal}
use Rattle.byte_text.specs.Numerals.{number_to}
use Rattle.byte_text.specs.Parts.{Place, parted, within}
use Rattle.texts.specs.Faults.{demanded}
use Rattle.texts.specs.Fields.{Shown, number_field, in_range, number, word, clocks, bounds}
use Rattle.texts.specs.declared.words.Phase.{Phase}
use Rattle.texts.specs.declared.words.Phase.TheVariants as phases
use Rattle.texts.specs.declared.words.Letter.TheVariants as letters
use Rattle.texts.specs.Words.{stands_at, number_in}

pub demanded_true : (b : Bool) (r : Refusal) (line : ℕ) (p : Place) → Ok tt ≡ demanded b r line p → b ≡ true
demanded_true true r line p e = refl
demanded_true false r line p e = let z : ◌≡◌ {A = ℕ} 0 1 = cc in absurd (omega arith)

pub stands_outcome : (ph : Phase) (n : ℕ) → stands_at letters.Outcome ph n ≡ true → ph ≡ phases.Moves
stands_outcome phases.Begin n e = absurd (let z : ◌≡◌ {A = ℕ} 0 1 = cc in omega arith)
stands_outcome phases.Positions n e = absurd (let z : ◌≡◌ {A = ℕ} 0 1 = cc in omega arith)
stands_outcome phases.Moves n e = refl
stands_outcome phases.Goals n e = absurd (let z : ◌≡◌ {A = ℕ} 0 1 = cc in omega arith)

in_range_high : (low high : ℕ) (out : Refusal) (line field : ℕ) (p : Place) (o : Option ℕ) (f : Shown) → Ok f ≡ in_range low high out line field p o → number_in f ≤ high
in_range_high low high out line field p None f e = absurd (let z : ◌≡◌ {A = ℕ} 0 1 = cc in omega arith)
in_range_high low high out line field p (Some v) f e = elim f as (λ f. Ok f ≡ in_range low high out line field p (Some v) → number_in f ≤ high) [
  | word q ↦ λ e. omega arith
  | number w q ↦ λ e. grind (arith, nat_tests)
  | clocks ms q ↦ λ e. omega arith
  | bounds b q ↦ λ e. omega arith
] e

pub field_high : (low high : ℕ) (out : Refusal) (line field : ℕ) (p : Place) (f : Shown) → Ok f ≡ number_field low high out line field p → number_in f ≤ high
field_high low high out line field p f e = in_range_high low high out line field p (number_to (high + 1) p.bytes) f e

-- a part that ends where places can be numbered is walked from its own place
pub from_place : (b at : ℕ) (bs : List ℕ) → at + length bs < 2 ^ 64 → parted b (within at bs) bs ≡ parted b at bs
from_place b at bs h = let e : within at bs ≡ at = omega arith in ap (λ (x : ℕ). parted b x bs) e
