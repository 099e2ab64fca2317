-- The bounds of a zone that asks nothing of some clocks, case by case
use Rattle.std.proofs.Common.{◌≡◌, ℕ, ◌<◌, ◌≤◌, cond, eqb, leb, sym, ◌∙◌, eq-eqb, ne_eqb}
use Rattle.std.proofs.lemmas.Bool.{cond-true, cond-false, le-leb, lt-leb}
use Rattle.bounds.specs.Bounds.{UpperBound, none, level}
use Rattle.entries.specs.Entries.{whole}

module _ (n : ℕ) (Z : ℕ → ℕ → UpperBound) (i j : ℕ) where
  pub whole_same : i ≡ j → level ≡ whole n Z i j
  unfolding whole
  whole_same e = sym (cond-true (eqb i j) _ _ (eq-eqb i j e))

  pub whole_none : (i ≡ j → ⊥) → n < i → none ≡ whole n Z i j
  unfolding whole
  whole_none d h = sym (cond-false (eqb i j) _ _ (ne_eqb i j d) ∙ cond-false (leb i n) _ _ (lt-leb i n h))

  pub whole_kept : (i ≡ j → ⊥) → i ≤ n → j ≤ n → Z i j ≡ whole n Z i j
  unfolding whole
  whole_kept d h k = sym (cond-false (eqb i j) _ _ (ne_eqb i j d) ∙ cond-true (leb i n) _ _ (le-leb i n h) ∙ cond-true (leb j n) _ _ (le-leb j n k))

  pub whole_zero : (i ≡ j → ⊥) → i ≤ n → n < j → i ≡ 0 → level ≡ whole n Z i j
  unfolding whole
  whole_zero d h k z = sym (cond-false (eqb i j) _ _ (ne_eqb i j d) ∙ cond-true (leb i n) _ _ (le-leb i n h) ∙ cond-false (leb j n) _ _ (lt-leb j n k) ∙ cond-true (eqb i 0) _ _ (eq-eqb i 0 z))

  pub whole_first : (i ≡ j → ⊥) → i ≤ n → n < j → (i ≡ 0 → ⊥) → Z i 0 ≡ whole n Z i j
  unfolding whole
  whole_first d h k z = sym (cond-false (eqb i j) _ _ (ne_eqb i j d) ∙ cond-true (leb i n) _ _ (le-leb i n h) ∙ cond-false (leb j n) _ _ (lt-leb j n k) ∙ cond-false (eqb i 0) _ _ (ne_eqb i 0 z))

-- only two bounds count
pub whole_alike : (n : ℕ) (Z Y : ℕ → ℕ → UpperBound) (i j : ℕ) → Z i j ≡ Y i j → Z i 0 ≡ Y i 0 → whole n Z i j ≡ whole n Y i j
unfolding whole
whole_alike n Z Y i j d e k = cond (eqb i j) level (cond (leb i n) (cond (leb j n) (d k) (cond (eqb i 0) level (e k))) none)
