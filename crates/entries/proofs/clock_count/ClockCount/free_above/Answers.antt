use Rattle.std.proofs.Common.{◌≡◌, ℕ, ◌+◌, ◌/◌, ◌%◌, ◌<◌, Bool, true, false, length, get_or, None, refl, ◌∙◌, subst, arith, rules}
use Rattle.std.specs.List.{range_with_len, AllWithin, HoldsAt}
use Rattle.std.specs.Bool.{MatchBool}
use Rattle.std.proofs.lemmas.Iterator.{cases_from_all, YieldsList-from_range}
use Rattle.std.proofs.lemmas.List.FromFn.{length-range_with_len, get_or-range_with_len}
use Rattle.bounds.specs.Sums.{bound_of}
use Rattle.entries.specs.Entries.{whole, bounds_at}
use Rattle.entries.proofs.clock_count.ClockCount.free_above.Goals as goal

-- of the numbers below n
below : (n : ℕ) (P Q : ℕ → Type 0) (r : Bool) → MatchBool r (AllWithin P (range_with_len 0 n) 0 (length (range_with_len 0 n))) ((k : ℕ) × (k < length (range_with_len 0 n)) × HoldsAt Q (range_with_len 0 n) k)
    → (r ≡ true → (p : ℕ) → p < n → P p) × (r ≡ false → (p : ℕ) × (p < n) × Q p)
below n P Q true h = (λ t p l. let e : 0 + p ≡ p = omega arith in subst P (get_or-range_with_len 0 n p 0 l ∙ e) (h p 0 (omega arith) (omega (arith, length-range_with_len 0 n))), λ f. let z : ◌≡◌ {A = ℕ} 0 1 = cc in absurd (omega arith))
below n P Q false h = (λ f. let z : ◌≡◌ {A = ℕ} 0 1 = cc in absurd (omega arith), λ t. let l : h.0 < n = omega (arith, h.1, length-range_with_len 0 n) in (h.0, l, let e : 0 + h.0 ≡ h.0 = omega arith in subst Q (get_or-range_with_len 0 n h.0 0 l ∙ e) (h.2 0)))

pub returns : goal.returns
returns c =
    let Z = whole c.args.self.count (bounds_at c.args.bounds.now) in
    let at : (p : ℕ) → Type 0 = λ p. bound_of (get_or c.args.bounds.now p None) ≡ Z (p / 9) (p % 9) in
    below 81 at (λ p. at p → ⊥) c.all.result
    (cases_from_all _ _ _ at (λ p. at p → ⊥) c.all.ensures.ran (YieldsList-from_range 0 81 81 refl refl) (λ x q k. search rules) (λ x q k. search rules))
