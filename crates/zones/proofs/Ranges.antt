-- What `all` over a range from 0 answers
use Rattle.std.proofs.Common.{◌≡◌, ℕ, ◌<◌, Bool, true, false, MatchBool, length, HoldsAt, sym, refl, subst, ◌∙◌, zero-add, arith}
use Rattle.std.specs.List.{range_with_len, AllWithin}
use Rattle.std.proofs.lemmas.List.FromFn.{length-range_with_len, get_or-range_with_len}
use Rattle.bounds.specs.Logic.{Iff}

pub below_all : (P : ℕ → Type 0) (n : ℕ) (r : Bool) → MatchBool r (AllWithin P (range_with_len 0 n) 0 (length (range_with_len 0 n))) ((k : ℕ) × (k < length (range_with_len 0 n)) × HoldsAt (λ x. P x → ⊥) (range_with_len 0 n) k)
    → Iff (r ≡ true) ((k : ℕ) → k < n → P k)
below_all P n true h = (λ _ k l. subst P (get_or-range_with_len 0 n k 0 l ∙ zero-add k) (h k 0 (omega arith) (omega (arith, length-range_with_len 0 n))), λ _. refl)
below_all P n false h = (
  λ e. (cc),
  λ f. let l : h.0 < n = omega (arith, h.1, length-range_with_len 0 n) in absurd (h.2 0 (subst P (sym (get_or-range_with_len 0 n h.0 0 l ∙ zero-add h.0)) (f h.0 l))),
)
