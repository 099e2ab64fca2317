-- Numbers of bounds, within limits and beyond them
use Rattle.std.proofs.Common.{◌≡◌, Bool, true, ℤ, pos, negsuc, ◌≤ℤ◌, Option, None, Some, MatchOption, inl, inr, ⊎_elim, arith}
use borrow.Author.Differences.{ints}
use Rattle.std.proofs.lemmas.Int.{by_lt_z}
use Rattle.bounds.specs.declared.bound.Bound.{Bound}
use Rattle.bounds.specs.Bounds.{UpperBound, none, upto}
use Rattle.bounds.specs.Sums.{bound_of}
use Rattle.bounds.specs.Logic.{Iff}
use Rattle.zones.specs.Boxes.{Ordinary}
use Rattle.zones.specs.Cuts.{FromTo, Beyond, Far}

pub ordinary_is : (b : UpperBound) → Iff (FromTo (pos 0) (pos 1000000) b) (Ordinary b)
unfolding Ordinary
ordinary_is none = (λ h. h, λ h. h)
ordinary_is (upto s n) = (λ h. h, λ h. h)

pub not_beyond_in : (b : UpperBound) → FromTo (negsuc 999999) (pos 1000000) b → Beyond b → ⊥
unfolding Beyond
not_beyond_in none h k = k
not_beyond_in (upto s n) h k = ⊎_elim {C = ⊥} (λ a. omega (arith, ints)) (λ a. omega (arith, ints)) k

pub beyond_out : (b : UpperBound) → (FromTo (negsuc 999999) (pos 1000000) b → ⊥) → Beyond b
unfolding Beyond
beyond_out none h = h tt
beyond_out (upto s n) h = by_lt_z n (negsuc 999999) (λ l. inl l) (λ l. by_lt_z (pos 1000000) n (λ r. inr r) (λ r. absurd (h (l, r))))

pub far_out : (b : UpperBound) → (FromTo (negsuc 3999999) (pos 4000000) b → ⊥) → Far b
unfolding Far
far_out none h = absurd (h tt)
far_out (upto s n) h = by_lt_z n (negsuc 3999999) (λ l. inl l) (λ l. by_lt_z (pos 4000000) n (λ r. inr r) (λ r. absurd (h (l, r))))

-- what `is_none_or` answers
pub none_or : (low high : ℤ) (o : Option Bound) (v : Bool) (P : Bound → Type 0) → ((b : Bound) → P b → Iff (v ≡ true) ((low ≤ℤ b.number) × (b.number ≤ℤ high))) → MatchOption o (v ≡ true) P → Iff (v ≡ true) (FromTo low high (bound_of o))
none_or low high None v P f h = (λ _. tt, λ _. h)
none_or low high (Some b) v P f h = f b h
