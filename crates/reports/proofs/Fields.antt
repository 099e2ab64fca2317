-- A line put together part by part
use Rattle.std.proofs.Common.{◌≡◌, ℕ, ◌+◌, List, [], ◌++◌, length, ap, ◌∙◌, append_assoc, length-append}

pub longer : (before after ds : List ℕ) → after ≡ before ++ ds → length after ≡ length before + length ds
longer before after ds e = ap length e ∙ length-append before ds

-- five parts, one after the other
pub five : (a b c d e u v w x y z : List ℕ) → u ≡ [] → v ≡ u ++ a → w ≡ v ++ b → x ≡ w ++ c → y ≡ x ++ d → z ≡ y ++ e → z ≡ a ++ (b ++ (c ++ (d ++ e)))
five a b c d e u v w x y z p q r s t l =
    l ∙ ap (λ k. k ++ e) (t ∙ ap (λ k. k ++ d) (s ∙ ap (λ k. k ++ c) (r ∙ ap (λ k. k ++ b) (q ∙ ap (λ k. k ++ a) p)))) ∙ simp append_assoc
