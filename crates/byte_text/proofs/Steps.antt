-- `up_to` by the library's `position`.
use Rattle.std.proofs.Common.{◌≡◌, ℕ, suc, ◌+◌, ◌≤◌, true, false, cond, ◌==◌, eqb, ltb, List, [], ◌∷◌, length, Some, None, sym, refl, ap, ◌∙◌, arith}
use Rattle.std.specs.List.{position, position_or_len}
use Rattle.std.specs.Option.{unwrap_or}
use Rattle.std.proofs.lemmas.List.Recursion.{is_position_or_len}
use Rattle.std.proofs.lemmas.Bool.Decides.{nat_tests}
use Rattle.byte_text.specs.Parts.{up_to}

up_to_position : (b : ℕ) (s : List ℕ) → up_to b s ≡ position_or_len (λ x. x == b) s
up_to_position b = is_position_or_len (up_to b) (λ x. x == b) refl (λ x xs. let e : suc (up_to b xs) ≡ 1 + up_to b xs = omega arith in ap (λ n. cond (x == b) 0 n) e)

pub up_to_le : (b : ℕ) (s : List ℕ) → up_to b s ≤ length s
up_to_le b [] = omega arith
up_to_le b (x ∷ xs) = elim (eqb x b) as (λ t. cond t 0 (suc (up_to b xs)) ≤ suc (length xs)) [ true ↦ omega arith | false ↦ omega (arith, up_to_le b xs) ]

pub up_to_first : (b : ℕ) (s : List ℕ) → unwrap_or (position (λ x. x == b) s) (length s) ≡ up_to b s
up_to_first b s = ap (λ n. unwrap_or (cond (ltb n (length s)) (Some n) None) (length s)) (sym (up_to_position b s)) ∙ here (up_to b s) (length s) (up_to_le b s)
  where
    here : (n m : ℕ) → n ≤ m → unwrap_or (cond (ltb n m) (Some n) None) m ≡ n
    here n m h = elim (ltb n m) as (λ t. (t ≡ false → m ≤ n) → unwrap_or (cond t (Some n) None) m ≡ n) [ true ↦ λ _. refl | false ↦ λ f. omega (arith, f refl) ] (λ e. grind (arith, nat_tests))
