-- One addition to a line after another
use Rattle.std.proofs.Common.{◌≡◌, ℕ, ◌+◌, ◌<◌, cond, List, [], ◌∷◌, ◌++◌, length, Ok, Err, Result, sym, refl, ap, ◌∙◌, append_assoc, arith, length-append}
use Rattle.bounds.specs.declared.refusal.Refusal.{Refusal}
use Rattle.byte_text.specs.Lines.{AddSays}
use Rattle.entries.specs.Adding.{AddedSays}
use Rattle.entries.specs.Lines.{some, commas}

pub on : (b0 p q : List ℕ) {b1 b2 : List ℕ} → b1 ≡ b0 ++ p → b2 ≡ b1 ++ q → b2 ≡ b0 ++ (p ++ q)
on b0 p q d e = e ∙ ap (λ l. l ++ q) d ∙ append_assoc b0 p q

-- where a step found no room, the whole has none
pub short : (b0 p q r ds : List ℕ) {b1 : List ℕ} → b1 ≡ b0 ++ p → p ++ (q ++ r) ≡ ds → 1200 < length b1 + length q → 1200 < length b0 + length ds
short b0 p q r ds d e h = omega (arith, ap length d, ap length e, length-append b0 p, length-append p (q ++ r), length-append q r)

pub last : (b0 p q ds b2 : List ℕ) {b1 : List ℕ} (r : Result (Unit {0}) Refusal) → b1 ≡ b0 ++ p → p ++ q ≡ ds → AddSays b1 q r b2 → AddedSays b0 ds r b2
last b0 p q ds b2 (Ok u) d e h = on b0 p q d h.1 ∙ ap (λ l. b0 ++ l) e
last b0 p q ds b2 (Err w) d e h = (h.0, omega (arith, h.1, ap length d, ap length e, length-append b0 p, length-append p q))

-- one more after those parted by commas
pub commas_push : (ws : List (List ℕ)) (w : List ℕ) → commas (ws ++ (w ∷ [])) ≡ commas ws ++ (cond (some ws) (44 ∷ []) [] ++ w)
commas_push [] w = refl
commas_push (v ∷ []) w = refl
commas_push (v ∷ (u ∷ us)) w = ap (λ l. v ++ (44 ∷ l)) (commas_push (u ∷ us) w) ∙ sym (append_assoc v (44 ∷ commas (u ∷ us)) (44 ∷ w))

pub longer : (b q : List ℕ) {b1 : List ℕ} → b1 ≡ b ++ q → length b1 ≡ length b + length q
longer b q e = ap length e ∙ length-append b q
