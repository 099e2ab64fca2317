-- Rows put one after the other.
use Rattle.std.proofs.Common.{◌≡◌, ℕ, zero, suc, ◌+◌, ◌-◌, ◌<◌, ◌≤◌, List, [], ◌∷◌, ◌++◌, map, length, get_or, take, set, sym, refl, ap, ◌∙◌, append_assoc, append-nil, add_assoc, arith, length-set, get_or-set_same}
use Rattle.plans.specs.declared.rows.Move.{Move}
use Rattle.plans.specs.RowLists.{Kept, taken, put, move_row, no_move, raised}
use Rattle.texts.specs.PlanRows.{raised_open}

abbrev pub puts : {R : Type 0} → Kept R → List R → Kept R
puts k [] = k
puts k (x ∷ xs) = puts (put k x) xs

pub puts_more : {R : Type 0} (k : Kept R) (xs ys : List R) → puts k (xs ++ ys) ≡ puts (puts k xs) ys
puts_more k [] ys = refl
puts_more k (x ∷ xs) ys = puts_more (put k x) xs ys

pub puts_used : {R : Type 0} (k : Kept R) (xs : List R) → (puts k xs).used ≡ k.used + length xs
puts_used k [] = omega arith
puts_used k (x ∷ xs) = let e = puts_used (put k x) xs in omega arith

pub puts_length : {R : Type 0} (k : Kept R) (xs : List R) → length (puts k xs).rows ≡ length k.rows
puts_length k [] = refl
puts_length k (x ∷ xs) = puts_length (put k x) xs ∙ length-set _ _ _

pub length_map : {X Y : Type 0} (f : X → Y) (xs : List X) → length (map f xs) ≡ length xs
length_map f [] = refl
length_map f (x ∷ xs) = ap suc (length_map f xs)

take_set : {R : Type 0} (xs : List R) (i : ℕ) (x : R) → i < length xs → take (suc i) (set xs i x) ≡ take i xs ++ (x ∷ [])
take_set [] i x h = absurd (omega arith)
take_set (y ∷ ys) zero x h = refl
take_set (y ∷ ys) (suc i) x h = ap (λ l. y ∷ l) (take_set ys i x (omega arith))

taken_put : {R : Type 0} (k : Kept R) (x : R) → k.used < length k.rows → taken (put k x) ≡ taken k ++ (x ∷ [])
taken_put k x h = let one : k.used + 1 ≡ suc k.used = omega arith in ap (λ (n : ℕ). take n (set k.rows k.used x)) one ∙ take_set k.rows k.used x h

-- the rows taken are those that were, and then those put
pub taken_puts : {R : Type 0} (k : Kept R) (xs : List R) → k.used + length xs ≤ length k.rows → taken (puts k xs) ≡ taken k ++ xs
taken_puts k [] h = sym (append-nil (taken k))
taken_puts k (x ∷ xs) h =
    let long = length-set k.rows k.used x in
    taken_puts (put k x) xs (omega (arith, long)) ∙ (ap (λ l. l ++ xs) (taken_put k x (omega arith)) ∙ append_assoc (taken k) (x ∷ []) xs)

set_twice : {R : Type 0} (xs : List R) (i : ℕ) (x y : R) → set (set xs i x) i y ≡ set xs i y
set_twice [] i x y = refl
set_twice (z ∷ zs) zero x y = refl
set_twice (z ∷ zs) (suc i) x y = ap (λ l. z ∷ l) (set_twice zs i x y)

-- a chance added to the row that was put last
pub raise_put : (c : ℕ) (l : Kept Move) (row : Move) → l.used < length l.rows → raised_open c (put l row) ≡ put l (raised row c)
raise_put c l row h =
    let last : l.used + 1 - 1 ≡ l.used = omega arith in
    let at : move_row (put l row) (l.used + 1) ≡ row = ap (λ (k : ℕ). get_or (set l.rows l.used row) k no_move) last ∙ get_or-set_same l.rows l.used row no_move h in
    (λ i. record { rows = set (set l.rows l.used row) (last i) (raised (at i) c); used = l.used + 1 })
    ∙ ap (λ (xs : List Move). record { rows = xs; used = l.used + 1 }) (set_twice l.rows l.used row (raised row c))

pub raised_twice : (row : Move) (c d : ℕ) → raised (raised row c) d ≡ raised row (c + d)
raised_twice row c d = ap (λ (n : ℕ). record { source = row.source; guard = row.guard; sum = n }) (add_assoc row.sum c d)

pub raised_none : (row : Move) → row ≡ raised row 0
raised_none row = let z : row.sum ≡ row.sum + 0 = omega arith in ap (λ (n : ℕ). record { source = row.source; guard = row.guard; sum = n }) z
