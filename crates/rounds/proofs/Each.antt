-- What holds of each item of a list.
use Rattle.std.proofs.Common.{ℕ, zero, suc, ◌<◌, List, [], ◌∷◌, ◌++◌, map, length, get_or, arith}
use Rattle.std.specs.List.{flat_map}

abbrev pub Each : {A : Type 0} → (A → Type 0) → List A → Type 0
Each Q [] = Unit {0}
Each Q (x ∷ xs) = Q x × Each Q xs

pub each_map : {A : Type 0} (Q R : A → Type 0) → ((x : A) → Q x → R x) → (xs : List A) → Each Q xs → Each R xs
each_map Q R f [] h = tt
each_map Q R f (x ∷ xs) h = (f x h.0, each_map Q R f xs h.1)

pub each_append : {A : Type 0} (Q : A → Type 0) (xs ys : List A) → Each Q xs → Each Q ys → Each Q (xs ++ ys)
each_append Q [] ys h k = k
each_append Q (x ∷ xs) ys h k = (h.0, each_append Q xs ys h.1 k)

pub each_left : {A : Type 0} (Q : A → Type 0) (xs ys : List A) → Each Q (xs ++ ys) → Each Q xs
each_left Q [] ys h = tt
each_left Q (x ∷ xs) ys h = (h.0, each_left Q xs ys h.1)

pub each_right : {A : Type 0} (Q : A → Type 0) (xs ys : List A) → Each Q (xs ++ ys) → Each Q ys
each_right Q [] ys h = h
each_right Q (x ∷ xs) ys h = each_right Q xs ys h.1

pub mapped_each : {X A : Type 0} (Q : A → Type 0) (f : X → A) (d : X) (xs : List X) → ((j : ℕ) → j < length xs → Q (f (get_or xs j d))) → Each Q (map f xs)
mapped_each Q f d [] h = tt
mapped_each Q f d (x ∷ xs) h = (h 0 (omega arith), mapped_each Q f d xs (λ j l. h (suc j) (omega arith)))

pub each_mapped : {X A : Type 0} (Q : A → Type 0) (f : X → A) (d : X) (xs : List X) → Each Q (map f xs) → (j : ℕ) → j < length xs → Q (f (get_or xs j d))
each_mapped Q f d [] h j l = absurd (omega arith)
each_mapped Q f d (x ∷ xs) h zero l = h.0
each_mapped Q f d (x ∷ xs) h (suc j) l = each_mapped Q f d xs h.1 j (omega arith)

pub joined_each : {X A : Type 0} (Q : A → Type 0) (f : X → List A) (d : X) (xs : List X) → ((j : ℕ) → j < length xs → Each Q (f (get_or xs j d))) → Each Q (flat_map f xs)
joined_each Q f d [] h = tt
joined_each Q f d (x ∷ xs) h = each_append Q (f x) (flat_map f xs) (h 0 (omega arith)) (joined_each Q f d xs (λ j l. h (suc j) (omega arith)))

pub each_joined : {X A : Type 0} (Q : A → Type 0) (f : X → List A) (d : X) (xs : List X) → Each Q (flat_map f xs) → (j : ℕ) → j < length xs → Each Q (f (get_or xs j d))
each_joined Q f d [] h j l = absurd (omega arith)
each_joined Q f d (x ∷ xs) h zero l = each_left Q (f x) (flat_map f xs) h
each_joined Q f d (x ∷ xs) h (suc j) l = each_joined Q f d xs (each_right Q (f x) (flat_map f xs) h) j (omega arith)
