-- Cutting by a box, one step after the other
use Rattle.zones.specs.declared.codes.Code.{Code}
use Rattle.std.proofs.Common.{◌≡◌, ℕ, suc, ◌+◌, ◌*◌, ◌/◌, ◌%◌, ◌<◌, Bool, List, ℤ, ◌-ℤ◌, Ok, Err, Result, IsErrAnd, sym, refl, ap, ◌∙◌, subst, ⊎_elim, add-one, arith}
use borrow.Author.Differences.{ints}
use Rattle.std.proofs.lemmas.Bool.{cases_eq, cond-true, cond-false, eq-eqb, ne_eqb}
use Rattle.zones.specs.declared.zone.Cut.{Cut}
use Rattle.bounds.specs.declared.refusal.Refusal.{Refusal}
use Rattle.bounds.specs.declared.refusal.Refusal.TheVariants as refused
use Rattle.bounds.specs.Bounds.{UpperBound, none, upto, plus, Meets}
use Rattle.bounds.specs.Sums.{bound_of}
use Rattle.zones.specs.declared.boxes.Side.{Side}
use Rattle.zones.specs.declared.zone.Cut.TheVariants as cut
use Rattle.zones.specs.Matrices.{tighter, cut_at}
use Rattle.zones.specs.Codes.{at}
use Rattle.zones.specs.Cuts.{OfDomain, Beyond, Far, Over, CutSays}
use Rattle.zones.specs.Boxes.{Ordinary, Plain, side_of, turned, box_bound, row_of, column_of, InBox, Upto, boxed, OverAt, Boxed, NoneTo, BoxSays}

pub odd_row : (s : ℕ) → s % 2 ≡ 1 → row_of s ≡ s / 2 + 1
unfolding row_of
odd_row s e = cond-true _ _ _ (eq-eqb _ 1 e)

pub even_row : (s : ℕ) → (s % 2 ≡ 1 → ⊥) → row_of s ≡ 0
unfolding row_of
even_row s e = cond-false _ _ _ (ne_eqb _ 1 e)

pub odd_column : (s : ℕ) → s % 2 ≡ 1 → column_of s ≡ 0
unfolding column_of
odd_column s e = cond-true _ _ _ (eq-eqb _ 1 e)

pub even_column : (s : ℕ) → (s % 2 ≡ 1 → ⊥) → column_of s ≡ s / 2 + 1
unfolding column_of
even_column s e = cond-false _ _ _ (ne_eqb _ 1 e)

pub row_9 : (s : ℕ) → s < 16 → row_of s < 9
row_9 s h = ⊎_elim {C = row_of s < 9} (λ e. omega (arith, odd_row s e)) (λ e. omega (arith, even_row s e)) (cases_eq (s % 2) 1)

pub column_9 : (s : ℕ) → s < 16 → column_of s < 9
column_9 s h = ⊎_elim {C = column_of s < 9} (λ e. omega (arith, odd_column s e)) (λ e. omega (arith, even_column s e)) (cases_eq (s % 2) 1)

odd_bound : (sides : List Side) (s : ℕ) → s % 2 ≡ 1 → box_bound sides s ≡ bound_of (side_of sides (s / 2)).upper
unfolding box_bound
odd_bound sides s e = cond-true _ _ _ (eq-eqb _ 1 e)

even_bound : (sides : List Side) (s : ℕ) → (s % 2 ≡ 1 → ⊥) → box_bound sides s ≡ turned (bound_of (side_of sides (s / 2)).lower)
unfolding box_bound
even_bound sides s e = cond-false _ _ _ (ne_eqb _ 1 e)

fits : (l : UpperBound) → Ordinary l → Beyond l → ⊥
unfolding Ordinary Beyond
fits none o b = b
fits (upto s n) o b = ⊎_elim {C = ⊥} (λ h. omega (arith, ints)) (λ h. omega (arith, ints)) b

turned_fits : (l : UpperBound) → Ordinary l → Beyond (turned l) → ⊥
unfolding Ordinary Beyond turned
turned_fits none o b = b
turned_fits (upto s n) o b = ⊎_elim {C = ⊥} (λ h. omega (arith, ints)) (λ h. omega (arith, ints)) b

not_beyond : (sides : List Side) → Plain sides → (s : ℕ) → s < 16 → Beyond (box_bound sides s) → ⊥
not_beyond sides p s h b = ⊎_elim {C = ⊥}
    (λ e. fits _ (p (s / 2) (omega arith)).1 (subst Beyond (odd_bound sides s e) b))
    (λ e. turned_fits _ (p (s / 2) (omega arith)).0 (subst Beyond (even_bound sides s e) b))
    (cases_eq (s % 2) 1)

-- the sixteen steps are the eight sides
pub box_upto : (sides : List Side) (D : ℕ) (v : ℕ → ℤ) → InBox sides D v → Upto sides 16 D v
box_upto sides D v f m h = ⊎_elim {C = Meets D (v (row_of m) -ℤ v (column_of m)) (box_bound sides m)}
    (λ e. let i : row_of m ≡ suc (m / 2) = odd_row m e ∙ add-one (m / 2) in
    put (row_of m) (suc (m / 2)) (column_of m) 0 (box_bound sides m) _ i (odd_column m e) (odd_bound sides m e) (f (m / 2) (omega arith)).1)
    (λ e. let j : column_of m ≡ suc (m / 2) = even_column m e ∙ add-one (m / 2) in
    put (row_of m) 0 (column_of m) (suc (m / 2)) (box_bound sides m) _ (even_row m e) j (even_bound sides m e) (f (m / 2) (omega arith)).0)
    (cases_eq (m % 2) 1)
  where
    put : (a a' b b' : ℕ) (l l' : UpperBound) → a ≡ a' → b ≡ b' → l ≡ l' → Meets D (v a' -ℤ v b') l' → Meets D (v a -ℤ v b) l
    put a a' b b' l l' e f g h = subst (λ n. Meets D (v n -ℤ v b) l) (sym e) (subst (λ n. Meets D (v a' -ℤ v n) l) (sym f) (subst (Meets D (v a' -ℤ v b')) (sym g) h))

pub upto_box : (sides : List Side) (D : ℕ) (v : ℕ → ℤ) → Upto sides 16 D v → InBox sides D v
upto_box sides D v f k h =
    let e0 : (2 * k) % 2 ≡ 1 → ⊥ = λ e. omega arith in
    let e1 : (2 * k + 1) % 2 ≡ 1 = omega arith in
    let h0 : (2 * k) / 2 ≡ k = omega arith in
    let h1 : (2 * k + 1) / 2 ≡ k = omega arith in
    let k1 : k + 1 ≡ suc k = add-one k in (
      get (row_of (2 * k)) 0 (column_of (2 * k)) (suc k) _ _ (even_row (2 * k) e0) (even_column (2 * k) e0 ∙ ap (λ n. n + 1) h0 ∙ k1) (even_bound sides (2 * k) e0 ∙ ap (λ n. turned (bound_of (side_of sides n).lower)) h0) (f (2 * k) (omega arith)),
      get (row_of (2 * k + 1)) (suc k) (column_of (2 * k + 1)) 0 _ _ (odd_row (2 * k + 1) e1 ∙ ap (λ n. n + 1) h1 ∙ k1) (odd_column (2 * k + 1) e1) (odd_bound sides (2 * k + 1) e1 ∙ ap (λ n. bound_of (side_of sides n).upper) h1) (f (2 * k + 1) (omega arith)),
    )
  where
    get : (a a' b b' : ℕ) (l l' : UpperBound) → a ≡ a' → b ≡ b' → l ≡ l' → Meets D (v a -ℤ v b) l → Meets D (v a' -ℤ v b') l'
    get a a' b b' l l' e f g h = subst (λ n. Meets D (v n -ℤ v b') l') e (subst (λ n. Meets D (v a -ℤ v n) l') f (subst (Meets D (v a -ℤ v b)) g h))

same_cut : (x x' y y' z z' c : UpperBound) → x ≡ x' → y ≡ y' → z ≡ z' → tighter x (plus (plus y c) z) ≡ tighter x' (plus (plus y' c) z')
same_cut x x' y y' z z' c e f g = ap (λ l. tighter l (plus (plus y c) z)) e ∙ ap (λ l. tighter x' (plus (plus l c) z)) f ∙ ap (λ l. tighter x' (plus (plus y' c) l)) g

module _ (allows : ℕ → Bool) (normal : UpperBound → UpperBound) (sides : List Side) (xs : List Code) where
  pub box_start : OfDomain normal xs → Boxed allows normal sides xs xs 0
  unfolding boxed
  box_start keeps = record {
    keeps = keeps;
    is = λ a b ha hb. refl;
    fine = λ m h. absurd (omega arith);
    inn = λ D v al h u. h;
    out = λ D v al h. (h, λ m l. absurd (omega arith));
  }

  module _ (ys : List Code) (n : ℕ) (hn : n < 16) (z : Boxed allows normal sides xs ys n) where
    next_is : (a b : ℕ) → a < 9 → b < 9 → cut_at (at ys) (row_of n) (column_of n) (normal (box_bound sides n)) a b ≡ boxed normal sides (at xs) (suc n) a b
    unfolding boxed
    next_is a b ha hb = same_cut _ _ _ _ _ _ _ (z.is a b ha hb) (z.is a (row_of n) ha (row_9 n hn)) (z.is (column_of n) b (column_9 n hn) hb)

    over_from : OverAt normal sides (at xs) n → Over normal (row_of n) (column_of n) (box_bound sides n) ys
    over_from o = (o.0, (o.1.0, (o.1.1.0, o.1.1.1, subst Far (sym (next_is o.0 o.1.0 o.1.1.0 o.1.1.1)) o.1.1.2)))

    over_to : Over normal (row_of n) (column_of n) (box_bound sides n) ys → OverAt normal sides (at xs) n
    over_to o = (o.0, (o.1.0, (o.1.1.0, o.1.1.1, subst Far (next_is o.0 o.1.0 o.1.1.0 o.1.1.1) o.1.1.2)))

    more : (D : ℕ) (v : ℕ → ℤ) → Upto sides n D v → Meets D (v (row_of n) -ℤ v (column_of n)) (box_bound sides n) → Upto sides (suc n) D v
    more D v u m k h = ⊎_elim {C = Meets D (v (row_of k) -ℤ v (column_of k)) (box_bound sides k)}
        (λ e. subst (λ q. Meets D (v (row_of q) -ℤ v (column_of q)) (box_bound sides q)) (sym e) m)
        (λ e. u k (omega arith))
        (cases_eq k n)

    pub box_more : (ws : List Code) → CutSays allows normal (row_of n) (column_of n) (box_bound sides n) ys ws (Ok cut.Kept) → Boxed allows normal sides xs ws (n + 1)
    box_more ws s = subst (Boxed allows normal sides xs ws) (sym (add-one n)) (record {
      keeps = s.of_domain;
      is = λ a b ha hb. s.bounds a b ha hb ∙ next_is a b ha hb;
      fine = λ m h o. ⊎_elim {C = ⊥} (λ e. s.in_range (over_from (subst (OverAt normal sides (at xs)) e o))) (λ e. z.fine m (omega arith) o) (cases_eq m n);
      inn = λ D v al h u. (s.states D v al).1 (al, z.inn D v al h (λ m l. u m (omega arith)), u n (omega arith));
      out = λ D v al h. let l = (s.states D v al).0 h in let r = z.out D v al l.1 in (r.0, more D v r.1 l.2);
    })

    pub box_empty : (ws : List Code) → Plain sides → OfDomain normal xs → CutSays allows normal (row_of n) (column_of n) (box_bound sides n) ys ws (Ok cut.Empty) → BoxSays allows normal sides xs xs (Ok cut.Empty)
    box_empty ws p keeps s = record {
      plain = p;
      was_of_domain = keeps;
      step = (n, hn, z.fine, gone);
      gone = λ D v al h b. gone D v al h (λ m l. box_upto sides D v b m (omega arith));
      unchanged = refl;
    }
      where
        gone : NoneTo allows sides xs (suc n)
        gone D v al h u = s.gone D v (al, z.inn D v al h (λ m l. u m (omega arith)), u n (omega arith))

    pub box_refused : (ws : List Code) (why : Refusal) → Plain sides → OfDomain normal xs → CutSays allows normal (row_of n) (column_of n) (box_bound sides n) ys ws (Err why) → BoxSays allows normal sides xs xs (Err why)
    box_refused ws refused.Line p keeps s = s
    box_refused ws refused.Order p keeps s = s
    box_refused ws refused.Number p keeps s = absurd (s.unfit (not_beyond sides p n hn, z.keeps))
    box_refused ws refused.Name p keeps s = s.unknown (row_9 n hn, column_9 n hn)
    box_refused ws refused.Chance p keeps s = s
    box_refused ws refused.Rows p keeps s = s
    box_refused ws refused.Clocks p keeps s = s
    box_refused ws refused.State p keeps s = s
    box_refused ws refused.Full p keeps s = s
    box_refused ws refused.Range p keeps s =
        let t = s.some in
        let D = t.0 in
        let v = t.1.0 in
        let l = t.1.1.1 in
        let r = z.out D v l.0 l.1 in
        record {
          plain = p;
          was_of_domain = keeps;
          step = (n, hn, z.fine, (D, (v, (t.1.1.0, l.0, r.0, more D v r.1 l.2))), over_to s.over);
          unchanged = refl;
        }
    box_refused ws refused.Phase p keeps s = s
    box_refused ws refused.Entry p keeps s = s
    box_refused ws refused.Buffer p keeps s = s

  pub box_done : (ys : List Code) → Plain sides → OfDomain normal xs → Boxed allows normal sides xs ys 16 → BoxSays allows normal sides xs ys (Ok cut.Kept)
  box_done ys p keeps z = record {
    plain = p;
    was_of_domain = keeps;
    of_domain = z.keeps;
    in_range = z.fine;
    bounds = z.is;
    states = λ D v al. (λ h. let r = z.out D v al h in (r.0, upto_box sides D v r.1), λ h. z.inn D v al h.0 (box_upto sides D v h.1));
  }

-- what a cut says, under other names for what it was passed
cut_says : (allows : ℕ → Bool) (normal : UpperBound → UpperBound) (ys ws : List Code) (i i' j j' : ℕ) (l l' : UpperBound) (r r' : Result Cut Refusal) → i ≡ i' → j ≡ j' → l ≡ l' → r ≡ r'
    → CutSays allows normal i j l ys ws r → CutSays allows normal i' j' l' ys ws r'
cut_says allows normal ys ws i i' j j' l l' r r' e f g h s =
    subst (λ q. CutSays allows normal i' j' l' ys ws q) h (subst (λ q. CutSays allows normal i' j' q ys ws r) g (subst (λ q. CutSays allows normal i' q l ys ws r) f (subst (λ q. CutSays allows normal q j l ys ws r) e s)))

-- the cut by a side's lower bound, turned round, is an even step, and that by its upper one the odd step after it
module _ (allows : ℕ → Bool) (normal : UpperBound → UpperBound) (sides : List Side) (ys ws : List Code) (k : ℕ) (l : UpperBound) (r r' : Result Cut Refusal) where
  pub lower_says : l ≡ turned (bound_of (side_of sides k).lower) → r ≡ r' → CutSays allows normal 0 (k + 1) l ys ws r → CutSays allows normal (row_of (2 * k)) (column_of (2 * k)) (box_bound sides (2 * k)) ys ws r'
  lower_says f h s =
      let even : (2 * k) % 2 ≡ 1 → ⊥ = λ e. omega arith in
      let half : k ≡ (2 * k) / 2 = omega arith in
      cut_says allows normal ys ws _ _ _ _ _ _ r r' (sym (even_row (2 * k) even)) (ap (λ n. n + 1) half ∙ sym (even_column (2 * k) even)) (f ∙ ap (λ n. turned (bound_of (side_of sides n).lower)) half ∙ sym (even_bound sides (2 * k) even)) h s

  pub upper_says : l ≡ bound_of (side_of sides k).upper → r ≡ r' → CutSays allows normal (k + 1) 0 l ys ws r → CutSays allows normal (row_of (2 * k + 1)) (column_of (2 * k + 1)) (box_bound sides (2 * k + 1)) ys ws r'
  upper_says f h s =
      let odd : (2 * k + 1) % 2 ≡ 1 = omega arith in
      let half : k ≡ (2 * k + 1) / 2 = omega arith in
      cut_says allows normal ys ws _ _ _ _ _ _ r r' (ap (λ n. n + 1) half ∙ sym (odd_row (2 * k + 1) odd)) (sym (odd_column (2 * k + 1) odd)) (f ∙ ap (λ n. bound_of (side_of sides n).upper) half ∙ sym (odd_bound sides (2 * k + 1) odd)) h s

-- what `?` passes on
pub passed_on : (r : Result Cut Refusal) (G : Refusal → Type 0) (P : Result Cut Refusal → Type 0) → IsErrAnd r G → ((e : Refusal) → G e → P (Err e)) → P r
passed_on (Ok x) G P h f = absurd h
passed_on (Err e) G P h f = f e h
