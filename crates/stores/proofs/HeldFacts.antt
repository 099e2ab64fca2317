-- The entries that bytes hold
use Rattle.std.proofs.Common.{◌≡◌, ℕ, ◌+◌, ◌≤◌, List, [], ◌∷◌, ◌++◌, length, take, drop, sym, refl, ap, ◌∙◌, subst, append_assoc, append-nil, arith, length-append}
use mathlib.Core.Logic.{∥∥₁_elim, ∥∥₁_map}
use mathlib.Core.List.{is_set}
use Rattle.std.proofs.lemmas.List.{length-take-le, take_at}
use Rattle.byte_text.specs.Lines.{written}
use Rattle.byte_text.proofs.Writing.{length_written}
use native.Mathlib.Bridge.{le_prop}
use native.Mathlib.Decide.{ℕ_discrete}
use mathlib.Core.HLevel.{hedberg}
use base.Stored.{Coded-set}
use Rattle.entries.specs.declared.entry.Entry.{Entry}
use Rattle.entries.specs.contracts.entry.Entry.{the_row}
use Rattle.entries.specs.Entries.{IsEntry}
use Rattle.entries.specs.Lines.{line}
use Rattle.entries.proofs.Unique.{lines_append, all_append, lines_long}
use Rattle.stores.specs.Held.{Holding, Kept, kept_prop, held}

pub held_holds : (n c : ℕ) (bs : List ℕ) (k : ∥ Kept n c bs ∥₁) → ∥ Holding n c bs (held n c bs k) ∥₁
unfolding held
held_holds n c bs k = (∥∥₁_elim k (kept_prop n c bs) (λ x. x)).1

pub held_is : (n c : ℕ) (bs : List ℕ) (k : ∥ Kept n c bs ∥₁) (es : List Entry) → Holding n c bs es → held n c bs k ≡ es
unfolding held
held_is n c bs k es h = ap (λ (x : Kept n c bs). x.0) (kept_prop n c bs (∥∥₁_elim k (kept_prop n c bs) (λ x. x)) (es, ∣ h ∣₁))

pub held_same : (n c d : ℕ) (bs cs : List ℕ) (k : ∥ Kept n c bs ∥₁) (l : ∥ Kept n d cs ∥₁) → c ≡ d → bs ≡ cs → held n c bs k ≡ held n d cs l
held_same n c d bs cs k l p q =
    ∥∥₁_elim (held_holds n d cs l) (is_set (Coded-set the_row.coded) _ _) (λ h. held_is n c bs k (held n d cs l) (record { all = h.all; text = h.text ∙ sym q; long = h.long ∙ sym p }))

-- one entry more
pub kept_more : (n c : ℕ) (bs : List ℕ) (e : Entry) → ∥ Kept n c bs ∥₁ → IsEntry n e → ∥ Kept n (c + 1) (bs ++ line n e) ∥₁
kept_more n c bs e k is =
    ∥∥₁_map (held_holds n c bs k) (λ h. (held n c bs k ++ (e ∷ []), ∣ held_push n c bs e (held n c bs k) h is ∣₁))
  where
    held_push : (n c : ℕ) (bs : List ℕ) (e : Entry) (es : List Entry) → Holding n c bs es → IsEntry n e → Holding n (c + 1) (bs ++ line n e) (es ++ (e ∷ []))
    held_push n c bs e es h is = record {
      all = all_append n es (e ∷ []) h.all (is, tt);
      text = lines_append n es (e ∷ []) ∙ (λ i. h.text i ++ append-nil (line n e) i);
      long = length-append es (e ∷ []) ∙ ap (λ (m : ℕ). m + 1) h.long;
    }

pub held_more : (n m c d : ℕ) (bs cs : List ℕ) (e : Entry) (k : ∥ Kept n c bs ∥₁) (l : ∥ Kept m d cs ∥₁) → m ≡ n → IsEntry n e → d ≡ c + 1 → cs ≡ bs ++ line n e → held m d cs l ≡ held n c bs k ++ (e ∷ [])
held_more n m c d bs cs e k l o is p q =
    ∥∥₁_elim (held_holds n c bs k) (is_set (Coded-set the_row.coded) _ _) (λ h.
    held_is m d cs l (held n c bs k ++ (e ∷ [])) (subst (λ (x : ℕ). Holding x d cs (held n c bs k ++ (e ∷ []))) (sym o) (record {
      all = all_append n (held n c bs k) (e ∷ []) h.all (is, tt);
      text = lines_append n (held n c bs k) (e ∷ []) ∙ (λ i. h.text i ++ append-nil (line n e) i) ∙ sym q;
      long = length-append (held n c bs k) (e ∷ []) ∙ ap (λ (x : ℕ). x + 1) h.long ∙ sym p;
    })))

pub kept_none : (n : ℕ) → ∥ Kept n 0 [] ∥₁
kept_none n = ∣ ([], ∣ record { all = tt; text = refl; long = refl } ∣₁) ∣₁

pub count_is : (n c : ℕ) (bs : List ℕ) (k : ∥ Kept n c bs ∥₁) → c ≡ length (held n c bs k)
count_is n c bs k = ∥∥₁_elim (held_holds n c bs k) (hedberg ℕ_discrete _ _) (λ h. sym h.long)

pub count_few : (n c : ℕ) (bs : List ℕ) → ∥ Kept n c bs ∥₁ → c ≤ length bs
count_few n c bs k = ∥∥₁_elim (held_holds n c bs k) le_prop (λ h. omega (arith, h.long, ap length h.text, lines_long n (held n c bs k)))

-- bytes written behind the first u
module _ (bs cs l : List ℕ) (u v : ℕ) (is : cs ≡ written bs u l) (same : v ≡ u) (fits : u + length l ≤ length bs) where
  long_front : length (take u bs) ≡ u
  long_front = length-take-le u bs (omega arith)

  pub front_kept : take v cs ≡ take u bs
  front_kept = (λ i. take (same i) (is i)) ∙ take_at (take u bs) (l ++ drop (u + length l) bs) u long_front

  pub front_more : (m : ℕ) → m ≡ length l → take (v + m) cs ≡ take v cs ++ l
  front_more m e =
      let w : v + m ≡ u + length l = omega (arith, same, e) in
      let both : length (take u bs ++ l) ≡ u + length l = length-append (take u bs) l ∙ ap (λ (x : ℕ). x + length l) long_front in
      (λ i. take (w i) (is i)) ∙ ap (take (u + length l)) (sym (append_assoc (take u bs) l (drop (u + length l) bs))) ∙ take_at (take u bs ++ l) (drop (u + length l) bs) (u + length l) both
      ∙ ap (λ (x : List ℕ). x ++ l) (sym front_kept)

  pub length_kept : length cs ≡ length bs
  length_kept = ap length is ∙ length_written bs u l fits
