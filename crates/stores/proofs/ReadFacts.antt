-- What is read of the lines that a store holds
use Rattle.std.proofs.Common.{◌≡◌, ℕ, ◌<◌, List, [], ◌∷◌, ◌++◌, get_or, Some, None, Option, sym, ap, ◌∙◌, subst, arith, Bor}
use mathlib.Core.Logic.{∥∥₁_elim}
use mathlib.Core.HLevel.{⊥_prop}
use base.Stored.{Coded-set}
use Rattle.entries.specs.declared.entry.Entry.{Entry}
use Rattle.entries.specs.contracts.entry.Entry.{the_row}
use Rattle.entries.specs.Entries.{IsEntry}
use Rattle.entries.specs.Lines.{line, Read}
use Rattle.entries.specs.Lists.{lines, AllEntries}
use Rattle.stores.specs.Held.{Holding, Kept, held}
use Rattle.stores.specs.Texts.{NthSays, shows}
use Rattle.stores.proofs.HeldFacts.{held_holds}
use Rattle.stores.proofs.NthFacts.{Parted, parted_at, item_there}

all_mid : (n : ℕ) (es fs : List Entry) (e : Entry) → AllEntries n (es ++ (e ∷ fs)) → IsEntry n e
all_mid n [] fs e a = a.0
all_mid n (x ∷ es) fs e a = all_mid n es fs e a.1

module _ (n c : ℕ) (bs : List ℕ) (k : ∥ Kept n c bs ∥₁) (i : ℕ) (lt : i < c) where
  module _ (h : Holding n c bs (held n c bs k)) where
    there : Parted (held n c bs k) i
    there = parted_at (held n c bs k) i (omega (arith, lt, h.long))

    whole : AllEntries n (there.before ++ (there.entry ∷ there.after))
    whole = subst (AllEntries n) there.are h.all

    spelled : lines n (there.before ++ (there.entry ∷ there.after)) ≡ bs
    spelled = ap (lines n) (sym there.are) ∙ h.text

    found : (r : Option (Bor (List ℕ))) → NthSays bs i r → shows r ≡ Some (line n there.entry)
    found r says = says n there.before there.after there.entry whole spelled there.long

    entry_is : IsEntry n there.entry
    entry_is = all_mid n there.before there.after there.entry whole

    line_is : (x : Bor (List ℕ)) → NthSays bs i (Some x) → line n there.entry ≡ x.now
    line_is x says = let e = found (Some x) says in let f : x.now ≡ line n there.entry = cc in sym f

    is_there : (x : Entry) → there.entry ≡ x → x ≡ get_or (held n c bs k) i x
    is_there x e = item_there there.before there.after x i there.long ∙ ap (λ (l : List Entry). get_or l i x) (ap (λ (y : Entry). there.before ++ (y ∷ there.after)) (sym e) ∙ sym there.are)

  pub no_line : NthSays bs i None → ⊥
  no_line says = ∥∥₁_elim (held_holds n c bs k) ⊥_prop (λ h. let e = found h None says in let z : ◌≡◌ {A = ℕ} 0 1 = cc in omega arith)

  pub no_entry : (x : Bor (List ℕ)) → NthSays bs i (Some x) → ((f : Entry) → IsEntry n f → line n f ≡ x.now → ⊥) → ⊥
  no_entry x says none = ∥∥₁_elim (held_holds n c bs k) ⊥_prop (λ h. none (there h).entry (entry_is h) (line_is h x says))

  pub entry_read : (x : Bor (List ℕ)) (e : Entry) → NthSays bs i (Some x) → Read n x.now e → e ≡ get_or (held n c bs k) i e
  entry_read x e says r = ∥∥₁_elim (held_holds n c bs k) (Coded-set the_row.coded _ _) (λ h. is_there h e (r.only (there h).entry (entry_is h) (line_is h x says)))
