-- The entries whose lines stand in some bytes: there is one such list at most.
use Rattle.std.specs.Prelude.{◌≡◌, ℕ, List, length}
use Rattle.std.proofs.Common.{sym, ◌∙◌}
use Rattle.std.proofs.Math.Logic.{∥∥₁_elim, ∥∥₁_prop}
use mathlib.Core.HLevel.{Σ_prop_path}
use mathlib.Core.List.{is_set}
use base.Stored.{Coded-set}
use Rattle.entries.specs.declared.entry.Entry.{Entry}
use Rattle.entries.specs.contracts.entry.Entry.{the_row}
use Rattle.entries.specs.Lists.{lines, AllEntries}
use Rattle.entries.proofs.Unique.{lines_same}

-- es are `count` entries for n clocks, and the bytes are their lines
pub record Holding (n count : ℕ) (bytes : List ℕ) (es : List Entry) : Type 0 where
  pub all : AllEntries n es
  pub text : lines n es ≡ bytes
  pub long : length es ≡ count

abbrev pub Kept : ℕ → ℕ → List ℕ → Type 0
Kept n count bytes = (es : List Entry) × ∥ Holding n count bytes es ∥₁

pub kept_prop : (n count : ℕ) (bytes : List ℕ) → IsProp (Kept n count bytes)
kept_prop n count bytes u v =
    Σ_prop_path (λ es. ∥∥₁_prop)
    (∥∥₁_elim u.1 (is_set (Coded-set the_row.coded) u.0 v.0) (λ h.
    ∥∥₁_elim v.1 (is_set (Coded-set the_row.coded) u.0 v.0) (λ k.
    lines_same n u.0 v.0 h.all k.all (h.text ∙ sym k.text))))

-- the entries, where there are such
unfoldable pub held : (n count : ℕ) (bytes : List ℕ) → ∥ Kept n count bytes ∥₁ → List Entry
held n count bytes k = (∥∥₁_elim k (kept_prop n count bytes) (λ x. x)).0
