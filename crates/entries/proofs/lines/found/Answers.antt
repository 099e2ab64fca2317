use Rattle.std.proofs.Common.{◌≡◌, ℕ, Bool, true, false, length, Some, None, Ok, Err, Result, MatchResult, sym, refl, subst, arith, rules}
use Rattle.std.specs.Result.{result_ok}
use Rattle.std.specs.Bool.{then_some}
use Rattle.zones.proofs.Props.{sound}
use Rattle.entries.specs.Entries.{IsEntry}
use Rattle.entries.specs.declared.entry.Entry.{Entry}
use Rattle.entries.specs.declared.reading.Draft.{Draft}
use Rattle.entries.specs.Reading.{Drawn}
use Rattle.entries.specs.Finding.{FoundSays}
use Rattle.entries.proofs.Same.{whole_given, given_same, same_entry}
use Rattle.entries.proofs.lines.found.Goals as goal

is_ok : {A E : Type 0} (P : A → Type 0) (Q : E → Type 0) (r : Result A E) (x : A) → Some x ≡ result_ok r → MatchResult r P Q → P x
is_ok P Q (Ok y) x e h = let f : y ≡ x = cc in subst P f h
is_ok P Q (Err w) x e h = let z : ◌≡◌ {A = ℕ} 0 1 = cc in absurd (omega arith)

is_err : {A E : Type 0} (P : A → Type 0) (Q : E → Type 0) (r : Result A E) → None ≡ result_ok r → MatchResult r P Q → (w : E) × Q w
is_err P Q (Ok y) e h = let z : ◌≡◌ {A = ℕ} 0 1 = cc in absurd (omega arith)
is_err P Q (Err w) e h = (w, h)

-- an entry is found if it is one, and none if it is not
told : (n : ℕ) (d : Draft) (e : Entry) (b : Bool) → (b ≡ true → IsEntry n e) → (IsEntry n e → b ≡ true) → ((f : Entry) → IsEntry n f → Drawn n f d → f ≡ e) → FoundSays n d (then_some b e)
told n d e true h k only = (h refl, only)
told n d e false h k only = λ f is drawn. let z = k (subst (IsEntry n) (only f is drawn) is) in let y : ◌≡◌ {A = ℕ} 0 1 = cc in absurd (omega arith)

pub returns-in_err-zone : goal.returns-in_err-zone
returns-in_err-zone c =
    let none = is_err _ _ c.of_bounds.result c.in_err-zone.ensures.value c.of_bounds.ensures in
    subst (FoundSays c.args.clocks.count c.args.draft) (sym c.from_residual.ensures)
    (λ f is d. none.1.1 f.zone.codes (sound _ f.zone.ok) (whole_given c.args.clocks.count f c.args.draft.bounds c.whole_bounds.result is d.bounds c.whole_bounds.ensures))

pub returns : goal.returns
returns c =
    let zone = c.in_ok-zone.zone in
    let entry : Entry = record { position = c.args.draft.position; round = c.args.draft.round; zone = zone } in
    let given = is_ok _ _ c.of_bounds.result zone c.in_ok-zone.ensures.value c.of_bounds.ensures in
    let long : length zone.codes ≡ 81 = search rules in
    subst (FoundSays c.args.clocks.count c.args.draft) (sym c.then_some.ensures)
    (told c.args.clocks.count c.args.draft entry c.is_for.result c.is_for.ensures.0 c.is_for.ensures.1
    (λ f is d. same_entry f entry (sym d.position) (sym d.round) (given_same c.whole_bounds.result f.zone zone is.places long (whole_given c.args.clocks.count f c.args.draft.bounds c.whole_bounds.result is d.bounds c.whole_bounds.ensures) given)))
