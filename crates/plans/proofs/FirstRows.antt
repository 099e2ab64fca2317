-- What a check of each row in turn says of the rows
use Rattle.std.proofs.Common.{ℕ, ◌+◌, ◌<◌, ◌≤◌, List, length, get_or, Ok, Err, Result, MatchResult, subst, arith}
use Rattle.std.specs.Borrow.{Bor}
use Rattle.std.proofs.lemmas.List.{get_or_read}
use Rattle.bounds.specs.declared.refusal.Refusal.{Refusal}
use Rattle.plans.specs.declared.faults.RowFault.{RowFault}
use Rattle.plans.specs.declared.faults.PlanList.{PlanList}
use Rattle.plans.specs.RowChecks.{FirstFault}
use Rattle.plans.specs.FirstFaults.{SaysAt, Accepts, Refuses}
use denote.Param.Members.{Shared}

-- a check that says of each row that it is fine or wrong
abbrev Says : {F R : Type 0} → Shared F (ℕ × (Bor R × Unit {0})) (Result (Unit {0}) Refusal) → F → (ℕ → R → Type 0) → (ℕ → R → Refusal → Type 0) → Type 0
Says {F} {R} g check Fine Wrong = (k : ℕ) (p : Bor R) (r : Result (Unit {0}) Refusal) → g.post check (k, (p, tt)) r → MatchResult r (λ _. Fine k p.now) (λ e. Wrong k p.now e)

module _ {F R : Type 0} (g : Shared F (ℕ × (Bor R × Unit {0})) (Result (Unit {0}) Refusal)) (check : F) (rows : List R) (d : R)
    (Fine : ℕ → R → Type 0) (Wrong : ℕ → R → Refusal → Type 0) where
  fine_at : (k n : ℕ) → n ≤ length rows → Accepts g check rows n → Says g check Fine Wrong → k < n → Fine (k + 1) (get_or rows k d)
  fine_at k n h a says l =
      let s = a k l in
      subst (Fine (k + 1)) (get_or_read rows k s.0.now (omega arith) s.1 d) (says (k + 1) s.0 (Ok tt) s.2.met)

  wrong_at : (k : ℕ) (e : Refusal) → k < length rows → SaysAt g check rows k (Err e) → Says g check Fine Wrong → Wrong (k + 1) (get_or rows k d) e
  wrong_at k e l s says = subst (λ x. Wrong (k + 1) x e) (get_or_read rows k s.0.now l s.1 d) (says (k + 1) s.0 (Err e) s.2.met)

  -- each row is fine, or the first that is wrong is told
  pub rows_say : (l : PlanList) (r : Result (Unit {0}) RowFault) → MatchResult r (λ _. Accepts g check rows (length rows)) (λ f. Refuses g check rows l f) → Says g check Fine Wrong
      → MatchResult r (λ _. (j : ℕ) → j < length rows → Fine (j + 1) (get_or rows j d)) (λ f. FirstFault l (length rows) (λ k. (j : ℕ) → j < k → Fine (j + 1) (get_or rows j d)) (λ k e. Wrong (k + 1) (get_or rows k d) e) f)
  rows_say l (Ok u) a says = λ j h. fine_at j (length rows) (omega arith) a says h
  rows_say l (Err f) w says = (w.0, w.1, w.2, w.3, λ j h. fine_at j w.0 (omega (arith, w.1)) w.4 says h, wrong_at w.0 f.refusal w.1 w.5 says)
