use Rattle.std.proofs.Common.{◌≡◌, ℕ, ◌+◌, ◌-◌, ◌<◌, ◌≤◌, ◌≢◌, List, length, get_or, ◌++◌, drop, ap, ◌∙◌, ⊎_elim, arith, length-set, below_more}
use lib.ListN.{get_or-append}
use Rattle.std.proofs.Math.Seq.{get_or-append_right}
use Rattle.std.proofs.lemmas.List.{get_or-drop}
use Rattle.std.proofs.lemmas.Bool.{cases_lt}
use Rattle.zones.specs.declared.codes.Code.{Code}
use Rattle.zones.specs.Codes.{code_back, code_front, code_of}
use Rattle.zones.proofs.Written.{code_same, code_other}
use Rattle.zones.proofs.Codings.{back_first, back_other}
use Rattle.zones.proofs.Props.{sound}
use Rattle.zones.proofs.Outcomes.{back_sound}
use Rattle.zones.proofs.zone.Zone.backed.Goals as goal

pub loop-j-preserved : goal.loop-j-preserved
loop-j-preserved c =
    let lt : c.loop-j.j < length c.loop-j.code-items = omega arith in (
      simp length-set c.loop-j.invariant.0,
      below_more _ _
          (λ k h. let ne : k ≢ c.loop-j.j = omega arith in code_other c.loop-j.code-items c.loop-j.j k _ ne ∙ c.loop-j.invariant.1 k h)
          (code_same c.loop-j.code-items c.loop-j.j _ lt ∙ c.front.ensures),
    )

-- the first row, and the others
back_codes : (xs row : List Code) (n : ℕ) → length row ≡ 9 → 9 ≤ n → ((p : ℕ) → p < n → code_of row p ≡ code_front xs 8 p) → (p : ℕ) → p < 81 → code_of (row ++ drop 9 xs) p ≡ code_back xs p
back_codes xs row n len lo f p h =
    let d : Code = record { 0 = 0 } in
    ⊎_elim {C = code_of (row ++ drop 9 xs) p ≡ code_back xs p}
    (λ l. let lt : p < length row = omega arith in ap (λ x. x.0) (get_or-append row (drop 9 xs) d p lt) ∙ f p (omega arith) ∙ back_first xs p l)
    (λ l.
    let ge : length row ≤ p = omega arith in
    let e : 9 + (p - length row) ≡ p = omega arith in
    ap (λ x. x.0) (get_or-append_right row (drop 9 xs) p d ge ∙ get_or-drop 9 xs (p - length row) d ∙ ap (λ k. get_or xs k d) e) ∙ back_other xs p l)
    (cases_lt p 9)

pub invariant_of-result : goal.invariant_of-result
invariant_of-result c =
    let xs = c.args.self.now.codes in
    record { ok = ∣ back_sound xs _ (sound xs c.args.self.now.ok) (back_codes xs c.loop-j.code-items c.loop-j.j c.loop-j.invariant.0 (omega arith) c.loop-j.invariant.1) ∣₁ }

pub returns : goal.returns
returns c = back_codes c.args.self.now.codes c.loop-j.code-items c.loop-j.j c.loop-j.invariant.0 (omega arith) c.loop-j.invariant.1
