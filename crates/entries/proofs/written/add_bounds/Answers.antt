use Rattle.std.proofs.Common.{ℕ, ◌+◌, Bool, cond, List, [], ◌∷◌, ◌++◌, length, sym, ap, ◌∙◌, append-nil, append_assoc, arith, length-append, Bor}
use Rattle.std.proofs.lemmas.Result.{err_from_is_err_and}
use Rattle.zones.specs.Codes.{at}
use Rattle.byte_text.specs.Lines.{text}
use Rattle.entries.specs.Lines.{items, item, some, commas}
use Rattle.entries.proofs.Steps.{on}
use Rattle.entries.proofs.Items.{items_none, commas_with, comma_after, commas_without, some_without, commas_longer}
use Rattle.entries.proofs.written.add_bounds.Goals as goal
use Rattle.entries.proofs.written.add_bounds.Goals.{in-Some+in_ok-word+in_ok-add_bound, in_default}

pub loop-p-init : goal.loop-p-init
loop-p-init c =
    let e = items_none c.args.clocks.count (at c.args.zone.now.codes) in
    (ap (λ (l : List (List ℕ)). cond (some l) (44 ∷ []) []) (sym e), sym (append-nil (text c.args.line.now)) ∙ ap (λ l. text c.args.line.now ++ commas l) (sym e))

pub returns-in_err-word : goal.returns-in_err-word
returns-in_err-word c =
    let p = err_from_is_err_and c.from_residual.result c.from_residual.ensures.1 in
    let n = c.args.clocks.count in
    let Z = at c.args.zone.now.codes in
    let k = c.loop-p.p in
    let s = c.loop-p.separator.now in
    let i = item c.new-place.result.number c.in-Some.bound.closed c.in-Some.bound.number in
    let more = commas_with n Z k c.new-place.result.number c.new-place.ensures s c.loop-p.invariant.0 c.in-Some.bound.closed c.in-Some.bound.number c.in-Some.ensures in
    rw (p.1, p.2) (
      c.in_err-word.ensures.0,
      omega (arith, c.in_err-word.ensures.1, ap length c.loop-p.invariant.1, length-append (text c.args.line.now) (commas (items n Z k)), ap length more, length-append (commas (items n Z k)) (s ++ i), length-append s i, commas_longer n Z (k + 1) 81 (omega arith)),
    )

pub returns-in_err-add_bound : goal.returns-in_err-add_bound
returns-in_err-add_bound c =
    let p = err_from_is_err_and c.from_residual-in_err-add_bound.result c.from_residual-in_err-add_bound.ensures.1 in
    let n = c.args.clocks.count in
    let Z = at c.args.zone.now.codes in
    let k = c.loop-p.p in
    let s = c.loop-p.separator.now in
    let i = item c.new-place.result.number c.in-Some.bound.closed c.in-Some.bound.number in
    let more = commas_with n Z k c.new-place.result.number c.new-place.ensures s c.loop-p.invariant.0 c.in-Some.bound.closed c.in-Some.bound.number c.in-Some.ensures in
    rw (p.1, p.2) (
      c.in_err-add_bound.ensures.0,
      omega (arith, c.in_err-add_bound.ensures.1, ap length c.in_ok-word.ensures.1, length-append (text c.loop-p.line) s, ap length c.loop-p.invariant.1, length-append (text c.args.line.now) (commas (items n Z k)), ap length more, length-append (commas (items n Z k)) (s ++ i), length-append s i, commas_longer n Z (k + 1) 81 (omega arith)),
    )

pub loop-p-preserved : goal.loop-p-preserved
loop-p-preserved c =
    let n = c.args.clocks.count in
    let Z = at c.args.zone.now.codes in
    let k = c.loop-p.p in
    let s = c.loop-p.separator.now in
    let b = text c.args.line.now in
    elim c.match-seen_bound.branch [
      | in-Some+in_ok-word+in_ok-add_bound w ↦
          let q = c.new-place.result.number in
          let bound = w.in-Some.bound in
          let more = commas_with n Z k q c.new-place.ensures s c.loop-p.invariant.0 bound.closed bound.number w.in-Some.ensures in
          let added = w.in_ok-add_bound.ensures ∙ ap (λ l. l ++ item q bound.closed bound.number) w.in_ok-word.ensures.1 ∙ append_assoc (text c.loop-p.line) s (item q bound.closed bound.number) in (
            ap (λ (x : Bor (List ℕ)). x.now) w.separator-is ∙ comma_after n Z k q c.new-place.ensures s c.loop-p.invariant.0 bound.closed bound.number w.in-Some.ensures,
            ap text w.line-is ∙ on b (commas (items n Z k)) (s ++ item q bound.closed bound.number) c.loop-p.invariant.1 added ∙ ap (λ l. b ++ l) (sym more),
          )
      | in_default w ↦
          let q = c.new-place.result.number in (
            ap (λ (x : Bor (List ℕ)). x.now) w.separator-is ∙ c.loop-p.invariant.0 ∙ ap (λ (t : Bool). cond t (44 ∷ []) []) (some_without n Z k q c.new-place.ensures w.in_default.ensures),
            ap text w.line-is ∙ c.loop-p.invariant.1 ∙ ap (λ l. b ++ l) (sym (commas_without n Z k q c.new-place.ensures w.in_default.ensures)),
          )
    ]
