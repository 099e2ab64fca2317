use Rattle.std.proofs.Common.{ℕ, ◌^◌, ◌<◌, List, [], ◌∷◌, ◌++◌, length, decimal, ap, ◌∙◌, arith, rules}
use Rattle.byte_text.specs.Lines.{text}
use Rattle.byte_text.proofs.Writing.{length_most}
use Rattle.reports.proofs.Fields.{longer, five}
use Rattle.reports.proofs.status_report.Goals as goal

pub returns-in_err-word-2 : goal.returns-in_err-word-2
returns-in_err-word-2 c =
    let n : c.args.rounds < 2 ^ 64 = search rules in
    absurd (omega (arith, c.in_err-word-2.ensures.1, ap length c.new-report.ensures, longer (text c.new-report.result) (text c.word.new.self) (83 ∷ 9 ∷ []) c.in_ok-word.ensures.1, length_most c.args.rounds n, c.phase_name.ensures.short))

pub returns-in_err-word-3 : goal.returns-in_err-word-3
returns-in_err-word-3 c =
    let n : c.args.rounds < 2 ^ 64 = search rules in
    absurd (omega (arith, c.in_err-word-3.ensures.1, ap length c.new-report.ensures, longer (text c.new-report.result) (text c.word.new.self) (83 ∷ 9 ∷ []) c.in_ok-word.ensures.1, longer (text c.word.new.self) (text c.word-2.new.self) c.phase_name.result.now c.in_ok-word-2.ensures.1, length_most c.args.rounds n, c.phase_name.ensures.short))

pub returns-in_err-number : goal.returns-in_err-number
returns-in_err-number c =
    let n : c.args.rounds < 2 ^ 64 = search rules in
    absurd (omega (arith, c.in_err-number.ensures.1, ap length c.new-report.ensures, longer (text c.new-report.result) (text c.word.new.self) (83 ∷ 9 ∷ []) c.in_ok-word.ensures.1, longer (text c.word.new.self) (text c.word-2.new.self) c.phase_name.result.now c.in_ok-word-2.ensures.1, longer (text c.word-2.new.self) (text c.word-3.new.self) (9 ∷ []) c.in_ok-word-3.ensures.1, length_most c.args.rounds n, c.phase_name.ensures.short))

pub returns-in_err-word-4 : goal.returns-in_err-word-4
returns-in_err-word-4 c =
    let n : c.args.rounds < 2 ^ 64 = search rules in
    absurd (omega (arith, c.in_err-word-4.ensures.1, ap length c.new-report.ensures, longer (text c.new-report.result) (text c.word.new.self) (83 ∷ 9 ∷ []) c.in_ok-word.ensures.1, longer (text c.word.new.self) (text c.word-2.new.self) c.phase_name.result.now c.in_ok-word-2.ensures.1, longer (text c.word-2.new.self) (text c.word-3.new.self) (9 ∷ []) c.in_ok-word-3.ensures.1, longer (text c.word-3.new.self) (text c.number.new.self) (decimal c.args.rounds) c.in_ok-number.ensures.1, length_most c.args.rounds n, c.phase_name.ensures.short))

pub returns : goal.returns
returns c =
    five (83 ∷ 9 ∷ []) c.phase_name.result.now (9 ∷ []) (decimal c.args.rounds) (10 ∷ []) _ _ _ _ _ _ c.new-report.ensures c.in_ok-word.ensures.1 c.in_ok-word-2.ensures.1 c.in_ok-word-3.ensures.1 c.in_ok-number.ensures.1 c.in_ok-word-4.ensures.1
    ∙ ap (λ (w : List ℕ). 83 ∷ 9 ∷ (w ++ (9 ∷ (decimal c.args.rounds ++ (10 ∷ []))))) c.phase_name.ensures.is
