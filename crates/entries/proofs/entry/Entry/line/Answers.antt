use Rattle.std.proofs.Common.{◌^◌, ◌<◌, [], ◌∷◌, ◌++◌, length, decimal, sym, ap, ◌∙◌, append_assoc, arith, rules}
use Rattle.zones.specs.Codes.{at}
use Rattle.byte_text.specs.Lines.{text}
use Rattle.entries.specs.Lines.{items, commas}
use Rattle.entries.proofs.Steps.{on, longer}
use Rattle.zones.proofs.Props.{sound}
use Rattle.entries.proofs.Items.{length_line, line_is}
use Rattle.entries.proofs.Short.{line_short}
use Rattle.entries.proofs.entry.Entry.line.Goals as goal

pub returns-in_err-number : goal.returns-in_err-number
returns-in_err-number c =
    let e = c.args.self in
    let p : e.position < 2 ^ 64 = search rules in
    let r : e.round < 2 ^ 64 = search rules in
    absurd (omega (arith, c.in_err-number.ensures.1, length_line c.args.clocks.count e, ap length c.new-line.ensures, longer (text c.new-line.result) (90 ∷ 9 ∷ []) c.in_ok-word.ensures.1, line_short c.args.clocks.count e (sound _ e.zone.ok) p r))

pub returns-in_err-word-2 : goal.returns-in_err-word-2
returns-in_err-word-2 c =
    let e = c.args.self in
    let p : e.position < 2 ^ 64 = search rules in
    let r : e.round < 2 ^ 64 = search rules in
    absurd (omega (arith, c.in_err-word-2.ensures.1, length_line c.args.clocks.count e, ap length c.new-line.ensures, longer (text c.new-line.result) (90 ∷ 9 ∷ []) c.in_ok-word.ensures.1, longer (text c.word.new.self) (decimal e.position) c.in_ok-number.ensures.1, line_short c.args.clocks.count e (sound _ e.zone.ok) p r))

pub returns-in_err-number-2 : goal.returns-in_err-number-2
returns-in_err-number-2 c =
    let e = c.args.self in
    let p : e.position < 2 ^ 64 = search rules in
    let r : e.round < 2 ^ 64 = search rules in
    absurd (omega (arith, c.in_err-number-2.ensures.1, length_line c.args.clocks.count e, ap length c.new-line.ensures, longer (text c.new-line.result) (90 ∷ 9 ∷ []) c.in_ok-word.ensures.1, longer (text c.word.new.self) (decimal e.position) c.in_ok-number.ensures.1, longer (text c.number.new.self) (9 ∷ []) c.in_ok-word-2.ensures.1, line_short c.args.clocks.count e (sound _ e.zone.ok) p r))

pub returns-in_err-word-3 : goal.returns-in_err-word-3
returns-in_err-word-3 c =
    let e = c.args.self in
    let p : e.position < 2 ^ 64 = search rules in
    let r : e.round < 2 ^ 64 = search rules in
    absurd (omega (arith, c.in_err-word-3.ensures.1, length_line c.args.clocks.count e, ap length c.new-line.ensures, longer (text c.new-line.result) (90 ∷ 9 ∷ []) c.in_ok-word.ensures.1, longer (text c.word.new.self) (decimal e.position) c.in_ok-number.ensures.1, longer (text c.number.new.self) (9 ∷ []) c.in_ok-word-2.ensures.1, longer (text c.word-2.new.self) (decimal e.round) c.in_ok-number-2.ensures.1, line_short c.args.clocks.count e (sound _ e.zone.ok) p r))

pub returns-in_err-add_bounds : goal.returns-in_err-add_bounds
returns-in_err-add_bounds c =
    let e = c.args.self in
    let p : e.position < 2 ^ 64 = search rules in
    let r : e.round < 2 ^ 64 = search rules in
    absurd (omega (arith, c.in_err-add_bounds.ensures.1, length_line c.args.clocks.count e, ap length c.new-line.ensures, longer (text c.new-line.result) (90 ∷ 9 ∷ []) c.in_ok-word.ensures.1, longer (text c.word.new.self) (decimal e.position) c.in_ok-number.ensures.1, longer (text c.number.new.self) (9 ∷ []) c.in_ok-word-2.ensures.1, longer (text c.word-2.new.self) (decimal e.round) c.in_ok-number-2.ensures.1, longer (text c.number-2.new.self) (9 ∷ []) c.in_ok-word-3.ensures.1, line_short c.args.clocks.count e (sound _ e.zone.ok) p r))

pub returns-in_err-word-4 : goal.returns-in_err-word-4
returns-in_err-word-4 c =
    let e = c.args.self in
    let p : e.position < 2 ^ 64 = search rules in
    let r : e.round < 2 ^ 64 = search rules in
    absurd (omega (arith, c.in_err-word-4.ensures.1, length_line c.args.clocks.count e, ap length c.new-line.ensures, longer (text c.new-line.result) (90 ∷ 9 ∷ []) c.in_ok-word.ensures.1, longer (text c.word.new.self) (decimal e.position) c.in_ok-number.ensures.1, longer (text c.number.new.self) (9 ∷ []) c.in_ok-word-2.ensures.1, longer (text c.word-2.new.self) (decimal e.round) c.in_ok-number-2.ensures.1, longer (text c.number-2.new.self) (9 ∷ []) c.in_ok-word-3.ensures.1, longer (text c.word-3.new.self) (commas (items c.args.clocks.count (at e.zone.codes) 81)) c.in_ok-add_bounds.ensures, line_short c.args.clocks.count e (sound _ e.zone.ok) p r))

pub returns : goal.returns
returns c =
    let e = c.args.self in
    let d0 = c.in_ok-word.ensures.1 ∙ ap (λ l. l ++ (90 ∷ 9 ∷ [])) c.new-line.ensures in
    let d1 = on [] (90 ∷ 9 ∷ []) (decimal e.position) d0 c.in_ok-number.ensures.1 in
    let d2 = on [] ((90 ∷ 9 ∷ []) ++ (decimal e.position)) (9 ∷ []) d1 c.in_ok-word-2.ensures.1 in
    let d3 = on [] (((90 ∷ 9 ∷ []) ++ (decimal e.position)) ++ (9 ∷ [])) (decimal e.round) d2 c.in_ok-number-2.ensures.1 in
    let d4 = on [] ((((90 ∷ 9 ∷ []) ++ (decimal e.position)) ++ (9 ∷ [])) ++ (decimal e.round)) (9 ∷ []) d3 c.in_ok-word-3.ensures.1 in
    let d5 = on [] (((((90 ∷ 9 ∷ []) ++ (decimal e.position)) ++ (9 ∷ [])) ++ (decimal e.round)) ++ (9 ∷ [])) (commas (items c.args.clocks.count (at e.zone.codes) 81)) d4 c.in_ok-add_bounds.ensures in
    let d6 = on [] ((((((90 ∷ 9 ∷ []) ++ (decimal e.position)) ++ (9 ∷ [])) ++ (decimal e.round)) ++ (9 ∷ [])) ++ (commas (items c.args.clocks.count (at e.zone.codes) 81))) (10 ∷ []) d5 c.in_ok-word-4.ensures.1 in
    d6 ∙ sym (line_is c.args.clocks.count e ∙ simp append_assoc)
