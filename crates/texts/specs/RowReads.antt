-- The rows that lines write, from their fields after the letter. `may` says whether such a line may stand there, and `known` how many positions there are.
use Rattle.std.specs.Prelude.{ℕ, Bool, List, Ok, Result}
use Rattle.bounds.specs.declared.refusal.Refusal.TheVariants.{Order, Number, Name}
use Rattle.byte_text.specs.Parts.{Place, tail_places}
use Rattle.plans.specs.declared.rows.Position.{Position}
use Rattle.plans.specs.declared.rows.Move.{Move}
use Rattle.plans.specs.declared.rows.Outcome.{Outcome}
use Rattle.plans.specs.declared.rows.Goal.{Goal}
use Rattle.texts.specs.Faults.{Fault, on, field_next, no_field, demanded}
use Rattle.texts.specs.Fields.{number_field, clocks_field}
use Rattle.texts.specs.BoxFields.{box_field}
use Rattle.texts.specs.Words.{number_in, box_in, clocks_in}

abbrev pub position_read : Bool → ℕ → ℕ → Place → List Place → Result Position Fault
position_read may clocks line p ps =
    on (field_next line p ps) (λ a.
    on (no_field line p (tail_places ps)) (λ _.
    on (demanded may Order line p) (λ _.
    on (box_field clocks line 2 a) (λ b.
    Ok (record { invariant = box_in b })))))

abbrev pub move_read : Bool → ℕ → ℕ → ℕ → Place → List Place → Result Move Fault
move_read may known clocks line p ps =
    on (field_next line p ps) (λ a.
    on (field_next line p (tail_places ps)) (λ c.
    on (no_field line p (tail_places (tail_places ps))) (λ _.
    on (demanded may Order line p) (λ _.
    on (number_field 1 known Name line 2 a) (λ n.
    on (box_field clocks line 3 c) (λ b.
    Ok (record { source = number_in n; guard = box_in b; sum = 0 })))))))

abbrev pub outcome_read : Bool → ℕ → ℕ → ℕ → ℕ → Place → List Place → Result Outcome Fault
outcome_read may cause known clocks line p ps =
    on (field_next line p ps) (λ a.
    on (field_next line p (tail_places ps)) (λ b.
    on (field_next line p (tail_places (tail_places ps))) (λ c.
    on (no_field line p (tail_places (tail_places (tail_places ps)))) (λ _.
    on (demanded may Order line p) (λ _.
    on (number_field 0 1000 Number line 2 a) (λ n.
    on (number_field 1 known Name line 3 b) (λ m.
    on (clocks_field clocks line 4 c) (λ k.
    Ok (record { cause = cause; chance = number_in n; target = number_in m; resets = clocks_in k })))))))))

abbrev pub goal_read : Bool → ℕ → ℕ → ℕ → Place → List Place → Result Goal Fault
goal_read may known clocks line p ps =
    on (field_next line p ps) (λ a.
    on (field_next line p (tail_places ps)) (λ c.
    on (no_field line p (tail_places (tail_places ps))) (λ _.
    on (demanded may Order line p) (λ _.
    on (number_field 1 known Name line 2 a) (λ n.
    on (box_field clocks line 3 c) (λ b.
    Ok (record { position = number_in n; area = box_in b })))))))
