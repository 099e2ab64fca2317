use Rattle.std.proofs.Common.{◌≡◌, ℕ, [], ◌∷◌, Ok, Err, ap, ◌∙◌, rules}
use Rattle.std.proofs.lemmas.Result.{err_from_is_err_and}
use Rattle.zones.specs.declared.boxes.Side.{Side}
use Rattle.zones.specs.Boxes.{no_side}
use Rattle.byte_text.specs.Parts.{Place, place}
use Rattle.texts.specs.Faults.{fault, on}
use Rattle.texts.specs.Fields.{bounds, seen_field, in_field}
use Rattle.texts.specs.BoxFields.{bound_item, box_of}
use Rattle.texts.specs.Items.{items_of}
use Rattle.texts.proofs.BoxSteps.{bounds_are_items}
use Rattle.texts.proofs.written.Written.clock_box.Goals as goal

-- eight sides that ask nothing, with the items
from_free : (n : ℕ) (s : Side) (p : Place) → s ≡ no_side → items_of (bound_item n) (s ∷ s ∷ s ∷ s ∷ s ∷ s ∷ s ∷ s ∷ []) p ≡ box_of n p
from_free n s p e = ap (λ x. items_of (bound_item n) (x ∷ x ∷ x ∷ x ∷ x ∷ x ∷ x ∷ x ∷ []) p) e ∙ bounds_are_items n p

pub returns : goal.returns
returns c =
    let p = place c.args.self.part in
    let e : c.default-free.result ≡ no_side = search rules in
    ap (λ r. on r (λ sides. Ok (bounds (record { sides = sides }) (place c.args.self.part)))) (c.in_ok-sides.ensures ∙ ap (in_field c.args.self.line c.args.self.number p) (c.read_items.ensures ∙ from_free c.args.standing.clocks c.default-free.result p e))

pub returns-in_err-sides : goal.returns-in_err-sides
returns-in_err-sides c =
    let p = place c.args.self.part in
    let free : c.default-free.result ≡ no_side = search rules in
    let e = err_from_is_err_and c.from_residual.result c.from_residual.ensures.1 in
    ap seen_field e.1 ∙ (ap (λ f. Err (fault f)) e.2 ∙ ap (λ r. on r (λ sides. Ok (bounds (record { sides = sides }) (place c.args.self.part)))) (c.in_err-sides.ensures ∙ ap (in_field c.args.self.line c.args.self.number p) (c.read_items.ensures ∙ from_free c.args.standing.clocks c.default-free.result p free)))
