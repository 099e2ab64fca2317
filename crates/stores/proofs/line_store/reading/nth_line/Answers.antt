use Rattle.std.proofs.Common.{◌≡◌, ℕ, List, eqb, Some, None, Option, Bor, slice_get, refl, ap, ◌∙◌, rules}
use Rattle.std.specs.Option.{option_map}
use Rattle.std.proofs.lemmas.Iterator.Consumers.{nth_from_yields_List}
use Rattle.stores.specs.Texts.{shows}
use Rattle.stores.proofs.NthFacts.{ended, nth_ended, computes, pieces}
use Rattle.stores.proofs.line_store.reading.nth_line.Goals as goal

shown : (r : Option (Bor (List ℕ))) → shows r ≡ option_map (λ x. x.now) r
shown None = refl
shown (Some x) = refl

pub returns : goal.returns
returns c = λ n es fs e all is long.
    shown c.nth.result
    ∙ nth_from_yields_List c.nth.result _ c.args.i c.nth.ensures.ran (pieces _ 10 c.split_inclusive.result (computes _ (λ x. eqb x 10) _ (λ a r q k. search rules)))
    ∙ ap (λ (l : List ℕ). slice_get (ended 10 l) c.args.i) c.split_inclusive.ensures.rest
    ∙ nth_ended n es fs e c.args.bytes.now c.args.i all is long
