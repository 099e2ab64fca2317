use Rattle.std.proofs.Common.{◌≡◌, ap, ◌∙◌, rules}
use Rattle.byte_text.specs.Numerals.{number_to}
use Rattle.entries.specs.Reading.{above, below}
use Rattle.entries.proofs.ReadSteps.{signed_minus, signed_plain}
use Rattle.entries.proofs.reading.read_number.Goals as goal

pub returns-in-Some : goal.returns-in-Some
returns-in-Some c =
    let m : c.map.result ≡ below c.number_to.result = search rules in
    m ∙ ap below (c.number_to.ensures ∙ ap (number_to 4000001) c.in-Some.ensures.cases.1) ∙ signed_minus c.args.bytes.now c.in-Some.ensures.cases.0

pub returns-in-None : goal.returns-in-None
returns-in-None c =
    let m : c.map-in-None.result ≡ above c.number_to-in-None.result = search rules in
    m ∙ ap above c.number_to-in-None.ensures ∙ signed_plain c.args.bytes.now c.in-None.ensures.cases
