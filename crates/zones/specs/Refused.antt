-- Where a zone call is refused: what then holds, by refusal. No zone call is refused by any other.
use Rattle.bounds.specs.declared.refusal.Refusal.{Refusal}
use Rattle.bounds.specs.declared.refusal.Refusal.TheVariants as refused

-- by Name, by Number, by State, by Range
abbrev pub Refused : Type 0 → Type 0 → Type 0 → Type 0 → Refusal → Type 0
Refused name number state range refused.Line = ⊥
Refused name number state range refused.Order = ⊥
Refused name number state range refused.Number = number
Refused name number state range refused.Name = name
Refused name number state range refused.Chance = ⊥
Refused name number state range refused.Rows = ⊥
Refused name number state range refused.Clocks = ⊥
Refused name number state range refused.State = state
Refused name number state range refused.Full = ⊥
Refused name number state range refused.Range = range
Refused name number state range refused.Phase = ⊥
Refused name number state range refused.Entry = ⊥
Refused name number state range refused.Buffer = ⊥
