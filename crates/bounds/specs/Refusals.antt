-- The number of each refusal, and what is printed for it.
use Rattle.std.specs.Prelude.{ℕ, List, codes}
use Rattle.bounds.specs.declared.refusal.Refusal.{Refusal}
use Rattle.bounds.specs.declared.refusal.Refusal.TheVariants as refused

abbrev pub number : Refusal → ℕ
number refused.Line = 1
number refused.Order = 2
number refused.Number = 3
number refused.Name = 4
number refused.Chance = 5
number refused.Rows = 6
number refused.Clocks = 7
number refused.State = 8
number refused.Full = 9
number refused.Range = 10
number refused.Phase = 11
number refused.Entry = 12
number refused.Buffer = 13

-- what is printed for a refusal
abbrev pub told : Refusal → List ℕ
told refused.Line = codes "refused by Line"
told refused.Order = codes "refused by Order"
told refused.Number = codes "refused by Number"
told refused.Name = codes "refused by Name"
told refused.Chance = codes "refused by Chance"
told refused.Rows = codes "refused by Rows"
told refused.Clocks = codes "refused by Clocks"
told refused.State = codes "refused by State"
told refused.Full = codes "refused by Full"
told refused.Range = codes "refused by Range"
told refused.Phase = codes "refused by Phase"
told refused.Entry = codes "refused by Entry"
told refused.Buffer = codes "refused by Buffer"
