-- Which of two bounds asks more.
use Rattle.std.specs.Prelude.{◌≡◌, Bool, not, cond, ◌&&◌, ◌||◌, int_le, int_lt, Some, None, Option}
use Rattle.bounds.specs.declared.bound.Bound.{Bound}

-- as upper bounds: a is tighter than b
abbrev pub below : Bound → Bound → Bool
below a b = int_lt a.number b.number || (int_le a.number b.number && (not a.closed && b.closed))

-- as lower bounds: a is tighter than b
abbrev pub above : Bound → Bound → Bool
above a b = int_lt b.number a.number || (int_le b.number a.number && (not a.closed && b.closed))

-- the tighter of two upper bounds
abbrev pub lowest : Option Bound → Option Bound → Option Bound
lowest None b = b
lowest (Some a) None = Some a
lowest (Some a) (Some b) = cond (below a b) (Some a) (Some b)

-- the tighter of two lower bounds
abbrev pub highest : Option Bound → Option Bound → Option Bound
highest None b = b
highest (Some a) None = Some a
highest (Some a) (Some b) = cond (above a b) (Some a) (Some b)

-- the tighter of two bounds, of which each may be none, by what `Tighter` answers of two that are there
abbrev pub Tightest : (Bound → Bound → Bool → Type 0) → Option Bound → Option Bound → Option Bound → Type 0
Tightest Tighter None b r = r ≡ b
Tightest Tighter (Some a) None r = r ≡ Some a
Tightest Tighter (Some a) (Some b) r = (q : Bool) × Tighter a b q × (r ≡ cond q (Some a) (Some b))
