-- The parts of a text between marks, as lines between line ends, fields between tabs and items between commas.
use Rattle.std.specs.Prelude.{◌≡◌, ℕ, suc, ◌+◌, ◌-◌, ◌^◌, ◌<◌, min, cond, List, [], ◌∷◌, length, Some, None, Option, ◌==◌}
use Rattle.byte_text.specs.declared.parts.Part.{Part}
use Rattle.byte_text.specs.declared.parts.Parts.{Parts}

-- how many bytes stand before the first b, or all
abbrev pub up_to : ℕ → List ℕ → ℕ
up_to b [] = 0
up_to b (x ∷ xs) = cond (x == b) 0 (suc (up_to b xs))

-- a part of a text: its bytes and where it begins
pub record Place : Type 0 where
  pub bytes : List ℕ
  pub at : ℕ

abbrev pub place : Part → Place
place p = record { bytes = p.bytes.now; at = p.at }

abbrev pub placed : Option Part → Option Place
placed (Some p) = Some (place p)
placed None = None

-- x before the first place, which begins at `at` now
abbrev pub onto : ℕ → ℕ → List Place → List Place
onto x at [] = record { bytes = x ∷ []; at = at } ∷ []
onto x at (p ∷ ps) = record { bytes = x ∷ p.bytes; at = at } ∷ ps

-- the parts of bs between the bytes b, where bs begins at `at`
abbrev pub parted : ℕ → ℕ → List ℕ → List Place
parted b at [] = record { bytes = []; at = at } ∷ []
parted b at (x ∷ xs) = cond (x == b) (record { bytes = []; at = at } ∷ parted b (at + 1) xs) (onto x at (parted b (at + 1) xs))

-- the place, or the last from which the bytes bs can be numbered
abbrev pub within : ℕ → List ℕ → ℕ
within at bs = min at (2 ^ 64 - 1 - length bs)

-- the parts of what is left, if anything is
abbrev pub parts_left : ℕ → Option Part → List Place
parts_left b None = []
parts_left b (Some p) = parted b p.at p.bytes.now

-- the parts that a walk has yet to give
abbrev pub ahead : Parts → List Place
ahead p = parts_left p.mark p.rest

abbrev pub head_place : List Place → Option Place
head_place [] = None
head_place (p ∷ ps) = Some p

abbrev pub tail_places : List Place → List Place
tail_places [] = []
tail_places (p ∷ ps) = ps

-- a part ends where places can be numbered
abbrev pub Low : Option Part → Type 0
Low (Some p) = p.at + length p.bytes.now < 2 ^ 64
Low None = Unit {0}

-- what a walk gives: the first part of those ahead, or none where none is, and what is ahead after it
pub record Gives (before : Parts) (given : Option Part) (after : Parts) : Type 0 where
  pub first : placed given ≡ head_place (ahead before)
  pub rest : ahead after ≡ tail_places (ahead before)
  pub low : Low given
