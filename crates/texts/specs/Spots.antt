-- The line and the field of a spot, where it has them, and what is printed for it.
use Rattle.std.specs.Prelude.{ℕ, List, ◌++◌, Some, None, Option, codes, decimal}
use Rattle.texts.specs.declared.spot.Spot.{Spot}
use Rattle.texts.specs.declared.spot.Spot.TheVariants.{Text, Line, Field}

abbrev pub spot_line : Spot → Option ℕ
spot_line Text = None
spot_line (Line n) = Some n
spot_line (Field n k) = Some n

abbrev pub spot_field : Spot → Option ℕ
spot_field Text = None
spot_field (Line n) = None
spot_field (Field n k) = Some k

abbrev pub spot_text : Spot → List ℕ
spot_text Text = codes "the text"
spot_text (Line n) = codes "line " ++ decimal n
spot_text (Field n k) = codes "line " ++ decimal n ++ codes ", field " ++ decimal k
