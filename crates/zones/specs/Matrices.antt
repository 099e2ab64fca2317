-- Zones as matrices: from two clocks i and j to the upper bound on reading i minus reading j.
use Rattle.std.specs.Prelude.{◌≡◌, ℕ, zero, suc, ◌<◌, Bool, cond, ℤ, pos, ◌+ℤ◌, ◌-ℤ◌, ◌*ℤ◌, ◌≤ℤ◌, ◌==◌, int_le}
use Rattle.bounds.specs.Bounds.{UpperBound, none, upto, plus, level, Meets, Tight, bit}

-- the tighter of two
unfoldable pub tighter : UpperBound → UpperBound → UpperBound
tighter none b = b
tighter (upto s a) none = upto s a
tighter (upto s a) (upto t b) = cond (int_le ((a +ℤ a) +ℤ pos (bit s)) ((b +ℤ b) +ℤ pos (bit t))) (upto s a) (upto t b)

-- what a zone keeps: `<= 0` on the diagonal, nothing looser than `<= 0` at (0, j), and no way round is tighter
pub record Canon (Z : ℕ → ℕ → UpperBound) : Type 0 where
  pub diagonal : (i : ℕ) → i < 9 → Z i i ≡ level
  pub front : (j : ℕ) → j < 9 → Tight (Z 0 j) level
  pub around : (i j k : ℕ) → i < 9 → j < 9 → k < 9 → Tight (Z i j) (plus (Z i k) (Z k j))

-- the readings v at the scale D meet every bound
abbrev pub Holds : (ℕ → ℕ → UpperBound) → ℕ → (ℕ → ℤ) → Type 0
Holds Z D v = (i j : ℕ) → i < 9 → j < 9 → Meets D (v i -ℤ v j) (Z i j)

-- the zone of every state: `<= 0` at (0, j) and at (i, i), and none elsewhere
abbrev pub all_at : ℕ → ℕ → UpperBound
all_at i j = cond (i == 0) level (cond (i == j) level none)

-- Z cut at (i, j) by c
abbrev pub cut_at : (ℕ → ℕ → UpperBound) → ℕ → ℕ → UpperBound → ℕ → ℕ → UpperBound
cut_at Z i j c a b = tighter (Z a b) (plus (plus (Z a i) c) (Z j b))

-- the tightest of `<= 0` and the bounds at (1, j) to (n, j)
abbrev pub front_of : (ℕ → ℕ → UpperBound) → ℕ → ℕ → UpperBound
front_of Z zero j = level
front_of Z (suc n) j = tighter (front_of Z n j) (Z (suc n) j)

-- Z taken back
abbrev pub back_at : (ℕ → ℕ → UpperBound) → ℕ → ℕ → UpperBound
back_at Z zero j = front_of Z 8 j
back_at Z (suc i) j = Z (suc i) j

-- the readings after a wait of w, written at m times the scale
abbrev pub later : ℕ → ℤ → (ℕ → ℤ) → ℕ → ℤ
later m w v zero = pos 0
later m w v (suc k) = (v (suc k) *ℤ pos m) +ℤ w

-- a clock that is set to 0 reads as clock 0 does
abbrev pub zeroed : (ℕ → Bool) → ℕ → ℕ
zeroed r i = cond (r i) 0 i

-- Z with the clocks in r let go, but for 0 or more; Z has them at 0
abbrev pub free_at : (ℕ → Bool) → (ℕ → ℕ → UpperBound) → ℕ → ℕ → UpperBound
free_at r Z i j = cond (i == j) level (cond (r i) none (Z i (zeroed r j)))

-- Z with each of the clocks below n that are in r cut to 0
unfoldable pub zero_all : (ℕ → Bool) → (ℕ → ℕ → UpperBound) → ℕ → ℕ → ℕ → UpperBound
zero_all r Z zero a b = Z a b
zero_all r Z (suc n) a b = cond (r n) (cut_at (zero_all r Z n) n 0 level a b) (zero_all r Z n a b)

-- Z with the clocks in r set back: they are 0, and before that anything from 0 up
abbrev pub undo_at : (ℕ → Bool) → (ℕ → ℕ → UpperBound) → ℕ → ℕ → UpperBound
undo_at r Z = free_at r (zero_all r Z 9)

-- readings as a state has them: clock 0 reads 0, and no other reads less
abbrev pub Readings : (ℕ → ℤ) → Type 0
Readings v = (v 0 ≡ pos 0) × ((k : ℕ) → k < 9 → pos 0 ≤ℤ v k)
