-- Every layer over a well formed meaning is well formed.
use Rattle.std.specs.Prelude.{◌≡◌, ℕ, zero, suc, ◌+◌, ◌<◌, ◌≤◌, Bool, true, false, cond, ◌≢◌, ◌⊎◌, List, [], ◌∷◌, length, get_or, Some, None, Option, nat_lt, slice_index_or, refl}
use Rattle.std.proofs.Common.{sym, ap, subst, ◌∙◌, inl, inr, arith, ltb-true, length-set, get_or-set_same, get_or-set_other}
use Rattle.std.proofs.Math.Logic.{∥∥₁_elim}
use mathlib.Core.HLevel.{Π_prop, ×_prop, →_prop}
use Rattle.std.proofs.Math.Decide.{dec_lt}
use Rattle.std.proofs.lemmas.Int.{ints}
use Rattle.std.proofs.lemmas.List.{get_or-map, get_or_past, length-map}
use Rattle.bounds.specs.declared.bound.Bound.{Bound}
use Rattle.zones.specs.declared.boxes.Side.{Side}
use Rattle.zones.specs.declared.boxes.ClockBox.{ClockBox}
use Rattle.plans.specs.declared.rows.Goal.{Goal}
use Rattle.plans.specs.Boxes.{blank, side, InRange, BoxOf}
use Rattle.zones.specs.Boxes.{no_side}
use Rattle.plans.specs.Sound.{in_range_prop}
use Rattle.plans.specs.Meaning.{PlanMeaning, WellFormed, no_goal, no_box, no_position, position_at, move_at, outcome_at, goal_at}
use Rattle.plans.specs.Items.{Names}
use Rattle.layers.specs.Narrowing.{below, above, lowest, highest, both, narrow_sides, narrow_box}
use Rattle.layers.specs.Restrictions.{narrowed, restricted}
use Rattle.plans.specs.declared.rows.Position.{Position}
use Rattle.layers.specs.Deadlines.{by_then, timed_box, timed, deadlined, under}

-- ---- deadlines
pub same_or_not : (i n : ℕ) → (i ≡ n) ⊎ (i ≢ n)
same_or_not i n = elim (dec_lt i n) [
  | yes y ↦ inr (λ e. omega arith)
  | no a ↦ elim (dec_lt n i) [ yes y ↦ inr (λ e. omega arith) | no b ↦ inl (omega (arith, a, b)) ]
]

wider_box : (n : ℕ) (b : ClockBox) → BoxOf n b → BoxOf (n + 1) b
wider_box n b ok = record { eight = ok.eight; free = λ i h. ok.free i (omega arith); low = ok.low; high = ok.high }

timed_box_of : (T n : ℕ) (b : ClockBox) → T ≤ 1000000 → n < 8 → BoxOf n b → BoxOf (n + 1) (timed_box T n b)
timed_box_of T n b t≤ n< ok =
    let here : side (timed_box T n b) n ≡ by_then T = get_or-set_same b.sides n (by_then T) no_side (omega (arith, ok.eight)) in
    let else_where : (i : ℕ) → i ≢ n → side (timed_box T n b) i ≡ side b i = λ i h. get_or-set_other b.sides n i (by_then T) no_side h in
    record {
      eight = length-set b.sides n (by_then T) ∙ ok.eight;
      free = λ i h. subst (λ s. blank s ≡ true) (sym (else_where i (λ e. omega arith))) (ok.free i (omega arith));
      low = λ i h. elim (same_or_not i n) [
        | inl e ↦ subst (λ (s : Side). InRange s.lower) (sym (ap (side (timed_box T n b)) e ∙ here)) tt
        | inr ne ↦ subst (λ (s : Side). InRange s.lower) (sym (else_where i ne)) (ok.low i h)
      ];
      high = λ i h. elim (same_or_not i n) [
        | inl e ↦ subst (λ (s : Side). InRange s.upper) (sym (ap (side (timed_box T n b)) e ∙ here)) (omega (arith, ints), omega (arith, ints))
        | inr ne ↦ subst (λ (s : Side). InRange s.upper) (sym (else_where i ne)) (ok.high i h)
      ];
    }

pub deadlined_sound : (T : ℕ) (m : PlanMeaning) → T ≤ 1000000 → m.clocks < 8 → WellFormed m → WellFormed (deadlined T m)
deadlined_sound T m t≤ n< w = record {
  lawful = w.lawful;
  some_clock = omega (arith, w.some_clock);
  few_clocks = omega arith;
  some_position = w.some_position;
  few_positions = w.few_positions;
  few_moves = w.few_moves;
  few_outcomes = w.few_outcomes;
  few_goals = simp length-map w.few_goals;
  positions = λ k h. wider_box m.clocks (position_at m k).invariant (w.positions k h);
  moves = λ k h. ((w.moves k h).0, wider_box m.clocks (move_at m k).guard (w.moves k h).1);
  outcomes = λ k h. let o = w.outcomes k h in
      record { cause = o.cause; chance = o.chance; target = o.target; resets = λ i a. o.resets i (omega arith) };
  goals = λ k h.
      let h' : k < length m.goals = omega (arith, length-map m.goals (timed T m.clocks)) in
      subst (λ (g : Goal). Names (length m.positions) g.position × BoxOf (m.clocks + 1) g.area)
      (sym (get_or-map (timed T m.clocks) m.goals k no_goal no_goal h'))
      ((w.goals k h').0, timed_box_of T m.clocks (goal_at m k).area t≤ n< (w.goals k h').1);
  sums = w.sums;
}

pub under_sound : (T : ℕ) (m : PlanMeaning) → T ≤ 1000000 → WellFormed m → WellFormed (under T m)
under_sound T m t≤ w = go (nat_lt m.clocks 8) refl
  where
    go : (b : Bool) → nat_lt m.clocks 8 ≡ b → WellFormed (cond b (deadlined T m) m)
    go true e = deadlined_sound T m t≤ (ltb-true m.clocks 8 e) w
    go false e = w

-- ---- restrictions
-- the numbers of every box are in range
abbrev pub Fine : List ClockBox → Type 0
Fine bs = (k : ℕ) → k < length bs → (i : ℕ) → i < 8 → InRange (side (slice_index_or bs k no_box) i).lower × InRange (side (slice_index_or bs k no_box) i).upper

pub fine : (bs : List ClockBox) → ∥ Fine bs ∥₁ → Fine bs
fine bs h = ∥∥₁_elim h (Π_prop (λ k. →_prop (Π_prop (λ i. →_prop (×_prop (in_range_prop _) (in_range_prop _)))))) (λ f. f)

lowest_in : (a b : Option Bound) → InRange a → InRange b → InRange (lowest a b)
lowest_in None b h k = k
lowest_in (Some a) None h k = h
lowest_in (Some a) (Some b) h k = elim (below a b) as (λ q. InRange (cond q (Some a) (Some b))) [ true ↦ h | false ↦ k ]

highest_in : (a b : Option Bound) → InRange a → InRange b → InRange (highest a b)
highest_in None b h k = k
highest_in (Some a) None h k = h
highest_in (Some a) (Some b) h k = elim (above a b) as (λ q. InRange (cond q (Some a) (Some b))) [ true ↦ h | false ↦ k ]

pub length_narrow : (n : ℕ) (bs ss : List Side) → length (narrow_sides n bs ss) ≡ length ss
length_narrow n [] ss = refl
length_narrow n (b ∷ bs) [] = refl
length_narrow zero (b ∷ bs) (s ∷ ss) = refl
length_narrow (suc n) (b ∷ bs) (s ∷ ss) = ap suc (length_narrow n bs ss)

pub length_narrowed : (n : ℕ) (bs : List ClockBox) (ps : List Position) → length (narrowed n bs ps) ≡ length ps
length_narrowed n [] ps = refl
length_narrowed n (b ∷ bs) [] = refl
length_narrowed n (b ∷ bs) (p ∷ ps) = ap suc (length_narrowed n bs ps)

pub narrow_at : (n : ℕ) (bs ss : List Side) (i : ℕ) → i < n → i < length ss → slice_index_or (narrow_sides n bs ss) i no_side ≡ both (slice_index_or bs i no_side) (slice_index_or ss i no_side)
narrow_at n [] ss i h l = refl
narrow_at n (b ∷ bs) [] i h l = absurd (omega arith)
narrow_at zero (b ∷ bs) (s ∷ ss) i h l = absurd (omega arith)
narrow_at (suc n) (b ∷ bs) (s ∷ ss) zero h l = refl
narrow_at (suc n) (b ∷ bs) (s ∷ ss) (suc i) h l = narrow_at n bs ss i (omega arith) (omega arith)

pub narrow_past : (n : ℕ) (bs ss : List Side) (i : ℕ) → n ≤ i → slice_index_or (narrow_sides n bs ss) i no_side ≡ slice_index_or ss i no_side
narrow_past n [] ss i h = refl
narrow_past n (b ∷ bs) [] i h = refl
narrow_past zero (b ∷ bs) (s ∷ ss) i h = refl
narrow_past (suc n) (b ∷ bs) (s ∷ ss) zero h = absurd (omega arith)
narrow_past (suc n) (b ∷ bs) (s ∷ ss) (suc i) h = narrow_past n bs ss i (omega arith)

narrow_none : (n : ℕ) (bs : List Side) → narrow_sides n bs [] ≡ []
narrow_none n [] = refl
narrow_none n (b ∷ bs) = refl

pub narrowed_at : (n : ℕ) (bs : List ClockBox) (ps : List Position) (i : ℕ) → (get_or (narrowed n bs ps) i no_position).invariant ≡ narrow_box n (slice_index_or bs i no_box) (get_or ps i no_position).invariant
narrowed_at n [] ps i = refl
narrowed_at n (b ∷ bs) [] i = ap {B = ClockBox} (λ ss. record { sides = ss }) (sym (narrow_none n (get_or (b ∷ bs) i no_box).sides))
narrowed_at n (b ∷ bs) (p ∷ ps) zero = refl
narrowed_at n (b ∷ bs) (p ∷ ps) (suc i) = narrowed_at n bs ps i

narrow_of : (n : ℕ) (b c : ClockBox) → ((i : ℕ) → i < 8 → InRange (side b i).lower × InRange (side b i).upper) → BoxOf n c → BoxOf n (narrow_box n b c)
narrow_of n b c f ok = record {
  eight = length_narrow n b.sides c.sides ∙ ok.eight;
  free = λ i h. subst (λ s. blank s ≡ true) (sym (narrow_past n b.sides c.sides i h)) (ok.free i h);
  low = λ i h. elim (dec_lt i n) [
    | yes y ↦ subst (λ (s : Side). InRange s.lower) (sym (narrow_at n b.sides c.sides i y (omega (arith, ok.eight)))) (highest_in (side b i).lower (side c i).lower (f i h).0 (ok.low i h))
    | no z ↦ subst (λ (s : Side). InRange s.lower) (sym (narrow_past n b.sides c.sides i (omega (arith, z)))) (ok.low i h)
  ];
  high = λ i h. elim (dec_lt i n) [
    | yes y ↦ subst (λ (s : Side). InRange s.upper) (sym (narrow_at n b.sides c.sides i y (omega (arith, ok.eight)))) (lowest_in (side b i).upper (side c i).upper (f i h).1 (ok.high i h))
    | no z ↦ subst (λ (s : Side). InRange s.upper) (sym (narrow_past n b.sides c.sides i (omega (arith, z)))) (ok.high i h)
  ];
}

-- a box that is not there asks nothing
fine_at : (bs : List ClockBox) → Fine bs → (k i : ℕ) → i < 8 → InRange (side (slice_index_or bs k no_box) i).lower × InRange (side (slice_index_or bs k no_box) i).upper
fine_at bs f k i h = elim (dec_lt k (length bs)) [
  | yes y ↦ f k y i h
  | no z ↦ subst (λ b. InRange (side b i).lower × InRange (side b i).upper) (sym (get_or_past bs k no_box (omega (arith, z)))) (tt, tt)
]

pub restricted_sound : (bs : List ClockBox) (m : PlanMeaning) → Fine bs → WellFormed m → WellFormed (restricted bs m)
restricted_sound bs m f w =
    let same : length (narrowed m.clocks bs m.positions) ≡ length m.positions = length_narrowed m.clocks bs m.positions in
    record {
      lawful = w.lawful;
      some_clock = w.some_clock;
      few_clocks = w.few_clocks;
      some_position = omega (arith, same, w.some_position);
      few_positions = omega (arith, same, w.few_positions);
      few_moves = w.few_moves;
      few_outcomes = w.few_outcomes;
      few_goals = w.few_goals;
      positions = λ k h.
          subst (BoxOf m.clocks) (sym (narrowed_at m.clocks bs m.positions k))
          (narrow_of m.clocks (slice_index_or bs k no_box) (position_at m k).invariant (fine_at bs f k) (w.positions k (omega (arith, same))));
      moves = λ k h. (subst (λ n. Names n (move_at m k).source) (sym same) (w.moves k h).0, (w.moves k h).1);
      outcomes = λ k h. let o = w.outcomes k h in
          record { cause = o.cause; chance = o.chance; target = subst (λ n. Names n (outcome_at m k).target) (sym same) o.target; resets = o.resets };
      goals = λ k h. (subst (λ n. Names n (goal_at m k).position) (sym same) (w.goals k h).0, (w.goals k h).1);
      sums = w.sums;
    }
