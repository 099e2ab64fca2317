-- What stands is kept by a round.
use Rattle.std.proofs.Common.{◌≡◌, ℕ, zero, suc, ◌+◌, ◌<◌, eqb, List, length, sym, ap, subst, arith}
use native.Mathlib.Decide.{dec_lt}
use Rattle.std.proofs.lemmas.Bool.{cond_both, eqb-true}
use Rattle.plans.specs.Meaning.{PlanMeaning, outcome_at, goal_at}
use Rattle.rounds.specs.Rounds.{Entry, entry_at, move_of, Turn, round}
use Rattle.rounds.specs.Rounds.Turn.{done, full, range}
use Rattle.rounds.specs.Stands.{Good, AllBased, AllStepped, Founded, Below, Stands}
use Rattle.rounds.specs.declared.replies.Phase.TheVariants.{Open, Closed}
use Rattle.rounds.specs.Searches.{phase_after}
use Rattle.rounds.specs.Theorems.{Rounded, RoundKept}
use Rattle.rounds.proofs.Laws.{Laws}
use Rattle.rounds.proofs.Entries.{Grown, covers_mono}
use Rattle.rounds.proofs.Turns.{Leaves, Reached, round_leaves}

module _ (M : PlanMeaning) where
  stepped_mono : (f : ℕ) (e : Entry) (n : ℕ) (fs gs : List Entry) → Grown f fs gs → AllStepped M e n fs → AllStepped M e n gs
  stepped_mono f e n fs gs g a j h D v w s c st x i = covers_mono f fs gs n D (move_of M (outcome_at M j)).source v g (a j h D v w s c st x i)

  based_mono : (f : ℕ) (fs gs : List Entry) → Grown f fs gs → AllBased M fs → AllBased M gs
  based_mono f fs gs g a j h D v w s st b = covers_mono f fs gs 0 D (goal_at M j).position v g (a j h D v w s st b)

  -- an entry of before has its crossings covered still
  old_stepped : (f : ℕ) (es fs : List Entry) → Grown f es fs → (k : ℕ) → k < length es → AllStepped M (entry_at es k) ((entry_at es k).round + 1) fs → AllStepped M (entry_at fs k) ((entry_at fs k).round + 1) fs
  old_stepped f es fs g k h a = subst (λ (x : Entry). AllStepped M x (x.round + 1) fs) (sym (g.begins k h).1) a

  -- what a round reaches, in one form for every f
  Forward : ℕ → List Entry → List Entry → Type 0
  Forward f es fs = AllBased M fs × ((k : ℕ) → k < length es → (entry_at es k).round + 1 ≡ f → AllStepped M (entry_at es k) f fs)

  forward : (f : ℕ) (es fs : List Entry) → Founded M es f → Below es f → Grown f es fs → Reached M f es fs → Forward f es fs
  unfolding Reached Forward
  forward zero es fs w b g r = (r, λ k h q. absurd (let z = b k h in omega arith))
  forward (suc n) es fs w b g r = (based_mono (suc n) es fs g (w.based (omega arith)), λ k h q. r k h (omega arith))

  next_sound : (f : ℕ) (es fs : List Entry) → Founded M es f → Below es f → Good M fs f → Grown f es fs → Forward f es fs → Founded M fs (f + 1)
  unfolding Forward
  next_sound f es fs w b good g r = record {
    good = record { fits = good.fits; real = good.real; ordered = good.ordered; at_most = λ k h. omega (arith, good.at_most k h) };
    based = λ _. r.0;
    stepped = λ k h l. elim (dec_lt k (length es)) [
      | yes y ↦ old_stepped f es fs g k y (
          elim (dec_lt ((entry_at es k).round + 1) f) [
            | yes z ↦ stepped_mono f (entry_at es k) ((entry_at es k).round + 1) es fs g (w.stepped k y z)
            | no z ↦ (let q : (entry_at es k).round + 1 ≡ f = omega (arith, z, b k y) in
                subst (λ n. AllStepped M (entry_at es k) n fs) (sym q) (r.1 k y q))
          ])
      | no n ↦ absurd (let q = g.fresh k (omega (arith, n)) h in omega arith)
    ];
  }

  stop_sound : (f : ℕ) (es fs : List Entry) → Founded M es f → Good M fs f → Grown f es fs → Founded M fs f
  stop_sound f es fs w good g = record {
    good = good;
    based = λ z. based_mono f es fs g (w.based z);
    stepped = λ k h l. elim (dec_lt k (length es)) [
      | yes y ↦ old_stepped f es fs g k y (stepped_mono f (entry_at es k) ((entry_at es k).round + 1) es fs g
          (w.stepped k y (subst (λ (x : Entry). x.round + 1 < f) (g.begins k y).1 l)))
      | no n ↦ absurd (let q = g.fresh k (omega (arith, n)) h in omega arith)
    ];
  }

  done_stands : (f : ℕ) (es fs : List Entry) → Stands M es f Open → Good M fs f → Grown f es fs → Reached M f es fs → Stands M fs (f + 1) (phase_after (length es) (length fs))
  done_stands f es fs w good g r =
      let s : Founded M fs (f + 1) = next_sound f es fs w.0 w.1 good g (forward f es fs w.0 w.1 g r) in
      let b : Below fs (f + 1) = λ k h. omega (arith, good.at_most k h) in
      cond_both (eqb (length fs) (length es)) Closed Open (Stands M fs (f + 1))
      (λ e. let q : length fs ≡ length es = eqb-true (length fs) (length es) e in (
        s,
        b,
        λ k h. s.stepped k h (let y : k < length es = omega arith in
            let z : (entry_at fs k).round ≡ (entry_at es k).round = ap (λ (x : Entry). x.round) (g.begins k y).1 in omega (arith, w.1 k y)),
        omega arith,
      ))
      (λ _. (s, b))

  pub leaves_rounded : (f : ℕ) (es : List Entry) → Stands M es f Open → (t : Turn) → Leaves M f es (Reached M f es) t → Rounded M f (length es) t
  leaves_rounded f es w (done fs room) l = done_stands f es fs w l.0 l.1 l.2
  leaves_rounded f es w (full fs room) l = stop_sound f es fs w.0 l.0 l.1
  leaves_rounded f es w (range fs room) l = stop_sound f es fs w.0 l.0 l.1

  pub round_kept : Laws M → (need : Entry → ℕ) → RoundKept M need
  round_kept L need es room f w = leaves_rounded f es w (round M need f es room) (round_leaves M L need f es room w.0.good)
