-- One turn over the lines of a text.
use Rattle.std.proofs.Common.{◌≡◌, ℕ, ◌+◌, cond, List, [], ◌∷◌, Ok, Err, sym, ap, ◌∙◌, arith}
use Rattle.byte_text.specs.Parts.{Place}
use Rattle.texts.specs.declared.reading.Reading.{Reading}
use Rattle.texts.specs.Faults.{Fault}
use Rattle.texts.specs.Readers.{whole, torn, over, next_of, rest_of, is_empty}
use Rattle.texts.specs.States.{State, SameLists}
use Rattle.texts.specs.Lines.{step, stepped, torn_line, finished}
use Rattle.texts.specs.Texts.{Ending, run, after, stopped}

pub run_whole : (all : List Place) (p : Place) (s : State) (line n : ℕ) → whole n p ≡ next_of (line + 1) all → run all s line ≡ after (stepped s n p) s (λ t. run (rest_of all) t (line + 1))
unfolding run step
run_whole [] p s line n e = absurd (let z : ◌≡◌ {A = ℕ} 0 1 = cc in omega arith)
run_whole (q ∷ []) p s line n e = absurd (elim q.bytes as (λ bs. whole n p ≡ cond (is_empty bs) (over (line + 1) q) (torn (line + 1) q) → ⊥) [ [] ↦ λ e. let z : ◌≡◌ {A = ℕ} 0 1 = cc in omega arith | b ∷ bs ↦ λ e. let z : ◌≡◌ {A = ℕ} 0 1 = cc in omega arith ] e)
run_whole (q ∷ (r ∷ rs)) p s line n e = let is : q ≡ p = cc in let l : line + 1 ≡ n = cc in λ i. after (stepped s (l i) (is i)) s (λ t. run (r ∷ rs) t (line + 1))

pub run_torn : (all : List Place) (p : Place) (s : State) (line n : ℕ) → torn n p ≡ next_of (line + 1) all → run all s line ≡ stopped (torn_line s n p) s
unfolding run
run_torn [] p s line n e = absurd (let z : ◌≡◌ {A = ℕ} 0 1 = cc in omega arith)
run_torn (q ∷ []) p s line n e = elim q.bytes as (λ bs. torn n p ≡ cond (is_empty bs) (over (line + 1) q) (torn (line + 1) q) → cond (is_empty bs) (stopped (finished s (line + 1) q) s) (stopped (torn_line s (line + 1) q) s) ≡ stopped (torn_line s n p) s) [ [] ↦ λ e. absurd (let z : ◌≡◌ {A = ℕ} 0 1 = cc in omega arith) | b ∷ bs ↦ λ e. let is : q ≡ p = cc in let l : line + 1 ≡ n = cc in λ i. stopped (torn_line s (l i) (is i)) s ] e
run_torn (q ∷ (r ∷ rs)) p s line n e = absurd (let z : ◌≡◌ {A = ℕ} 0 1 = cc in omega arith)

pub run_over : (all : List Place) (p : Place) (s : State) (line n : ℕ) → over n p ≡ next_of (line + 1) all → run all s line ≡ stopped (finished s n p) s
unfolding run
run_over [] p s line n e = let is : record { bytes = []; at = 0 } ≡ p = cc in let l : line + 1 ≡ n = cc in λ i. stopped (finished s (l i) (is i)) s
run_over (q ∷ []) p s line n e = elim q.bytes as (λ bs. over n p ≡ cond (is_empty bs) (over (line + 1) q) (torn (line + 1) q) → cond (is_empty bs) (stopped (finished s (line + 1) q) s) (stopped (torn_line s (line + 1) q) s) ≡ stopped (finished s n p) s) [ [] ↦ λ e. let is : q ≡ p = cc in let l : line + 1 ≡ n = cc in λ i. stopped (finished s (l i) (is i)) s | b ∷ bs ↦ λ e. absurd (let z : ◌≡◌ {A = ℕ} 0 1 = cc in omega arith) ] e
run_over (q ∷ (r ∷ rs)) p s line n e = absurd (let z : ◌≡◌ {A = ℕ} 0 1 = cc in omega arith)

pub same_on : (a b c : Reading) → SameLists a b → SameLists b c → SameLists a c
same_on a b c h k = record {
  lists = h.lists ∙ k.lists;
  slices = record { positions = h.slices.positions ∙ k.slices.positions; moves = h.slices.moves ∙ k.slices.moves; outcomes = h.slices.outcomes ∙ k.slices.outcomes; goals = h.slices.goals ∙ k.slices.goals };
}

-- a turn that goes on
pub go_on : (all : List Place) (p : Place) (s t : State) (line n : ℕ) (end : Ending) → whole n p ≡ next_of (line + 1) all → Ok t ≡ stepped s n p → run all s line ≡ end → run (rest_of all) t (line + 1) ≡ end
go_on all p s t line n end w e r = ap (λ x. after x s (λ t. run (rest_of all) t (line + 1))) e ∙ (sym (run_whole all p s line n w) ∙ r)

-- a turn that is refused
pub stop_here : (all : List Place) (p : Place) (s : State) (f : Fault) (line n : ℕ) (end : Ending) → whole n p ≡ next_of (line + 1) all → Err f ≡ stepped s n p → run all s line ≡ end → stopped (Err f) s ≡ end
stop_here all p s f line n end w e r = ap (λ x. after x s (λ t. run (rest_of all) t (line + 1))) e ∙ (sym (run_whole all p s line n w) ∙ r)
