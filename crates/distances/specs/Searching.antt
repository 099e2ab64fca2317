-- A Search over a plan and a store, by what it was and what it is then.
use Rattle.std.specs.Prelude.{◌≡◌, ℕ, ◌<◌, Bool, List, length, Ok, Err, Result, ◌==◌, ◌≢◌}
use Rattle.bounds.specs.declared.refusal.Refusal.{Refusal}
use Rattle.plans.specs.Meaning.{PlanMeaning}
use Rattle.entries.specs.declared.entry.Entry.{Entry}
use Rattle.rounds.specs.declared.replies.Phase.{Phase}
use Rattle.rounds.specs.declared.replies.Phase.TheVariants.{Unfit}
use Rattle.rounds.specs.declared.replies.Answer.{Answer}
use Rattle.rounds.specs.Rounds.{Entry as Row, round}
use Rattle.rounds.specs.Searches.{Search, Reply, Step, step, ended, set_up, askable, asked, Replied}
use Rattle.rounds.specs.Stands.{Stands}
use Rattle.rounds.specs.Searches.Call.{widen, ask}
use Rattle.rounds.specs.Searches.Reply.{widened, told, refused}
use Rattle.distances.specs.Rows.{rows}
use Rattle.distances.specs.Turns.{Ready, Agrees}

-- the Search as the state machine has it
abbrev pub view : Phase → List Entry → ℕ → ℕ → Search
view ph es m f = record { phase = ph; entries = rows es; room = m; rounds = f }

abbrev pub widen_reply : Result ℕ Refusal → Reply
widen_reply (Ok k) = widened k
widen_reply (Err e) = refused e

abbrev pub ask_reply : Result Answer Refusal → Reply
ask_reply (Ok a) = told a
ask_reply (Err e) = refused e

-- unless it is unfit, its store is for the plan's clocks and holds entries of the plan
abbrev pub Fit : PlanMeaning → ℕ → Phase → List Entry → Type 0
Fit M n ph es = (ph ≢ Unfit) → Ready M n es

-- a reply and what the Search is then are those of a step
pub record Stepped (t : Step) (r : Reply) (s : Search) : Type 0 where
  pub reply : r ≡ t.reply
  pub next : s ≡ t.next

-- an open Search does its round
abbrev pub AdvanceSays : PlanMeaning → ℕ → (Entry → ℕ) → List Entry → ℕ → ℕ → Result ℕ Refusal → Phase → List Entry → ℕ → ℕ → Type 0
AdvanceSays M n need es m f r ph' fs k f' = Ready M n es → f < 18446744073709551615 → (need' : Row → ℕ) → Agrees need' need
    → Stepped (ended f (length (rows es)) (round M need' f (rows es) m)) (widen_reply r) (view ph' fs k f') × Ready M n fs

abbrev pub WidenSays : PlanMeaning → ℕ → (Entry → ℕ) → Phase → List Entry → ℕ → ℕ → Result ℕ Refusal → Phase → List Entry → ℕ → ℕ → Type 0
WidenSays M n need ph es m f r ph' fs k f' = Fit M n ph es → f < 18446744073709551615 → (need' : Row → ℕ) → Agrees need' need
    → Stepped (step M need' (view ph es m f) widen) (widen_reply r) (view ph' fs k f') × Fit M n ph' fs

-- a Search newly set up
pub record NewSays (M : PlanMeaning) (n : ℕ) (es : List Entry) (m : ℕ) (ph : Phase) (f : ℕ) : Type 0 where
  pub is : view ph es m f ≡ set_up (n == M.clocks) (rows es) m
  pub fit : Fit M n ph es
  pub stands : Stands M (rows es) 0 ph

-- whether a state is one of the plan that is taken
abbrev pub AskableTells : PlanMeaning → ℕ → ℕ → List ℕ → Bool → Type 0
AskableTells M D p rs r = r ≡ askable M D p rs

-- the answer for a state
abbrev pub AskSays : PlanMeaning → ℕ → Phase → List Entry → ℕ → ℕ → ℕ → ℕ → List ℕ → Result Answer Refusal → Type 0
AskSays M n ph es m f D p rs r = Fit M n ph es → (need' : Row → ℕ) → ask_reply r ≡ (step M need' (view ph es m f) (ask D p rs)).reply

-- of a Search that is not unfit
abbrev pub TellSays : PlanMeaning → ℕ → Phase → List Entry → ℕ → ℕ → ℕ → ℕ → List ℕ → Result Answer Refusal → Type 0
TellSays M n ph es m f D p rs r = Ready M n es → ask_reply r ≡ asked M (view ph es m f) D p rs

-- what stands before a widen stands after it
abbrev pub WidenMeans : PlanMeaning → ℕ → (Entry → ℕ) → Phase → List Entry → ℕ → Phase → List Entry → ℕ → Type 0
WidenMeans M n need ph es f ph' fs f' = Fit M n ph es → f < 18446744073709551615 → (need' : Row → ℕ) → Agrees need' need → ∥ Stands M (rows es) f ph ∥₁ → ∥ Stands M (rows fs) f' ph' ∥₁

-- and then an answer says of routes what it should, and a refusal comes only where it should
abbrev pub AskMeans : PlanMeaning → ℕ → Phase → List Entry → ℕ → ℕ → ℕ → ℕ → List ℕ → Result Answer Refusal → Type 0
AskMeans M n ph es m f D p rs r = Fit M n ph es → ∥ Stands M (rows es) f ph ∥₁ → (need' : Row → ℕ) → ∥ Replied M need' (view ph es m f) f (ask D p rs) (ask_reply r) ∥₁
