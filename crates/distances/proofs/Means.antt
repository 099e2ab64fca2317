-- What a search does, told by routes
use Rattle.std.proofs.Common.{ℕ, List, Result, sym, subst}
use mathlib.Core.Logic.{∥∥₁_elim, ∥∥₁_map, ∥∥₁_prop}
use Rattle.bounds.specs.declared.refusal.Refusal.{Refusal}
use Rattle.plans.specs.Meaning.{PlanMeaning, WellFormed}
use Rattle.entries.specs.declared.entry.Entry.{Entry}
use Rattle.rounds.specs.declared.replies.Phase.{Phase}
use Rattle.rounds.specs.declared.replies.Answer.{Answer}
use Rattle.rounds.specs.Stands.{Stands}
use Rattle.rounds.specs.Searches.{Search, Replied}
use Rattle.rounds.specs.Searches.Call.{widen, ask}
use Rattle.rounds.proofs.Laws.{laws}
use Rattle.rounds.proofs.Kept.{round_kept}
use Rattle.rounds.proofs.Told.{answers_say}
use Rattle.rounds.proofs.Runs.{step_fine}
use Rattle.distances.specs.Searching.{view, WidenSays, WidenMeans, AskSays, AskMeans}

module _ (M : PlanMeaning) (formed : WellFormed M) (n : ℕ) where
  pub widen_means : (need : Entry → ℕ) (ph : Phase) (es : List Entry) (m f : ℕ) (r : Result ℕ Refusal) (ph' : Phase) (fs : List Entry) (k f' : ℕ) → WidenSays M n need ph es m f r ph' fs k f' → WidenMeans M n need ph es f ph' fs f'
  widen_means need ph es m f r ph' fs k f' s fit small need' a st =
      ∥∥₁_elim st ∥∥₁_prop (λ w. ∥∥₁_map formed.lawful (λ K.
      subst (λ (x : Search). Stands M x.entries x.rounds x.phase) (sym (s fit small need' a).0.next)
      (step_fine M need' (round_kept M (laws M K formed) need') (answers_say M need') (view ph es m f) w widen).stands))

  pub ask_means : (ph : Phase) (es : List Entry) (m f D p : ℕ) (rs : List ℕ) (r : Result Answer Refusal) → AskSays M n ph es m f D p rs r → AskMeans M n ph es m f D p rs r
  ask_means ph es m f D p rs r s fit st need' =
      ∥∥₁_elim st ∥∥₁_prop (λ w. ∥∥₁_map formed.lawful (λ K.
      subst (Replied M need' (view ph es m f) f (ask D p rs)) (sym (s fit need'))
      (step_fine M need' (round_kept M (laws M K formed) need') (answers_say M need') (view ph es m f) w (ask D p rs)).lawful))
