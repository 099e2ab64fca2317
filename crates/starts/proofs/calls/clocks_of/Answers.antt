use Rattle.std.proofs.Common.{◌≡◌, ℕ, zero, suc, ◌+◌, ◌<◌, ◌≤◌, false, cond, List, get_or, ◌∙◌, subst, ⊎_elim, arith, rules}
use denote.Param.Members.{Mut, Called}
use Rattle.std.specs.Array.{IsFromFnResultFrom}
use Rattle.std.proofs.lemmas.Bool.{cases_eq}
use Rattle.starts.proofs.Listed.{listed}
use Rattle.starts.proofs.calls.clocks_of.Goals as goal

made : {F : Type 0} (g : Mut F (ℕ × Unit {0}) ℕ) (v : ℕ → ℕ) (f : F) → ((i y : ℕ) (q : F) → Called g f (i, tt) y q → (q ≡ f) × (y ≡ v i)) → (ys : List ℕ) (n i : ℕ) → IsFromFnResultFrom g f ys i n → (k : ℕ) → i ≤ k → k < i + n → get_or ys k 0 ≡ v k
made g v f h ys zero i c k a b = absurd (omega arith)
made g v f h ys (suc n) i c k a b =
    let w = h i c.1 c.0 c.3 in
    ⊎_elim {C = get_or ys k 0 ≡ v k}
    (λ e. subst (λ j. get_or ys j 0 ≡ v j) e (c.2.1 0 ∙ w.1))
    (λ d. made g v f h ys n (i + 1) (subst (λ x. IsFromFnResultFrom g x ys (i + 1) n) w.0 c.4) k (omega arith) (omega arith))
    (cases_eq i k)

pub returns : goal.returns
returns c = listed c.args.resets.now c.from_fn.result c.from_fn.ensures.items.long
    (λ i h. made _ (λ k. cond (get_or c.args.resets.now k false) (k + 1) 0) _ (λ j y q k. search rules) c.from_fn.result 8 0 c.from_fn.ensures.items.each i (omega arith) h)
