-- Codes that are given, and when a zone has them
use Rattle.std.proofs.Common.{◌≡◌, ℕ, ◌+◌, ◌*◌, ◌/◌, ◌%◌, ◌<◌, ◌≤◌, pos, negsuc, neg_ℤ, ◌≤ℤ◌, List, get_or, None, Some, Option, MatchOption, sym, ap, ◌∙◌, subst, ⊎_elim, arith}
use borrow.Author.Differences.{ints}
use Rattle.std.proofs.lemmas.Bool.{cases_lt}
use Rattle.bounds.specs.declared.bound.Bound.{Bound}
use Rattle.bounds.specs.Bounds.{upto, plus, Tight}
use Rattle.bounds.specs.Sums.{bound_of}
use Rattle.bounds.specs.Laws.{tight_refl}
use Rattle.zones.specs.declared.codes.Code.{Code}
use Rattle.zones.specs.Matrices.{Canon}
use Rattle.zones.specs.Codes.{Near, at, decode, code_of, code_plus}
use Rattle.zones.specs.Cuts.{FromTo, Far}
use Rattle.zones.specs.Given.{Given, NoZone, Direct}
use Rattle.zones.proofs.Decoding.{decode_below, decode_none, decode_tight, decode_plus, canon_same}
use Rattle.zones.proofs.Codings.{none_code, level_code, code_le}

-- equal bounds have equal codes
pub same_code : (a b : ℕ) → a ≤ 4294967295 → b ≤ 4294967295 → decode a ≡ decode b → a ≡ b
same_code a b ha hb e =
    let p = code_le a b ha (subst (Tight (decode a)) e (tight_refl (decode a))) in
    let q = code_le b a hb (subst (Tight (decode b)) (sym e) (tight_refl (decode b))) in
    omega arith

-- what `map_or` answers: the code of a bound within reach, or none's
pub given_is : (o : Option Bound) (r : Code) (N : Type 0) (P : Bound → Type 0) → FromTo (negsuc 3999999) (pos 4000000) (bound_of o) → (N → r.0 ≡ 4294967295)
    → ((b : Bound) → P b → (decode r.0 ≡ upto b.closed b.number) × ((neg_ℤ (pos 4000000) ≤ℤ b.number → b.number ≤ℤ pos 4000000 → Near 4000000 r.0)))
    → MatchOption o N P → Near 4000000 r.0 × (decode r.0 ≡ bound_of o)
given_is None r N P h n f m = let e = n m in ((λ l. absurd (omega arith), omega arith), ap decode e ∙ none_code)
given_is (Some b) r N P h n f m = ((f b m).1 h.0 h.1, (f b m).0)

-- a code that is near has no number that no zone has
pub near_not_far : (k : ℕ) → Near 4000000 k → Far (decode k) → ⊥
unfolding Far
near_not_far k n f = ⊎_elim {C = ⊥}
    (λ h. ⊎_elim {C = ⊥} (λ l. omega (arith, ints, n.0 h)) (λ l. omega (arith, ints, n.0 h)) (subst Far (decode_below k h) f))
    (λ h. subst Far (decode_none k h) f)
    (cases_lt k 4294967295)

module _ (xs : List Code) (near : (p : ℕ) → p < 81 → Near 4000000 (code_of xs p)) where
  at_code : (p : ℕ) → at xs (p / 9) (p % 9) ≡ decode (code_of xs p)
  at_code p = let e : 9 * (p / 9) + p % 9 ≡ p = omega arith in ap (λ n. decode (code_of xs n)) e

  sum : (i j k : ℕ) → i < 9 → j < 9 → k < 9 → decode (code_plus (code_of xs (9 * i + k)) (code_of xs (9 * k + j))) ≡ plus (at xs i k) (at xs k j)
  sum i j k hi hj hk = decode_plus 4000000 4000000 _ _ (omega arith) (near _ (omega arith)) (near _ (omega arith))

  pub canon_direct : Canon (at xs) → (p : ℕ) → p < 81 → Direct xs p
  canon_direct can p h =
      let hi : p / 9 < 9 = omega arith in
      let hj : p % 9 < 9 = omega arith in
      record {
        diagonal = λ e. same_code _ _ (near p h).1 (omega arith) (sym (at_code p) ∙ ap (at xs (p / 9)) (sym e) ∙ can.diagonal (p / 9) hi ∙ sym level_code);
        front = λ l.
            let z : p / 9 ≡ 0 = omega arith in
            code_le _ _ (near p h).1 (subst (λ t. Tight t (decode 33554433)) (ap (λ i. at xs i (p % 9)) (sym z) ∙ at_code p) (subst (Tight (at xs 0 (p % 9))) (sym level_code) (can.front (p % 9) hj)));
        around = λ k hk.
            code_le _ _ (near p h).1 (subst (Tight (decode (code_of xs p))) (sym (sum (p / 9) (p % 9) k hi hj hk)) (subst (λ t. Tight t (plus (at xs (p / 9) k) (at xs k (p % 9)))) (at_code p) (can.around (p / 9) (p % 9) k hi hj hk)));
      }

  pub direct_canon : ((p : ℕ) → p < 81 → Direct xs p) → Canon (at xs)
  direct_canon d = record {
    diagonal = λ i hi. ap decode ((d (9 * i + i) (omega arith)).diagonal (omega arith)) ∙ level_code;
    front = λ j hj. subst (Tight (at xs 0 j)) level_code (decode_tight _ _ ((d (9 * 0 + j) (omega arith)).front (omega arith)));
    around = λ i j k hi hj hk.
        let row : (9 * i + j) / 9 ≡ i = omega arith in
        let column : (9 * i + j) % 9 ≡ j = omega arith in
        subst (Tight (at xs i j)) (sum i j k hi hj hk)
        (decode_tight _ _ (subst (λ (a : ℕ). code_of xs (9 * i + j) ≤ a) ((λ t. code_plus (code_of xs (9 * row t + k)) (code_of xs (9 * k + column t)))) ((d (9 * i + j) (omega arith)).around k hk)));
  }

-- a zone has none of the bounds that are far
pub none_far : (bs : List (Option Bound)) (p : ℕ) → p < 81 → Far (bound_of (get_or bs p None)) → NoZone bs
none_far bs p h f xs s e = near_not_far (code_of xs p) (s.near p h) (subst Far (sym (e p h)) f)

-- no zone has bounds whose codes are not those of a zone
pub none_other : (bs : List (Option Bound)) (ys : List Code) → Given bs ys → (Canon (at ys) → ⊥) → NoZone bs
none_other bs ys g n xs s e = n (canon_same (at ys) (at xs) (λ a b ha hb. let h : 9 * a + b < 81 = omega arith in g _ h ∙ sym (e _ h)) s.canon)
