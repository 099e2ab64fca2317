-- Lists of entries that grow at their end.
use Rattle.std.proofs.Common.{◌≡◌, ℕ, suc, ◌<◌, ◌≤◌, true, ◌&&◌, eqb, ◌⊎◌, List, [], ◌∷◌, ◌++◌, length, sym, refl, ap, ◌∙◌, subst, inl, inr, ⊎_elim, arith}
use mathlib.Core.Logic.{∥∥₁_map}
use native.Mathlib.Decide.{dec_lt}
use Rattle.std.proofs.lemmas.List.{get_or_append_left, get_or_push, length_push}
use Rattle.std.proofs.lemmas.Bool.{and_parts, or_cases, eqb-true, false≢true}
use Rattle.zones.specs.declared.codes.Code.{Code}
use Rattle.plans.specs.Meaning.{PlanMeaning}
use Rattle.rounds.specs.Codes.{within_zone}
use Rattle.rounds.specs.Held.{Held}
use Rattle.rounds.specs.Rounds.{Entry, no_entry, entry_at, covering}
use Rattle.rounds.specs.Stands.{In, Covers, EntryOf, Real, Good}

-- the first entries of fs are those of es, and the others are of round f
pub record Grown (f : ℕ) (es fs : List Entry) : Type 0 where
  pub begins : (k : ℕ) → k < length es → (k < length fs) × (entry_at fs k ≡ entry_at es k)
  pub fresh : (k : ℕ) → length es ≤ k → k < length fs → (entry_at fs k).round ≡ f

pub grown_refl : (f : ℕ) (es : List Entry) → Grown f es es
grown_refl f es = record { begins = λ k h. (h, refl); fresh = λ k a b. absurd (omega arith) }

pub grown_trans : (f : ℕ) (es fs gs : List Entry) → Grown f es fs → Grown f fs gs → Grown f es gs
grown_trans f es fs gs p q = record {
  begins = λ k h. let a = p.begins k h in let b = q.begins k a.0 in (b.0, b.1 ∙ a.1);
  fresh = λ k l h. elim (dec_lt k (length fs)) [
    | yes y ↦ ap (λ (x : Entry). x.round) (q.begins k y).1 ∙ p.fresh k l y
    | no n ↦ q.fresh k (omega (arith, n)) h
  ];
}

pub grown_length : (f : ℕ) (es fs : List Entry) → Grown f es fs → length es ≤ length fs
grown_length f es fs p = elim (dec_lt (length fs) (length es)) [ yes y ↦ absurd (let z = (p.begins (length fs) y).0 in omega arith) | no n ↦ omega (arith, n) ]

at_last : (es : List Entry) (e : Entry) → entry_at (es ++ (e ∷ [])) (length es) ≡ e
at_last es e = get_or_push es e no_entry (length es) refl

pushed_index : (es : List Entry) (e : Entry) (k : ℕ) → k < length (es ++ (e ∷ [])) → (k < length es) ⊎ (k ≡ length es)
pushed_index es e k h = elim (dec_lt k (length es)) [ yes y ↦ inl y | no n ↦ inr (omega (arith, n, length_push es e)) ]

pushed_old : (es : List Entry) (e : Entry) (k : ℕ) → k < length es → entry_at (es ++ (e ∷ [])) k ≡ entry_at es k
pushed_old es e k h = get_or_append_left es (e ∷ []) no_entry k h

pub pushed_all : (P : Entry → Type 0) (es : List Entry) (e : Entry) → ((k : ℕ) → k < length es → P (entry_at es k)) → P e → (k : ℕ) → k < length (es ++ (e ∷ [])) → P (entry_at (es ++ (e ∷ [])) k)
pushed_all P es e old new k h =
    elim (pushed_index es e k h) [
      | inl l ↦ subst P (sym (pushed_old es e k l)) (old k l)
      | inr q ↦ subst P (sym (ap (entry_at (es ++ (e ∷ []))) q ∙ at_last es e)) new
    ]

pub grown_push : (f : ℕ) (es : List Entry) (e : Entry) → e.round ≡ f → Grown f es (es ++ (e ∷ []))
grown_push f es e q = record {
  begins = λ k h. (omega (arith, length_push es e), pushed_old es e k h);
  fresh = λ k l h. elim (pushed_index es e k h) [
    | inl o ↦ absurd (omega arith)
    | inr o ↦ ap (λ (x : Entry). x.round) (ap (entry_at (es ++ (e ∷ []))) o ∙ at_last es e) ∙ q
  ];
}

pub covers_mono : (f : ℕ) (es fs : List Entry) (n D p : ℕ) (v : ℕ → ℕ) → Grown f es fs → Covers es n D p v → Covers fs n D p v
covers_mono f es fs n D p v g c =
    ∥∥₁_map c (λ t. (t.0, (g.begins t.0 t.1).0, subst (λ e. In e D p v) (sym (g.begins t.0 t.1).1) t.2, subst (λ (e : Entry). e.round ≤ n) (sym (g.begins t.0 t.1).1) t.3))

pub covers_later : (es : List Entry) (n o D p : ℕ) (v : ℕ → ℕ) → n ≤ o → Covers es n D p v → Covers es o D p v
covers_later es n o D p v h c = ∥∥₁_map c (λ t. (t.0, t.1, t.2, omega (arith, t.3)))

pub push_covers : (es : List Entry) (e : Entry) (f D : ℕ) (v : ℕ → ℕ) → e.round ≤ f → Held e.zone D v → Covers (es ++ (e ∷ [])) f D e.position v
push_covers es e f D v r h =
    ∣ (length es, omega (arith, length_push es e), subst (λ x. In x D e.position v) (sym (at_last es e)) (refl, h), subst (λ (x : Entry). x.round ≤ f) (sym (at_last es e)) r) ∣₁

-- which entry it is that a zone lies within
pub covering_one : (es : List Entry) (p : ℕ) (z : List Code) → covering es p z ≡ true → (k : ℕ) × (k < length es) × ((entry_at es k).position ≡ p) × (within_zone z (entry_at es k).zone ≡ true)
unfolding covering
covering_one [] p z h = absurd (false≢true h)
covering_one (e ∷ es) p z h = ⊎_elim
    {C = (k : ℕ) × (k < length (e ∷ es)) × ((entry_at (e ∷ es) k).position ≡ p) × (within_zone z (entry_at (e ∷ es) k).zone ≡ true)}
    (λ a. let b = and_parts (eqb e.position p) (within_zone z e.zone) a in (0, omega arith, eqb-true e.position p b.0, b.1))
    (λ a. let r = covering_one es p z a in (suc r.0, omega (arith, r.1), r.2, r.3))
    (or_cases (eqb e.position p && within_zone z e.zone) (covering es p z) h)

module _ (M : PlanMeaning) where
  pub good_push : (es : List Entry) (f : ℕ) (e : Entry) → Good M es f → EntryOf M e → Real M e → e.round ≡ f → Good M (es ++ (e ∷ [])) f
  good_push es f e g t r q = record {
    fits = pushed_all (EntryOf M) es e g.fits t;
    real = pushed_all (Real M) es e g.real r;
    ordered = λ i j i≤j j<. elim (pushed_index es e j j<) [
      | inl l ↦ (let i< : i < length es = omega arith in
          subst (λ (x : Entry). x.round ≤ (entry_at (es ++ (e ∷ [])) j).round) (sym (pushed_old es e i i<))
          (subst (λ (x : Entry). (entry_at es i).round ≤ x.round) (sym (pushed_old es e j l)) (g.ordered i j i≤j l)))
      | inr p ↦ (let last : entry_at (es ++ (e ∷ [])) j ≡ e = ap (entry_at (es ++ (e ∷ []))) p ∙ at_last es e in
          subst (λ (x : Entry). (entry_at (es ++ (e ∷ [])) i).round ≤ x.round) (sym last)
          (pushed_all (λ x. x.round ≤ e.round) es e (λ o o<. omega (arith, g.at_most o o<, q)) (omega arith) i (omega arith)))
    ];
    at_most = pushed_all (λ x. x.round ≤ f) es e g.at_most (omega arith);
  }
