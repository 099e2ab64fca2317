-- What the calls of a zone answer is what remains of its codes
use Rattle.std.proofs.Common.{◌≡◌, ℕ, Bool, List, length, Ok, Err, Result, sym, refl, ap, subst}
use Rattle.bounds.specs.declared.refusal.Refusal.{Refusal}
use Rattle.bounds.specs.declared.refusal.Refusal.TheVariants as refused
use Rattle.bounds.specs.Bounds.{UpperBound}
use Rattle.bounds.specs.Domains.{Lawful, scales}
use Rattle.zones.specs.declared.zone.Zone.{Zone}
use Rattle.zones.specs.declared.zone.Cut.{Cut}
use Rattle.zones.specs.declared.zone.Cut.TheVariants as cut
use Rattle.zones.specs.declared.codes.Code.{Code}
use Rattle.zones.specs.declared.boxes.Side.{Side}
use Rattle.zones.specs.Codes.{Sound}
use Rattle.zones.specs.Boxes.{Plain, BoxSays}
use Rattle.zones.specs.Calls.{AllSays, BackSays, UndoSays}
use Rattle.zones.proofs.Props.{sound}
use Rattle.bounds.proofs.ScaleLaws.{scale_laws}
use Rattle.rounds.specs.Codes.{Remains, then, whole, cut_box, back_zone, undo_zone}
use Rattle.rounds.specs.Codes.Remains.{kept, empty, beyond}
use Rattle.rounds.specs.Answers.{answered, left, ZoneCodes, Valid}
use Rattle.rounds.specs.Calls.{ZoneOf, Is, Undoes}
use Rattle.rounds.specs.Rounds.{resets_of}
use Rattle.starts.specs.Told.{zone_left, RemainsOf, CutTells, UndoTells, Lists}
use Rattle.rounds.proofs.Calling.{whole_codes, whole_domain, whole_only}
use Rattle.rounds.proofs.Given.{zone_calls_given}

ok_apart : {A B : Type 0} (a : A) (b : B) → ◌≡◌ {A = Result A B} (Ok a) (Err b) → ⊥
ok_apart a b e = cc

cut_apart : ◌≡◌ {A = Result Cut Refusal} (Ok cut.Kept) (Ok cut.Empty) → ⊥
cut_apart e = cc

pub is_kept : (o : Remains) (xs ys : List Code) → Is o xs ys (Ok cut.Kept) → o ≡ kept ys
is_kept (kept zs) xs ys i = ap kept i.1
is_kept empty xs ys i = absurd (cut_apart (sym i.0))
is_kept beyond xs ys i = absurd (ok_apart cut.Kept refused.Range (sym i.0))

pub is_empty : (o : Remains) (xs ys : List Code) → Is o xs ys (Ok cut.Empty) → o ≡ empty
is_empty (kept zs) xs ys i = absurd (cut_apart i.0)
is_empty empty xs ys i = refl
is_empty beyond xs ys i = absurd (ok_apart cut.Empty refused.Range (sym i.0))

pub is_beyond : (o : Remains) (xs ys : List Code) (e : Refusal) → Is o xs ys (Err e) → (o ≡ beyond) × (e ≡ refused.Range)
is_beyond (kept zs) xs ys e i = absurd (ok_apart cut.Kept e i.0)
is_beyond empty xs ys e i = absurd (ok_apart cut.Empty e i.0)
is_beyond beyond xs ys e i = (refl, same refused.Range e i.0)
  where
    same : (a b : Refusal) → ◌≡◌ {A = Result Cut Refusal} (Err a) (Err b) → b ≡ a
    same a b q = cc

pub zone_codes : (ys : List Code) → length ys ≡ 81 → ∥ Sound ys ∥₁ → ZoneCodes ys
zone_codes ys n s = record { many = n; sound = sound ys s }

module _ (allows : ℕ → Bool) (normal : UpperBound → UpperBound) (K : Lawful allows normal) (sides : List Side) (xs : List Code) where
  cut_kept : (ys : List Code) → length ys ≡ 81 → ∥ Sound ys ∥₁ → BoxSays (scales allows) normal sides xs ys (Ok cut.Kept) → Plain sides → ZoneOf normal xs → cut_box normal sides xs ≡ kept ys
  cut_kept ys n s b p z = is_kept _ xs ys ((zone_calls_given allows normal K).box_only sides xs ys (Ok cut.Kept) p z (zone_codes ys n s) b)

  cut_none : (ys : List Code) → BoxSays (scales allows) normal sides xs ys (Ok cut.Empty) → Plain sides → ZoneOf normal xs → cut_box normal sides xs ≡ empty
  cut_none ys b p z = is_empty _ xs ys ((zone_calls_given allows normal K).box_only sides xs ys (Ok cut.Empty) p z (subst ZoneCodes (sym b.unchanged) z.codes) b)

  cut_refused : (ys : List Code) (e : Refusal) → BoxSays (scales allows) normal sides xs ys (Err e) → Plain sides → ZoneOf normal xs → ys ≡ xs
  cut_refused ys refused.Line b p z = absurd b
  cut_refused ys refused.Order b p z = absurd b
  cut_refused ys refused.Number b p z = b.1
  cut_refused ys refused.Name b p z = absurd b
  cut_refused ys refused.Chance b p z = absurd b
  cut_refused ys refused.Rows b p z = absurd b
  cut_refused ys refused.Clocks b p z = absurd b
  cut_refused ys refused.State b p z = absurd b
  cut_refused ys refused.Full b p z = absurd b
  cut_refused ys refused.Range b p z = b.unchanged
  cut_refused ys refused.Phase b p z = absurd b
  cut_refused ys refused.Entry b p z = absurd b
  cut_refused ys refused.Buffer b p z = absurd b

  pub cut_beyond : (ys : List Code) (e : Refusal) → BoxSays (scales allows) normal sides xs ys (Err e) → Plain sides → ZoneOf normal xs → (cut_box normal sides xs ≡ beyond) × (e ≡ refused.Range)
  cut_beyond ys e b p z = is_beyond _ xs ys e ((zone_calls_given allows normal K).box_only sides xs ys (Err e) p z (subst ZoneCodes (sym (cut_refused ys e b p z)) z.codes) b)

  pub cut_tells : (y : Zone) (l : Cut) → length y.codes ≡ 81 → BoxSays (scales allows) normal sides xs y.codes (Ok l) → CutTells normal sides xs (Ok (zone_left y l))
  cut_tells y cut.Kept n b p z = cut_kept y.codes n y.ok b p z
  cut_tells y cut.Empty n b p z = cut_none y.codes b p z

-- ---- back
module _ (allows : ℕ → Bool) (normal : UpperBound → UpperBound) (K : Lawful allows normal) (xs : List Code) where
  pub back_kept : (ys : List Code) (u : Unit {0}) → length ys ≡ 81 → ∥ Sound ys ∥₁ → BackSays (scales allows) normal xs ys (Ok u) → ZoneOf normal xs → back_zone xs ≡ kept ys
  back_kept ys u n s b z = (zone_calls_given allows normal K).back_only xs ys u z (zone_codes ys n s) b

-- ---- undo
module _ (allows : ℕ → Bool) (normal : UpperBound → UpperBound) (K : Lawful allows normal) (rs : List Bool) (cs : List ℕ) (l : Lists rs cs) (xs : List Code) where
  given : (ys : List Code) → ZoneCodes ys → (a : Result Cut Refusal) → UndoSays (scales allows) normal cs xs ys a → ZoneOf normal xs → Is (undo_zone (resets_of rs) xs) xs ys a
  given ys y a b z = (zone_calls_given allows normal K).undo_only cs (resets_of rs) xs ys a l.known refl l.same z y b

  undo_kept : (ys : List Code) → length ys ≡ 81 → ∥ Sound ys ∥₁ → UndoSays (scales allows) normal cs xs ys (Ok cut.Kept) → ZoneOf normal xs → undo_zone (resets_of rs) xs ≡ kept ys
  undo_kept ys n s b z = is_kept _ xs ys (given ys (zone_codes ys n s) (Ok cut.Kept) b z)

  undo_none : (ys : List Code) → UndoSays (scales allows) normal cs xs ys (Ok cut.Empty) → ZoneOf normal xs → undo_zone (resets_of rs) xs ≡ empty
  undo_none ys b z = is_empty _ xs ys (given ys (subst ZoneCodes (sym b.unchanged) z.codes) (Ok cut.Empty) b z)

  pub undo_tells : (y : Zone) (l : Cut) → length y.codes ≡ 81 → UndoSays (scales allows) normal cs xs y.codes (Ok l) → UndoTells normal rs xs (Ok (zone_left y l))
  undo_tells y cut.Kept n b z = undo_kept y.codes n y.ok b z
  undo_tells y cut.Empty n b z = undo_none y.codes b z

-- ---- what remains is of the time domain
module _ (allows : ℕ → Bool) (normal : UpperBound → UpperBound) (K : Lawful allows normal) where
  pub all_of : ZoneOf normal whole
  all_of = record { codes = whole_codes; of_domain = whole_domain (scale_laws allows normal K) }

  box_of : (sides : List Side) (xs : List Code) (o : Remains) → BoxSays (scales allows) normal sides xs (left xs o) (answered o) × Valid o → RemainsOf normal o
  box_of sides xs (kept ys) b = record { codes = b.1; of_domain = b.0.of_domain }
  box_of sides xs empty b = tt
  box_of sides xs beyond b = tt

  pub cut_of : (sides : List Side) → Plain sides → (o : Remains) → RemainsOf normal o → RemainsOf normal (then o (cut_box normal sides))
  cut_of sides p (kept xs) z = box_of sides xs (cut_box normal sides xs) ((zone_calls_given allows normal K).box_says sides xs p z)
  cut_of sides p empty z = tt
  cut_of sides p beyond z = tt

  pub back_of : (o : Remains) → RemainsOf normal o → RemainsOf normal (then o back_zone)
  back_of (kept xs) z = let b = (zone_calls_given allows normal K).back_says xs z in subst (RemainsOf normal) (sym b.1) (record { codes = b.2; of_domain = b.3.of_domain })
  back_of empty z = tt
  back_of beyond z = tt

  undone_of : (r : ℕ → Bool) (xs : List Code) (o : Remains) → Undoes (scales allows) normal r xs o → RemainsOf normal o
  undone_of r xs (kept ys) u = record { codes = u.codes; of_domain = u.of_domain }
  undone_of r xs empty u = tt
  undone_of r xs beyond u = tt

  pub undo_of : (rs : List Bool) (xs : List Code) → ZoneOf normal xs → RemainsOf normal (undo_zone (resets_of rs) xs)
  undo_of rs xs z = undone_of (resets_of rs) xs (undo_zone (resets_of rs) xs) ((zone_calls_given allows normal K).undo_says (resets_of rs) xs refl z)

pub all_codes : (xs : List Code) → length xs ≡ 81 → ∥ Sound xs ∥₁ → AllSays xs → xs ≡ whole
all_codes xs n s a = whole_only xs (zone_codes xs n s) a
