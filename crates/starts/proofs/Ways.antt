-- One call of a zone after another
use Rattle.std.proofs.Common.{◌≡◌, ℕ, Bool, List, Some, None, Ok, Err, Option, Result, sym, ap, subst}
use Rattle.bounds.specs.declared.refusal.Refusal.{Refusal}
use Rattle.bounds.specs.Bounds.{UpperBound}
use Rattle.bounds.specs.Domains.{Lawful}
use Rattle.zones.specs.declared.codes.Code.{Code}
use Rattle.zones.specs.declared.boxes.Side.{Side}
use Rattle.zones.specs.declared.zone.Zone.{Zone}
use Rattle.zones.specs.Boxes.{Plain}
use Rattle.rounds.specs.Codes.{Remains, then, cut_box, undo_zone}
use Rattle.rounds.specs.Codes.Remains.{kept}
use Rattle.rounds.specs.Calls.{ZoneOf}
use Rattle.rounds.specs.Rounds.{resets_of}
use Rattle.starts.specs.Told.{Tells, RemainsOf, CutTells, UndoTells, HomeTells}
use Rattle.starts.specs.Starts.{home_way}
use Rattle.starts.proofs.Calling.{cut_of, undo_of}

-- after nothing, or a refusal, comes no more
module _ (normal : UpperBound → UpperBound) (sides : List Side) (o : Remains) where
  pub cut_none : Tells o (Ok None) → Tells (then o (cut_box normal sides)) (Ok None)
  cut_none t = ap (λ x. then x (cut_box normal sides)) t

  pub cut_refused : (e : Refusal) → Tells o (Err e) → Tells (then o (cut_box normal sides)) (Err e)
  cut_refused e t = (ap (λ x. then x (cut_box normal sides)) t.0, t.1)

  pub home_none : Tells o (Ok None) → Tells (home_way normal sides o) (Ok None)
  home_none t = ap (home_way normal sides) t

  pub home_refused : (e : Refusal) → Tells o (Err e) → Tells (home_way normal sides o) (Err e)
  home_refused e t = (ap (home_way normal sides) t.0, t.1)

-- the zone that is left, of the time domain
pub record At (normal : UpperBound → UpperBound) (o : Remains) (z : Zone) : Type 0 where
  pub left : o ≡ kept z.codes
  pub of_domain : ZoneOf normal z.codes

at : (normal : UpperBound → UpperBound) (o : Remains) → RemainsOf normal o → (x : Option Zone) → Tells o (Ok x) → (z : Zone) → x ≡ Some z → At normal o z
at normal o w x t z is =
    let q : o ≡ kept z.codes = subst (λ y. Tells o (Ok y)) is t in
    record { left = q; of_domain = subst (RemainsOf normal) q w }

module _ (allows : ℕ → Bool) (normal : UpperBound → UpperBound) (K : Lawful allows normal) where
  pub undo_at : (rs : List Bool) (xs : List Code) → ZoneOf normal xs → (x : Option Zone) → UndoTells normal rs xs (Ok x) → (z : Zone) → x ≡ Some z → At normal (undo_zone (resets_of rs) xs) z
  undo_at rs xs w x t = at normal (undo_zone (resets_of rs) xs) (undo_of allows normal K rs xs w) x (t w)

  module _ (sides : List Side) (p : Plain sides) (o : Remains) (z : Zone) (a : At normal o z) where
    pub cut_tells : (r : Result (Option Zone) Refusal) → CutTells normal sides z.codes r → Tells (then o (cut_box normal sides)) r
    cut_tells r c = subst (λ y. Tells (then y (cut_box normal sides)) r) (sym a.left) (c p a.of_domain)

    pub cut_at : (x : Option Zone) → CutTells normal sides z.codes (Ok x) → (y : Zone) → x ≡ Some y → At normal (then o (cut_box normal sides)) y
    cut_at x c = at normal (then o (cut_box normal sides)) (cut_of allows normal K sides p o (subst (RemainsOf normal) (sym a.left) a.of_domain)) x (cut_tells (Ok x) c)

    pub home_tells : (r : Result (Option Zone) Refusal) → HomeTells normal sides z.codes r → Tells (home_way normal sides o) r
    home_tells r h = subst (λ y. Tells (home_way normal sides y) r) (sym a.left) (h p a.of_domain)
