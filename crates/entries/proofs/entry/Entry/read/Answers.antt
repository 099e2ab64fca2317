use Rattle.std.proofs.Common.{◌≡◌, Option, None, Err, Result, sym, refl, ap, ◌∙◌, subst}
use Rattle.std.specs.Option.{ok_or}
use Rattle.std.proofs.lemmas.Bool.{both_ways}
use Rattle.std.proofs.lemmas.Result.{err_from_is_err_and}
use Rattle.bounds.specs.declared.refusal.Refusal.{Refusal}
use Rattle.bounds.specs.declared.refusal.Refusal.TheVariants as refused
use Rattle.entries.specs.Lines.{line}
use Rattle.entries.specs.Reading.{DraftSays}
use Rattle.entries.specs.Finding.{FoundSays}
use Rattle.entries.proofs.Drafts.{body_front}
use Rattle.entries.proofs.entry.Entry.read.Goals as goal

line_refused : {A : Type 0} (why : Refusal) (o : Option A) → o ≡ None → Err why ≡ ok_or o refused.Line → why ≡ refused.Line
line_refused {A = A} why o h e = let f : ◌≡◌ {A = Result A Refusal} (Err why) (Err refused.Line) = e ∙ ap (λ (x : Option A). ok_or x refused.Line) h in cc

pub returns-in_err-draft : goal.returns-in_err-draft
returns-in_err-draft c =
    let p = err_from_is_err_and c.from_residual.result c.from_residual.ensures.1 in
    let none = subst (DraftSays _) c.in_err-draft.ensures.ok_part c.read_draft.ensures in
    rw (p.1, p.2) (
      line_refused c.in_err-draft.field-0.0 c.read_draft.result c.in_err-draft.ensures.ok_part c.in_err-draft.ensures.value,
      λ f is e. none c.args.clocks.count f is (body_front c.args.clocks.count f is c.args.bytes.now c.up_to-end.result c.up_to-end.ensures.value e),
    )

pub returns-in_err-entry : goal.returns-in_err-entry
returns-in_err-entry c =
    let n = c.args.clocks.count in
    let p = err_from_is_err_and c.from_residual-in_err-entry.result c.from_residual-in_err-entry.ensures.1 in
    let draft = subst (DraftSays _) c.in_ok-draft.ensures.ok_part c.read_draft.ensures in
    let none = subst (FoundSays n c.in_ok-draft.draft) c.in_err-entry.ensures.ok_part c.found.ensures in
    rw (p.1, p.2) (
      line_refused c.in_err-entry.field-0.0 c.found.result c.in_err-entry.ensures.ok_part c.in_err-entry.ensures.value,
      λ f is e. none f is (draft n f is (body_front n f is c.args.bytes.now c.up_to-end.result c.up_to-end.ensures.value e)),
    )

pub returns-then-not-has_line : goal.returns-then-not-has_line
returns-then-not-has_line c =
    let n = c.args.clocks.count in
    let draft = subst (DraftSays _) c.in_ok-draft.ensures.ok_part c.read_draft.ensures in
    let entry = subst (FoundSays n c.in_ok-draft.draft) c.in_ok-entry.ensures.ok_part c.found.ensures in (
      refl,
      λ f is e.
          let same = entry.1 f is (draft n f is (body_front n f is c.args.bytes.now c.up_to-end.result c.up_to-end.ensures.value e)) in
          both_ways c.has_line.result c.if-not-has_line.true (c.has_line.ensures.1 (ap (line n) (sym same) ∙ e)),
    )

pub returns : goal.returns
returns c =
    let n = c.args.clocks.count in
    let draft = subst (DraftSays _) c.in_ok-draft.ensures.ok_part c.read_draft.ensures in
    let entry = subst (FoundSays n c.in_ok-draft.draft) c.in_ok-entry.ensures.ok_part c.found.ensures in
    record {
      is_entry = entry.0;
      writes = c.has_line.ensures.0 c.if-not-has_line.false;
      only = λ f is e. entry.1 f is (draft n f is (body_front n f is c.args.bytes.now c.up_to-end.result c.up_to-end.ensures.value e));
    }
