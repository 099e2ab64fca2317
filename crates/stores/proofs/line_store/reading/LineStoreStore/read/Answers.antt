use Rattle.std.proofs.Common.{◌≡◌, ℕ, ◌-◌, ◌≤◌, List, length, get_or, take, Ok, Err, Result, MatchResult, sym, refl, subst, arith, rules}
use Rattle.bounds.specs.declared.refusal.Refusal.{Refusal}
use Rattle.plans.specs.Items.{Item}
use Rattle.entries.specs.declared.entry.Entry.{Entry}
use Rattle.entries.specs.Entries.{IsEntry}
use Rattle.entries.specs.Lines.{line, Read, ReadSays}
use Rattle.stores.specs.Texts.{NthSays, text_of}
use Rattle.stores.proofs.HeldFacts.{count_is}
use Rattle.stores.proofs.ReadFacts.{no_line, no_entry, entry_read}
use Rattle.stores.proofs.line_store.reading.LineStoreStore.read.Goals as goal

-- what is read of a line that is there is the item
item : (es : List Entry) (k n : ℕ) (bs : List ℕ) (r s : Result Entry Refusal) (P : Refusal → Type 0) → 1 ≤ k → k ≤ length es
    → ((e : Entry) → Read n bs e → e ≡ get_or es (k - 1) e) → (((f : Entry) → IsEntry n f → line n f ≡ bs → ⊥) → ⊥)
    → ReadSays n bs r → MatchResult r (λ x. s ≡ Ok x) P → Item es k s
item es k n bs (Ok e) s P low high is some h m = subst (Item es k) (sym m) (low, high, is e h)
item es k n bs (Err w) s P low high is some h m = absurd (some h.1)

pub returns-then-i-self : goal.returns-then-i-self
returns-then-i-self c =
    let s = c.args.self.now in
    let from : (1 ≤ c.args.k) × (c.in_ok-i.i ≡ c.args.k - 1) = search rules in
    (refl, λ l. omega (arith, count_is s.clocks.count s.count (take s.used s.bytes.now) s.kept))

pub returns-in_err-line : goal.returns-in_err-line
returns-in_err-line c =
    let s = c.args.self.now in
    absurd (no_line s.clocks.count s.count (take s.used s.bytes.now) s.kept c.in_ok-i.i c.if-i-self.false (subst (NthSays (take s.used s.bytes.now) c.in_ok-i.i) c.in_err-line.ensures.ok_part c.nth_line.ensures))

pub returns : goal.returns
returns c =
    let s = c.args.self.now in
    let n = s.clocks.count in
    let bs = take s.used s.bytes.now in
    let i = c.in_ok-i.i in
    let from : (1 ≤ c.args.k) × (i ≡ c.args.k - 1) = search rules in
    let says = subst (NthSays bs i) c.in_ok-line.ensures.ok_part c.nth_line.ensures in
    item (text_of s) c.args.k n c.in_ok-line.line.now c.read.result c.map_err.result _ from.0 (omega (arith, count_is n s.count bs s.kept))
    (λ e r. subst (λ (j : ℕ). e ≡ get_or (text_of s) j e) from.1 (entry_read n s.count bs s.kept i c.if-i-self.false c.in_ok-line.line e says r))
    (no_entry n s.count bs s.kept i c.if-i-self.false c.in_ok-line.line says)
    c.read.ensures c.map_err.ensures.cases
