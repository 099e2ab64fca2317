use Rattle.std.proofs.Common.{◌≡◌, ℕ, ◌+◌, ◌≤◌, List, ◌++◌, length, take, sym, refl, ap, ◌∙◌, subst, arith, length-take, rules}
use Rattle.byte_text.specs.Lines.{written}
use Rattle.entries.specs.Lines.{line}
use Rattle.entries.proofs.Items.{length_line}
use Rattle.stores.specs.Held.{Kept}
use Rattle.stores.proofs.HeldFacts.{kept_more, held_more, count_few, front_kept, front_more, length_kept}
use Rattle.stores.proofs.line_store.LineStore.keep.Goals as goal

pub overflow_add-self : goal.overflow_add-self
overflow_add-self c =
    let s = c.args.self.now in
    let n = s.clocks.count in
    let h : s.count + 1 ≤ 1000000000 = omega (arith, c.room.ensures, c.len-need.ensures.value, ap length c.in_ok-text.ensures, length_line n c.args.entry, count_few n s.count (take s.used s.bytes.now) s.kept, length-take s.used s.bytes.now) in
    search rules

pub invariant_of-self : goal.invariant_of-self
invariant_of-self c =
    let s = c.args.self.now in
    let n = s.clocks.count in
    let l = line n c.args.entry in
    let m : c.len-need.result ≡ length l = c.len-need.ensures.value ∙ ap length c.in_ok-text.ensures in
    let is = c.write_at.ensures ∙ ap (written s.bytes.now s.used) (c.as_bytes.ensures ∙ c.in_ok-text.ensures) in
    let fits : s.used + length l ≤ length s.bytes.now = omega (arith, m, c.room.ensures, s.fits) in
    let front = front_kept s.bytes.now _ l s.used s.used is refl fits in
    let more = front_more s.bytes.now _ l s.used s.used is refl fits c.len-need.result m in
    record {
      fits = omega (arith, fits, m, length_kept s.bytes.now _ l s.used s.used is refl fits);
      kept = subst (λ (x : List ℕ). ∥ Kept n (s.count + 1) x ∥₁) (sym (more ∙ ap (λ (x : List ℕ). x ++ l) front)) (kept_more n s.count (take s.used s.bytes.now) c.args.entry s.kept (c.is_for.ensures.0 c.if-not-is_for.false));
    }

pub returns-clause-says : goal.returns-clause-says
returns-clause-says c =
    let s = c.args.self.now in
    let n = s.clocks.count in
    let l = line n c.args.entry in
    let m : c.len-need.result ≡ length l = c.len-need.ensures.value ∙ ap length c.in_ok-text.ensures in
    let is = c.write_at.ensures ∙ ap (written s.bytes.now s.used) (c.as_bytes.ensures ∙ c.in_ok-text.ensures) in
    let fits : s.used + length l ≤ length s.bytes.now = omega (arith, m, c.room.ensures, s.fits) in
    let front = front_kept s.bytes.now _ l s.used s.used is refl fits in
    let more = front_more s.bytes.now _ l s.used s.used is refl fits c.len-need.result m in
    let is_entry = c.is_for.ensures.0 c.if-not-is_for.false in
    record {
      is_entry = is_entry;
      fits = omega (arith, m, c.room.ensures);
      entries = held_more n n s.count (s.count + 1) (take s.used s.bytes.now) _ c.args.entry s.kept _ refl is_entry refl (more ∙ ap (λ (x : List ℕ). x ++ l) front);
      room = omega (arith, m, c.room.ensures, length_kept s.bytes.now _ l s.used s.used is refl fits);
    }
