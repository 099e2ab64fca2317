use Rattle.std.proofs.Common.{◌≡◌, ℕ, ◌+◌, ◌*◌, ◌^◌, ◌<◌, ◌≤◌, Option, Some, None, length, decimal, ◌∙◌, ap, arith}
use Rattle.std.specs.Option.{IfNone, IfSome, unwrap_or}
use Rattle.byte_text.proofs.Writing.{length_digit, length_log}
use Rattle.byte_text.proofs.line.number_len.Goals as goal

length_is : (log : Option ℕ) (m n : ℕ) → n < 2 ^ 64 → IfNone log (n ≡ 0) → IfSome log (λ k. 10 ^ k ≤ n) → IfSome log (λ k. n < 10 * 10 ^ k) → m ≡ unwrap_or log 0 → m + 1 ≡ length (decimal n)
length_is None m n f z p g e = ap (λ k. k + 1) e ∙ length_digit n (omega arith)
length_is (Some k) m n f z p g e = ap (λ k. k + 1) e ∙ length_log k n p g f

pub returns-clause-value : goal.returns-clause-value
returns-clause-value c = length_is c.checked_ilog10.result c.unwrap_or.result c.args.n c.ranges.n.fits c.checked_ilog10.ensures.none c.checked_ilog10.ensures.power_le c.checked_ilog10.ensures.next_power_gt c.unwrap_or.ensures
