use Rattle.std.proofs.Common.{ℕ, ◌*◌, ◌≤◌, ◌^◌, arith, ◌∙◌}
use Rattle.std.specs.Char.{is_ascii_digit}
use Rattle.ft_words.proofs.Digits.{starts, steps, stops, ends}
use Rattle.ft_words.proofs.numbers.parse_u64.Goals as goal

tenfold : (n : ℕ) → n ≤ n * 10
tenfold n = omega arith

pub loop-byte-init : goal.loop-byte-init
loop-byte-init c = starts 10 (2 ^ 64) is_ascii_digit tenfold c.args.word.now (omega arith)

pub loop-byte-preserved : goal.loop-byte-preserved
loop-byte-preserved c = steps 10 (2 ^ 64) is_ascii_digit tenfold c.args.word.now _ _ _ (omega arith) c.in_ok-number.ensures c.loop-byte.invariant

pub returns-in_err-number : goal.returns-in_err-number
returns-in_err-number c = c.from_residual.ensures ∙ stops 10 (2 ^ 64) is_ascii_digit tenfold 20 c.args.word.now _ _ (omega arith) c.in_err-number.ensures c.loop-byte.invariant

pub returns : goal.returns
returns c = ends 10 (2 ^ 64) is_ascii_digit tenfold 20 c.args.word.now _ c.loop-byte.byte-index c.if-is_empty.ensures (omega arith) (omega arith) c.loop-byte.invariant
