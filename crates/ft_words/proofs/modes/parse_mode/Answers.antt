use Rattle.std.proofs.Common.{ℕ, ◌*◌, ◌≤◌, ◌^◌, arith, ◌∙◌}
use Rattle.ft_words.specs.Modes.{is_octal_digit}
use Rattle.ft_words.proofs.Digits.{starts, steps, stops, ends}
use Rattle.ft_words.proofs.modes.parse_mode.Goals as goal

eightfold : (n : ℕ) → n ≤ n * 8
eightfold n = omega arith

pub loop-byte-init : goal.loop-byte-init
loop-byte-init c = starts 8 (8 ^ 4) is_octal_digit eightfold c.args.word.now (omega arith)

pub loop-byte-preserved : goal.loop-byte-preserved
loop-byte-preserved c = steps 8 (8 ^ 4) is_octal_digit eightfold c.args.word.now _ _ _ (omega arith) c.in_ok-mode.ensures c.loop-byte.invariant

pub returns-in_err-mode : goal.returns-in_err-mode
returns-in_err-mode c = c.from_residual.ensures ∙ stops 8 (8 ^ 4) is_octal_digit eightfold 5 c.args.word.now _ _ (omega arith) c.in_err-mode.ensures c.loop-byte.invariant

pub returns : goal.returns
returns c = ends 8 (8 ^ 4) is_octal_digit eightfold 5 c.args.word.now _ c.loop-byte.byte-index c.if-is_empty.ensures (omega arith) (omega arith) c.loop-byte.invariant
