use Rattle.std.proofs.Common.{◌^◌}
use Rattle.ft_words.specs.Modes.{is_octal_digit}
use Rattle.ft_words.proofs.Digits.{GoesOn}
use Rattle.ft_words.proofs.modes.parse_mode.Given as goal

-- the digits left go on with the mode so far
abbrev pub invariant-loop-byte : goal.invariant-loop-byte
invariant-loop-byte l = GoesOn 8 (8 ^ 4) is_octal_digit l.fn.word l.mode l.byte-index
