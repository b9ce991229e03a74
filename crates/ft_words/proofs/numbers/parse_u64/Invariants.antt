use Rattle.std.proofs.Common.{◌^◌}
use Rattle.std.specs.Char.{is_ascii_digit}
use Rattle.ft_words.proofs.Digits.{GoesOn}
use Rattle.ft_words.proofs.numbers.parse_u64.Given as goal

-- the digits left go on with the number so far
abbrev pub invariant-loop-byte : goal.invariant-loop-byte
invariant-loop-byte l = GoesOn 10 (2 ^ 64) is_ascii_digit l.fn.word l.number l.byte-index
