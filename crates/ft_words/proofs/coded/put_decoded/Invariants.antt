use Rattle.std.proofs.Common.{◌≡◌, ◌+◌, ◌≤◌, ◌++◌, length, take}
use Rattle.percent_encoding.specs.Percent.{percent_decode}
use Rattle.ft_words.proofs.coded.put_decoded.Given as goal

-- at the front are the bytes that the word so far codes, and there is room for the rest
abbrev pub invariant-loop-rest : goal.invariant-loop-rest
invariant-loop-rest l = record {
  bytes : take l.end l.place ++ percent_decode l.rest ≡ percent_decode l.fn.word;
  room : l.end + length l.rest ≤ length l.place;
  len : length l.place ≡ length l.initial.place;
}

abbrev pub decreases-loop-rest : goal.decreases-loop-rest
decreases-loop-rest l = length l.rest
