use Rattle.std.proofs.Common.{◌≡◌, ◌<◌, ◌-◌, ◌^◌, drop}
use Rattle.ft_path.specs.Front.{with_digits, front_of}
use Rattle.ft_path.proofs.front.front_of_few.Given as goal

-- the digits so far and those to come are all, and there is room for these
abbrev pub invariant-loop-at : goal.invariant-loop-at
invariant-loop-at l = record {
  same : with_digits (8 - l.at) l.front (drop l.at l.bytes) ≡ front_of l.bytes;
  small : l.front < 256 ^ l.at;
}
