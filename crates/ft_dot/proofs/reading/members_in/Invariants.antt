use Rattle.std.proofs.Common.{◌≡◌, ◌++◌, length}
use Rattle.std.specs.Prelude.{option_map}
use Rattle.ft_words.specs.Spelling.{parse_u64}
use Rattle.ft_dot.specs.Reading.{each}
use Rattle.ft_dot.proofs.reading.members_in.Given as goal

-- what was read so far, and then what is left
abbrev pub invariant-loop-word : goal.invariant-loop-word
invariant-loop-word l = each parse_u64 l.initial.rest ≡ option_map (λ others. l.members.items ++ others) (each parse_u64 l.rest)

abbrev pub decreases-loop-word : goal.decreases-loop-word
decreases-loop-word l = length l.rest
