use Rattle.std.proofs.Common.{◌≡◌, length}
use Rattle.ft_needs.specs.Lines.{with_flags}
use Rattle.ft_needs.proofs.line.with_flags.Given as goal

-- what the flags that are left ask for, on top of what those before ask for
abbrev pub invariant-loop-flag : goal.invariant-loop-flag
invariant-loop-flag l = with_flags l.initial.words l.initial.limits ≡ with_flags l.words l.limits

abbrev pub decreases-loop-flag : goal.decreases-loop-flag
decreases-loop-flag l = length l.words
