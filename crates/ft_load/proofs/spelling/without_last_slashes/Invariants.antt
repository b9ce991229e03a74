use Rattle.std.proofs.Common.{◌≡◌, ◌++◌, ◌==◌, ℕ, List, true, length}
use Rattle.std.specs.List.{list_all}
use Rattle.ft_load.proofs.spelling.without_last_slashes.Given as goal

-- slashes were left out so far
abbrev pub invariant-loop-less : goal.invariant-loop-less
invariant-loop-less l = (slashes : List ℕ) × (l.path ≡ l.front ++ slashes) × (list_all (λ byte. byte == 47) slashes ≡ true)

abbrev pub decreases-loop-less : goal.decreases-loop-less
decreases-loop-less l = length l.front
