use Rattle.std.proofs.Common.{rules}
use Rattle.std.proofs.lemmas.List.Sorted.{IsNonDecreasingBy-from_sort_by_key}
use Rattle.ft_base.proofs.table.sort_by_number.Goals as goal

pub returns-clause-rising : goal.returns-clause-rising
returns-clause-rising g c = IsNonDecreasingBy-from_sort_by_key (λ pair. pair.0) _ c.sort_unstable_by_key.ensures.sorted (λ a r f' k. search rules)
