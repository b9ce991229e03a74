use Rattle.std.proofs.Common.{◌≡◌, ap, ◌∙◌}
use Rattle.ft_core.specs.Limits.{greatest_limits, are_within}
use Rattle.ft_core.specs.States.{limits_of}
use Rattle.ft_core.proofs.Gathered.{state-is}
use Rattle.ft_core.proofs.Known.{call_laws}
use Rattle.ft_core.proofs.Allowing.{limits-kept}
use Rattle.ft_core.proofs.manager.Core.limits.Goals as goal

pub returns-clause-within : goal.returns-clause-within
returns-clause-within c =
    let i = c.self.inside in
    let tree : c.limits-file_size.result ≡ i.journal.base_tree.limits = c.limits-file_size.ensures.are ∙ limits-kept call_laws c.self.invariant.0.kept in
    (λ x. are_within (record {
      file_size = (tree x).file_size;
      links = (tree x).links;
      depth = (c.limits-transactions.ensures x).depth;
      transactions = (c.limits-transactions.ensures x).transactions;
      calls = c.terms.ensures.calls x;
    }) greatest_limits) ∙ c.self.invariant.0.within

pub returns-clause-are : goal.returns-clause-are
returns-clause-are c =
    let i = c.self.inside in
    let tree : c.limits-file_size.result ≡ i.journal.base_tree.limits = c.limits-file_size.ensures.are ∙ limits-kept call_laws c.self.invariant.0.kept in
    (λ x. record {
      file_size = (tree x).file_size;
      links = (tree x).links;
      depth = (c.limits-transactions.ensures x).depth;
      transactions = (c.limits-transactions.ensures x).transactions;
      calls = c.terms.ensures.calls x;
    })
    ∙ ap limits_of (state-is c.self.view_is)
