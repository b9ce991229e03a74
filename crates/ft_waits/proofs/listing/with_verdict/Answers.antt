use Rattle.std.proofs.Common.{List, subst}
use Rattle.ft_waits.specs.declared.edge.Edge.{Edge}
use Rattle.ft_waits.specs.Waits.{IsVerdict}
use Rattle.ft_waits.proofs.Judged.{told}
use Rattle.ft_waits.proofs.listing.with_verdict.Goals as goal

pub returns-clause-verdict : goal.returns-clause-verdict
returns-clause-verdict c =
    let says = c.in_ok-verdict.ensures in
    let verdict = c.in_ok-verdict.verdict in
    subst (λ (edges : List Edge). IsVerdict edges verdict) c.as_slice.ensures.value
    (told c.as_slice.result.now verdict says.cycle says.distinct says.least says.named says.rising says.ranks says.falls says.no_cycle)
