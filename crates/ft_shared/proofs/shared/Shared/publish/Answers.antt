use Rattle.ft_shared.proofs.Staying.{told_of}
use Rattle.ft_shared.proofs.shared.Shared.publish.Goals as goal

pub returns-clause-committed : goal.returns-clause-committed
returns-clause-committed g c =
    told_of g.J.Sharing.origin.from c.deref_mut.result.now.core.state c.publish-answer.result c.publish-answer.ensures.from c.publish-answer.ensures.receipt
