use Rattle.std.proofs.Common.{◌≡◌, ◌||◌, ◌∙◌, true, false, sym}
use Rattle.ft_forest.specs.Transactions.{over_in}
use Rattle.ft_core.specs.Journals.{state_of}
use Rattle.ft_core.proofs.Behind.{related-same}
use Rattle.ft_core.proofs.Gathered.{state-is}
use Rattle.ft_core.proofs.manager.Core.are_related.Goals as goal

pub returns-then-is_below : goal.returns-then-is_below
returns-then-is_below c =
    let i = c.self.inside in
    let below : true ≡ over_in i.parts.forest c.args.txn c.args.other = sym c.if-is_below.true ∙ c.is_below-is_below.ensures in
    c.if-is_below.true ∙ (λ k. below k || over_in i.parts.forest c.args.other c.args.txn)
    ∙ related-same (state_of i.parts.forest i.journal) c.args.self.now.state (state-is c.self.view_is) i.parts.forest c.self.invariant.0.transactions.parents c.args.txn c.args.other

pub returns-else-is_below : goal.returns-else-is_below
returns-else-is_below c =
    let i = c.self.inside in
    let below : false ≡ over_in i.parts.forest c.args.txn c.args.other = sym c.if-is_below.false ∙ c.is_below-is_below.ensures in
    (λ k. below k || c.is_below-is_above.ensures k)
    ∙ related-same (state_of i.parts.forest i.journal) c.args.self.now.state (state-is c.self.view_is) i.parts.forest c.self.invariant.0.transactions.parents c.args.txn c.args.other
