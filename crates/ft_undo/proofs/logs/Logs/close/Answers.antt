use Rattle.std.proofs.Common.{ap, ◌∙◌}
use Rattle.ft_owned_lists.specs.OwnedLists.{list_in}
use Rattle.ft_history.proofs.Words.{put_other}
use Rattle.ft_undo.specs.Logs.{is_open}
use Rattle.ft_undo.proofs.Logging.{lists-closed, open-closed}
use Rattle.ft_undo.proofs.logs.Logs.close.Goals as goal

pub returns-clause-lists : goal.returns-clause-lists
returns-clause-lists c = lists-closed c.args.self.now c.self.inside.chains c.close.new.self c.args.txn
    (λ x other. ap (λ m. list_in m x) c.self.view_is ∙ c.take_last.ensures.lists x ∙ put_other (list_in c.loop.self) c.args.txn _ x other ∙ c.loop.invariant.others x other)
    c.close.ensures

pub returns-clause-opened : goal.returns-clause-opened
returns-clause-opened c = open-closed c.args.self.now c.self.inside.chains c.close.new.self c.args.txn
    (λ x. ap (λ m. is_open m x) c.self.view_is ∙ c.take_last.ensures.opened x ∙ c.loop.invariant.opened x)
    c.close.ensures
