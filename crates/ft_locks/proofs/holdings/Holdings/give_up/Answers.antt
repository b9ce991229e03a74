use Rattle.std.proofs.Common.{is_some, ap, sym, ◌∙◌}
use Rattle.std.specs.FinMap as finite
use Rattle.ft_lock_rules.specs.Holdings.{Held}
use Rattle.ft_lock_rules.proofs.Under.{open-under}
use Rattle.ft_locks.proofs.GivenUp.{no_others, given-joined, given-list, given-still}
use Rattle.ft_locks.proofs.holdings.Holdings.give_up.Goals as goal

pub clear-requires-clause-open : goal.clear-requires-clause-open
clear-requires-clause-open c =
    sym (open-under c.self.inside.cells.at c.self.inside.chains c.args.owner) ∙ ap (λ (h : Held). is_some (finite.get h.lists c.args.owner)) c.self.view_is ∙ c.requires

pub clear-requires-clause-alone : goal.clear-requires-clause-alone
clear-requires-clause-alone c = no_others c.self.inside.cells c.self.inside.chains c.args.owner c.self.invariant c.in-Some.ensures.alone

pub invariant_of-self : goal.invariant_of-self
invariant_of-self c =
    given-joined c.self.inside.cells c.self.inside.chains c.args.owner c.self.invariant c.in-Some.ensures.alone
    c.give_up.new.self c.clear.new.self c.clear.ensures c.give_up.ensures.cells

pub returns-clause-list : goal.returns-clause-list
returns-clause-list c = λ _.
    given-list c.self.inside.cells c.self.inside.chains c.args.owner c.self.invariant c.in-Some.ensures.alone
    c.give_up.new.self c.clear.new.self c.clear.ensures c.give_up.ensures.cells

pub returns-clause-still : goal.returns-clause-still
returns-clause-still c = λ u.
    let was_open = sym (open-under c.self.inside.cells.at c.self.inside.chains c.args.owner) ∙ ap (λ (h : Held). is_some (finite.get h.lists c.args.owner)) c.self.view_is ∙ c.requires in
    open-under c.give_up.new.self.at c.clear.new.self u ∙ given-still c.self.inside.chains c.clear.new.self c.args.owner c.clear.ensures was_open u
    ∙ sym (open-under c.self.inside.cells.at c.self.inside.chains u) ∙ ap (λ (h : Held). is_some (finite.get h.lists u)) c.self.view_is
