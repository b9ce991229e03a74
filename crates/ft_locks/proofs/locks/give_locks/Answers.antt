use Rattle.std.proofs.Common.{is_some, ap, ◌∙◌}
use Rattle.std.specs.FinMap as finite
use Rattle.ft_lock_rules.proofs.Cases.{on_any}
use Rattle.ft_lock_rules.proofs.Joining.{apart_test}
use Rattle.ft_lock_rules.proofs.Granted.{given_after, given_at_once, granted_kept, granted, ungranted}
use Rattle.ft_locks.proofs.locks.give_locks.Goals as goal

pub returns-in_err-has_all-clause-kept : goal.returns-in_err-has_all-clause-kept
returns-in_err-has_all-clause-kept c = (ungranted c.args.holdings.now.cells c.reserve.new.self.cells c.args.holdings.now.lists c.reserve.new.self.lists c.in_err-has_all.ensures.err c.reserve.ensures.still c.requires.kept).0

pub returns-in_err-has_all-clause-err : goal.returns-in_err-has_all-clause-err
returns-in_err-has_all-clause-err c = on_any c.from_residual.result _
    (ungranted c.args.holdings.now.cells c.reserve.new.self.cells c.args.holdings.now.lists c.reserve.new.self.lists c.in_err-has_all.ensures.err c.reserve.ensures.still c.requires.kept).1

pub returns-then-not-has_all-clause-kept : goal.returns-then-not-has_all-clause-kept
returns-then-not-has_all-clause-kept c =
    granted_kept c.args.holdings.now.cells c.mark_all.new.self.cells c.args.holdings.now.lists c.mark_all.new.self.lists c.args.owner c.args.accesses.now
    (apart_test c.args.owner 0 c.requires.apart)
    (given_after c.args.holdings.now.cells c.reserve.new.self.cells c.mark_all.new.self.cells c.args.owner c.args.accesses.now c.in_ok-has_all.ensures.lines c.in_ok-has_all.ensures.places c.mark_all.ensures.lines)
    (λ d u. c.mark_all.ensures.places d u ∙ c.in_ok-has_all.ensures.places d u)
    (λ u. ap (λ m. is_some (finite.get m u)) c.mark_all.ensures.lists ∙ c.reserve.ensures.still u) c.requires.kept

pub returns-then-not-has_all-clause-ok : goal.returns-then-not-has_all-clause-ok
returns-then-not-has_all-clause-ok c =
    granted c.args.holdings.now.cells c.mark_all.new.self.cells c.args.holdings.now.lists c.mark_all.new.self.lists c.args.owner c.args.accesses.now
    (apart_test c.args.owner 0 c.requires.apart)
    (given_after c.args.holdings.now.cells c.reserve.new.self.cells c.mark_all.new.self.cells c.args.owner c.args.accesses.now c.in_ok-has_all.ensures.lines c.in_ok-has_all.ensures.places c.mark_all.ensures.lines)
    (λ d u. c.mark_all.ensures.places d u ∙ c.in_ok-has_all.ensures.places d u)
    (λ u. ap (λ m. is_some (finite.get m u)) c.mark_all.ensures.lists ∙ c.reserve.ensures.still u) c.requires.kept

pub returns-else-not-has_all-clause-kept : goal.returns-else-not-has_all-clause-kept
returns-else-not-has_all-clause-kept c =
    granted_kept c.args.holdings.now.cells c.reserve.new.self.cells c.args.holdings.now.lists c.reserve.new.self.lists c.args.owner c.args.accesses.now
    (apart_test c.args.owner 0 c.requires.apart)
    (given_at_once c.args.holdings.now.cells c.reserve.new.self.cells c.args.owner c.args.accesses.now c.in_ok-has_all.ensures.lines (c.in_ok-has_all.ensures.all c.if-not-has_all.false))
    c.in_ok-has_all.ensures.places c.reserve.ensures.still c.requires.kept

pub returns-else-not-has_all-clause-ok : goal.returns-else-not-has_all-clause-ok
returns-else-not-has_all-clause-ok c =
    granted c.args.holdings.now.cells c.reserve.new.self.cells c.args.holdings.now.lists c.reserve.new.self.lists c.args.owner c.args.accesses.now
    (apart_test c.args.owner 0 c.requires.apart)
    (given_at_once c.args.holdings.now.cells c.reserve.new.self.cells c.args.owner c.args.accesses.now c.in_ok-has_all.ensures.lines (c.in_ok-has_all.ensures.all c.if-not-has_all.false))
    c.in_ok-has_all.ensures.places c.reserve.ensures.still c.requires.kept
