use Rattle.std.proofs.Common.{◌≡◌, refl, sym, ap, subst, ◌∙◌, is_some}
use Rattle.std.specs.List.{list_any}
use Rattle.std.specs.Ordering.{nat_cmp}
use Rattle.std.specs.FinMap as finite
use Rattle.std.proofs.lemmas.List.{take_all}
use Rattle.std.proofs.lemmas.Result.{IfOk-weaker}
use Rattle.ft_lock_rules.specs.Blocking.{against, blocks}
use Rattle.ft_lock_rules.specs.Locks.{AreBlockers}
use Rattle.ft_lock_rules.specs.Seen.{table_of}
use Rattle.ft_lock_rules.proofs.InTheWay.{are_blockers}
use Rattle.ft_locks.proofs.GivenUp.{blockers-gone}
use Rattle.ft_locks.proofs.locks.Locks.blockers.Goals as goal

pub loop-access-init : goal.loop-access-init
loop-access-init c u = ap (λ m. finite.contains_key m u) c.new-found.ensures ∙ ap is_some (finite.get-empty nat_cmp u)

pub returns : goal.returns
returns c = IfOk-weaker _ (λ owners. owners.items ≡ finite.keys c.loop-access.found) _
    (λ owners are. subst (λ ys. AreBlockers c.args.rule c.args.self.now c.args.forest.now c.args.txn c.args.accesses.now ys) (sym are)
    (subst (λ t. AreBlockers c.args.rule t c.args.forest.now c.args.txn c.args.accesses.now (finite.keys c.loop-access.found)) c.self.view_is
    (blockers-gone c.self.inside.bulk_keeps_all c.self.inside.keeps_all c.self.inside.bulk (table_of c.self.inside.holdings.cells c.self.inside.holdings.lists) c.args.rule c.args.forest.now c.args.txn c.args.accesses.now (finite.keys c.loop-access.found)
    (are_blockers c.args.rule c.args.forest.now c.args.txn (table_of c.self.inside.holdings.cells c.self.inside.holdings.lists) c.self.inside.holdings.cells c.self.inside.holdings.lists refl c.args.accesses.now c.loop-access.found
    (λ u. c.loop-access.invariant u ∙ ap (λ xs. list_any (λ a. blocks (against c.args.rule c.args.forest.now c.args.txn) c.self.inside.holdings.cells a u) xs)
    (take_all c.loop-access.access-index c.args.accesses.now c.loop-access-test.false))))))
    c.sorted_owners.ensures
