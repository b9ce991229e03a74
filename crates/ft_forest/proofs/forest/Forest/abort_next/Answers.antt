use Rattle.std.proofs.Common.{◌≡◌, true}
use Rattle.ft_forest.specs.Transactions.{over_in}
use Rattle.ft_forest.proofs.Aborting.{fewer-live, one-more, is-last, no_deeper, through}
use Rattle.ft_forest.proofs.forest.Forest.abort_next.Goals as goal

-- what stands at or below the place of the search stands at or below t
below : (c : goal.After-end) → over_in c.args.self.now c.args.txn c.in-Some.next ≡ true
below c = through c.args.self.now c.search_from-from.ensures.forest c.args.txn c.search_from-from.result c.in-Some.next c.search_from-from.ensures.below c.in-Some.ensures.next.below

pub returns-clause-next : goal.returns-clause-next
returns-clause-next c = record { below = below c; live = c.in-Some.ensures.next.live; no_child = c.in-Some.ensures.next.no_child }

pub returns-clause-lowest : goal.returns-clause-lowest
returns-clause-lowest c = no_deeper c.args.self.now c.search_from-from.ensures.forest c.search_from-from.ensures.live_parent c.in-Some.next c.in-Some.ensures.next.no_child

pub returns-clause-last : goal.returns-clause-last
returns-clause-last c = is-last c.args.self.now c.end.new.self c.in-Some.next c.in-Some.ensures.next.live c.end.ensures c.search_from-from.ensures.forest c.search_from-from.ensures.live_parent c.args.txn (below c)

pub returns-clause-fewer : goal.returns-clause-fewer
returns-clause-fewer c = fewer-live c.args.self.now c.end.new.self c.in-Some.next c.in-Some.ensures.next.live c.end.ensures

pub returns-clause-way : goal.returns-clause-way
returns-clause-way c = λ start. one-more c.args.self.now c.end.new.self c.in-Some.next c.in-Some.ensures.next.live c.end.ensures start c.args.txn (below c)
