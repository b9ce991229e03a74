use Rattle.std.proofs.Common.{◌≡◌, ◌+◌, ◌*◌, [], ◌∷◌, ◌++◌, None, length}
use Rattle.std.specs.FinMap as finite
use Rattle.ft_waits.specs.Stands.{Stands}
use Rattle.ft_waits.specs.Waits.{IsPath}
use Rattle.ft_waits.specs.Walk.{KeepsRanks, path_txns}
use Rattle.ft_waits.proofs.walk.Walk.visit.Given as goal

-- the path up to `top`, with the walk around it
abbrev pub invariant-loop-next : goal.invariant-loop-next
invariant-loop-next l = record {
  edges : l.self.edges ≡ l.fn.self.edges;
  stands : Stands l.self (l.self.path.items ++ l.top ∷ []);
  path : IsPath l.self.edges.now (path_txns l.self.path.items) l.top.txn;
  gone : finite.get l.self.unseen l.fn.root ≡ None;
  keeps : KeepsRanks l.fn.self.ranks l.self.ranks;
}

-- each turn takes a transaction out of the unseen, or one off the path
abbrev pub decreases-loop-next : goal.decreases-loop-next
decreases-loop-next l = 2 * finite.len l.self.unseen + length l.self.path.items
