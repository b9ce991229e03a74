use Rattle.std.proofs.Common.{List, length}
use Rattle.std.specs.List.{flat_map}
use Rattle.ft_copy.specs.Asked.{DoesAll}
use Rattle.ft_copy.specs.Runs.{LinksTo, Visit, asked_of}
use Rattle.ft_copy.specs.Walks.{standing}
use Rattle.ft_copy.proofs.linking.make_links.Given as goal

-- links were made one after another, and for just that the target was asked
abbrev pub invariant-loop-link : goal.invariant-loop-link
invariant-loop-link g l =
    (links : List Visit) × LinksTo l.fn.limits (g.S.Source.tells l.fn.source) (standing l.initial.walk) links (standing l.walk)
    × DoesAll g.T.Target.does l.initial.target (flat_map asked_of links) l.target

abbrev pub decreases-loop-link : goal.decreases-loop-link
decreases-loop-link g l = length l.walk.links.items
