use Rattle.std.proofs.Common.{◌≡◌, map}
use Rattle.std.specs.Vec.Iter.{into_iter_items}
use Rattle.ft_posix.specs.Stored.{put_all}
use Rattle.ft_undo.specs.Undone.{given_back, CanGiveAllBack}
use Rattle.ft_undo.proofs.undo.revert.Given as goal

-- what is left can be given back, and then all is
abbrev pub invariant-loop-back : goal.invariant-loop-back
invariant-loop-back l =
    CanGiveAllBack l.tree (into_iter_items l.back-iterator) × (put_all l.tree (map given_back (into_iter_items l.back-iterator)) ≡ put_all l.initial.tree (map given_back l.fn.undo))
