use Rattle.ft_lock_rules.proofs.HolderLists.{blank}
use Rattle.ft_lock_rules.proofs.HolderReaders.{index_more}
use Rattle.ft_lock_rules.proofs.crowd.index_of.Goals as goal

pub loop-place-preserved : goal.loop-place-preserved
loop-place-preserved c =
    index_more c.loop-place.index c.put.new.self c.args.list.now c.loop-place.place blank c.loop-place.invariant c.requires c.loop-place-test.true
    c.in_ok-put.ensures.places c.in_ok-put.ensures.later c.in_ok-put.ensures.writer
