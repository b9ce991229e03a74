use Rattle.ft_lock_rules.proofs.HolderPlaces.{looked, looked_none}
use Rattle.ft_lock_rules.proofs.crowd.find.Goals as goal

pub returns-in-None-clause-some : goal.returns-in-None-clause-some
returns-in-None-clause-some c = looked c.args.list.now c.args.owner c.place_of.result c.place_of.ensures

pub returns-in-None-clause-none : goal.returns-in-None-clause-none
returns-in-None-clause-none c = looked_none c.args.list.now c.args.owner c.place_of.result c.place_of.ensures
