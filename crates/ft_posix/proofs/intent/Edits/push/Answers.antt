use Rattle.std.proofs.Common.{sym, subst}
use Rattle.ft_posix.specs.Within.{AreWithin}
use Rattle.ft_posix.proofs.Withins.{within-more}
use Rattle.ft_posix.proofs.intent.Edits.push.Goals as goal

pub invariant_of-self : goal.invariant_of-self
invariant_of-self c = subst AreWithin (sym c.in_err-push.ensures.err) c.self.invariant

pub invariant_of-self-2 : goal.invariant_of-self-2
invariant_of-self-2 c = subst AreWithin (sym c.in_ok-push.ensures.ok) (within-more c.self.inside.items c.args.edit c.self.invariant c.requires)
