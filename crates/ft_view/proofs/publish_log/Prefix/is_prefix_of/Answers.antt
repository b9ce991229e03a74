use Rattle.std.proofs.Common.{List, ap, subst}
use mathlib.Core.List.{IsPrefix}
use Rattle.ft_posix.specs.declared.stamped.StampedCall.{StampedCall}
use Rattle.ft_view.proofs.Prefixes.{one_begins}
use Rattle.ft_view.proofs.publish_log.Prefix.is_prefix_of.Goals as goal

pub returns-clause-begins : goal.returns-clause-begins
returns-clause-begins c =
    let both = c.learn.new.self.log in
    let this : IsPrefix c.self.inside.seen.log both = subst (λ (l : List StampedCall). IsPrefix l both) (ap (λ s. s.log) c.again-both.ensures) c.learn.ensures.2 in
    rw (← c.self.view_is, ← c.other.view_is) (one_begins c.self.inside.seen.log c.other.inside.seen.log both c.self.inside.count c.other.inside.count c.self.invariant c.other.invariant this c.learn.ensures.3)
