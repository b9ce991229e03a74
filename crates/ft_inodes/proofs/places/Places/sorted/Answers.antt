use Rattle.std.proofs.Common.{ap, ◌∙◌}
use Rattle.ft_inodes.specs.Named.{pairs_in}
use Rattle.ft_inodes.proofs.Ordered.{sorted-seen}
use Rattle.ft_inodes.proofs.places.Places.sorted.Goals as goal

pub returns : goal.returns
returns c = sorted-seen c.self.inside.places.items c.args.self.now c.in_ok-places.places.items c.sort_by_name.new.places.items c.self.view_is c.self.invariant.apart
    (c.in_ok-places.ensures ∙ ap (λ xs. pairs_in xs) c.deref.ensures.value) c.sort_by_name.ensures.same c.sort_by_name.ensures.rising
