use Rattle.std.proofs.Common.{ap, ◌∙◌}
use Rattle.std.specs.Ordering.{nat_cmp}
use Rattle.std.specs.FinMap as finite
use Rattle.ft_lock_rules.specs.CellLocks.{Owners}
use Rattle.ft_lock_rules.proofs.Lone.{alone_other}
use Rattle.ft_lock_rules.proofs.crowd.Crowd.of_two.Goals as goal

pub add-requires : goal.add-requires
add-requires c = ap (λ (m : Owners). finite.get m c.args.first.owner) c.new-crowd.ensures ∙ finite.get-empty nat_cmp c.args.first.owner

pub add-requires-2 : goal.add-requires-2
add-requires-2 c =
    ap (λ (m : Owners). finite.get m c.args.second.owner) (c.in_ok-add.ensures.ok ∙ ap (λ (m : Owners). finite.insert m c.args.first.owner c.args.first.marks) c.new-crowd.ensures)
    ∙ alone_other c.args.first c.args.second.owner c.requires
