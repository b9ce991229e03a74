use Rattle.std.proofs.Common.{false, nat_cmp, ap, subst, sym, ◌∙◌}
use Rattle.std.specs.Option.{is_some}
use Rattle.std.specs.FinMap as finite
use Rattle.ft_owned_lists.specs.OwnedLists.{list_in}
use Rattle.ft_lock_rules.specs.Holdings.{AreSingle}
use Rattle.ft_lock_rules.specs.Seen.{table_of}
use Rattle.ft_lock_rules.proofs.Handing.{seen_none}
use Rattle.ft_locks.specs.BulkReleased.{left_in, seen_as}
use Rattle.ft_locks.proofs.GivenUp.{gone-none}
use Rattle.ft_locks.proofs.locks.Locks.new.Goals as goal

pub open_zero-requires : goal.open_zero-requires
open_zero-requires c = ap (λ m. finite.contains_key m 0) c.new-holdings.ensures.lists ∙ ap is_some (finite.get-empty nat_cmp 0)

pub invariant_of-result : goal.invariant_of-result
invariant_of-result c = (
  (seen_none c.open_zero.new.self.cells c.open_zero.new.self.lists (c.open_zero.ensures.cells ∙ c.new-holdings.ensures.cells)
      (c.open_zero.ensures.lists ∙ ap (λ m. finite.insert m 0 (list_in m 0)) c.new-holdings.ensures.lists)).0,
  subst (λ g. AreSingle (left_in false g)) (sym c.new.ensures) tt,
)

pub returns : goal.returns
returns c =
    ap (seen_as false) (gone-none false c.new.result (table_of c.open_zero.new.self.cells c.open_zero.new.self.lists) c.new.ensures
    ∙ (seen_none c.open_zero.new.self.cells c.open_zero.new.self.lists (c.open_zero.ensures.cells ∙ c.new-holdings.ensures.cells)
    (c.open_zero.ensures.lists ∙ ap (λ m. finite.insert m 0 (list_in m 0)) c.new-holdings.ensures.lists)).1)
