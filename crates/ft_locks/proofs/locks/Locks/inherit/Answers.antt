use Rattle.std.proofs.Common.{◌≡◌, ℕ, refl, sym, is_some, ap, subst, ◌∙◌}
use Rattle.std.specs.FinMap as finite
use Rattle.ft_cells.specs.declared.cell.Cell.{Cell}
use Rattle.ft_lock_rules.specs.Cells.{marks_at, after_hand}
use Rattle.ft_lock_rules.specs.Locks.{LockTable, is_opened, AreInherited}
use Rattle.ft_lock_rules.specs.Seen.{table_of}
use Rattle.ft_lock_rules.proofs.Handing.{opened_open, inherit_kept, inherit_view, inherited_marked}
use Rattle.ft_lock_rules.proofs.Tables.{locked-seen}
use Rattle.ft_locks.specs.BulkReleased.{with_bulk, seen_as}
use Rattle.ft_locks.proofs.GivenUp.{inherited-gone, seen-inherited}
use Rattle.ft_locks.proofs.locks.Locks.inherit.Goals as goal

pub hand_over-requires-clause-there : goal.hand_over-requires-clause-there
hand_over-requires-clause-there c =
    ap (λ u. is_some (finite.get c.self.inside.holdings.lists u)) c.child.view_is
    ∙ (opened_open (table_of c.self.inside.holdings.cells c.self.inside.holdings.lists) c.self.inside.holdings.cells c.self.inside.holdings.lists refl c.args.child (ap (λ t. is_opened t c.args.child) c.self.view_is ∙ c.requires.child)).1

pub hand_over-requires-clause-open : goal.hand_over-requires-clause-open
hand_over-requires-clause-open c =
    ap (λ u. is_some (finite.get c.self.inside.holdings.lists u)) c.parent.view_is
    ∙ (opened_open (table_of c.self.inside.holdings.cells c.self.inside.holdings.lists) c.self.inside.holdings.cells c.self.inside.holdings.lists refl c.args.parent (ap (λ t. is_opened t c.args.parent) c.self.view_is ∙ c.requires.parent)).1

pub invariant_of-self : goal.invariant_of-self
invariant_of-self c = (
  inherit_kept (table_of c.self.inside.holdings.cells c.self.inside.holdings.lists) c.self.inside.holdings.cells c.self.inside.holdings.lists refl c.self.invariant.0
      c.hand_over.new.self.cells c.hand_over.new.self.lists c.hand_over.ensures.still c.close.new.self.cells c.close.new.self.lists c.close.ensures.cells
      c.args.child c.args.parent _ _ c.child.view_is c.parent.view_is (ap (λ t. is_opened t c.args.child) c.self.view_is ∙ c.requires.child) (ap (λ t. is_opened t c.args.parent) c.self.view_is ∙ c.requires.parent)
      c.requires.apart c.hand_over.ensures.marks c.close.ensures.lists,
  c.self.invariant.1,
)

pub returns : goal.returns
returns c =
    let m = c.self.inside.holdings.cells in
    let t = (table_of c.self.inside.holdings.cells c.self.inside.holdings.lists) in
    let child_open = ap (λ x. is_opened x c.args.child) c.self.view_is ∙ c.requires.child in
    let parent_open = ap (λ x. is_opened x c.args.parent) c.self.view_is ∙ c.requires.parent in
    let s = table_of c.close.new.self.cells c.close.new.self.lists in
    let after : (d : Cell) (u : ℕ) → marks_at c.close.new.self.cells d u ≡ after_hand c.args.child c.args.parent (marks_at m d) u = λ d u.
    ap (λ x. marks_at x d u) c.close.ensures.cells ∙ c.hand_over.ensures.marks d u ∙ (λ i. after_hand (c.child.view_is i) (c.parent.view_is i) (marks_at m d) u) in
    subst (λ (x : LockTable). AreInherited x (seen_as c.self.inside.keeps_all (with_bulk c.self.inside.bulk_keeps_all c.self.inside.bulk s)) c.args.child c.args.parent) c.self.view_is
    (seen-inherited c.self.inside.keeps_all (with_bulk c.self.inside.bulk_keeps_all c.self.inside.bulk t) (with_bulk c.self.inside.bulk_keeps_all c.self.inside.bulk s) c.args.child c.args.parent
    (inherited-gone c.self.inside.bulk_keeps_all c.self.inside.bulk t s
    (λ d. locked-seen c.close.new.self.cells c.close.new.self.lists d
    ∙ inherited_marked m c.close.new.self.cells c.args.child c.args.parent
    (opened_open t m c.self.inside.holdings.lists refl c.args.child child_open).0 (opened_open t m c.self.inside.holdings.lists refl c.args.parent parent_open).0 c.requires.apart after d
    ∙ sym (locked-seen m c.self.inside.holdings.lists d))
    c.args.child c.args.parent
    (inherit_view t m c.self.inside.holdings.lists refl c.self.invariant.0
    c.hand_over.new.self.cells c.hand_over.new.self.lists c.hand_over.ensures.still c.close.new.self.cells c.close.new.self.lists c.close.ensures.cells
    c.args.child c.args.parent _ _ c.child.view_is c.parent.view_is child_open parent_open c.requires.apart c.hand_over.ensures.marks c.close.ensures.lists)))
