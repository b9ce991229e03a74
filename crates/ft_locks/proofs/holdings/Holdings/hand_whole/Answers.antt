use Rattle.std.proofs.Common.{is_some, ap, sym, subst, ◌∙◌}
use Rattle.std.specs.List.{list_any}
use Rattle.std.specs.FinMap as finite
use Rattle.ft_owned_lists.specs.OwnedLists.{list_in}
use Rattle.ft_cells.specs.CellOrder.{same_cell}
use Rattle.ft_lock_rules.specs.Holdings.{Held, AreSingle, AreUsed, cells_under, lists_under}
use Rattle.ft_lock_rules.proofs.Whole.{whole_gone, whole_still, joined-whole}
use Rattle.ft_lock_rules.proofs.Under.{open-under, list-under, spliced-under, joined-with, used-same, used-spliced}
use Rattle.ft_locks.proofs.holdings.Holdings.hand_whole.Goals as goal

pub hand_all-requires-clause-used : goal.hand_all-requires-clause-used
hand_all-requires-clause-used c = subst (AreUsed c.self.inside.cells.at) (sym c.values.ensures) (c.self.invariant.used c.args.from)

pub hand_all-requires-clause-single : goal.hand_all-requires-clause-single
hand_all-requires-clause-single c =
    subst AreSingle (sym (ap (cells_under c.self.inside.cells.at) c.values.ensures ∙ sym (list-under c.self.inside.cells.at c.self.inside.chains c.args.from))) (c.self.invariant.joined.single c.args.from)

pub hand_all-requires-clause-listed : goal.hand_all-requires-clause-listed
hand_all-requires-clause-listed c = λ d.
    ap (λ l. list_any (same_cell d) l) (ap (cells_under c.self.inside.cells.at) c.values.ensures ∙ sym (list-under c.self.inside.cells.at c.self.inside.chains c.args.from)) ∙ c.self.invariant.joined.listed c.args.from d

pub splice-requires-clause-source_open : goal.splice-requires-clause-source_open
splice-requires-clause-source_open c =
    sym (open-under c.self.inside.cells.at c.self.inside.chains c.args.from) ∙ ap (λ (h : Held). is_some (finite.get h.lists c.args.from)) c.self.view_is ∙ c.requires.there

pub splice-requires-clause-target_open : goal.splice-requires-clause-target_open
splice-requires-clause-target_open c =
    sym (open-under c.self.inside.cells.at c.self.inside.chains c.args.to) ∙ ap (λ (h : Held). is_some (finite.get h.lists c.args.to)) c.self.view_is ∙ c.requires.open

pub invariant_of-self : goal.invariant_of-self
invariant_of-self c =
    joined-with c.self.inside.cells.at c.hand_all.new.cells c.splice.new.self _ c.hand_all.ensures.at
    (ap (lists_under c.self.inside.cells.at) c.splice.ensures ∙ spliced-under c.self.inside.cells.at c.self.inside.chains c.args.from c.args.to)
    (joined-whole (lists_under c.self.inside.cells.at c.self.inside.chains) c.args.from c.args.to c.requires.apart (ap (λ (h : Held). list_in h.lists c.args.to) c.self.view_is ∙ c.requires.none)
    c.self.inside.cells.cells c.hand_all.new.cells.cells c.self.invariant.joined c.hand_all.ensures.marks)
    (used-same c.self.inside.cells.at _ c.splice.new.self c.splice.ensures (used-spliced c.self.inside.cells.at c.self.inside.chains c.args.from c.args.to c.self.invariant.used))

pub returns-clause-list : goal.returns-clause-list
returns-clause-list c =
    ap (λ m. list_in m c.args.from)
    (ap (λ a. lists_under a c.splice.new.self) c.hand_all.ensures.at ∙ ap (lists_under c.self.inside.cells.at) c.splice.ensures ∙ spliced-under c.self.inside.cells.at c.self.inside.chains c.args.from c.args.to)
    ∙ whole_gone (lists_under c.self.inside.cells.at c.self.inside.chains) c.args.from c.args.to c.requires.apart (ap (λ (h : Held). list_in h.lists c.args.to) c.self.view_is ∙ c.requires.none)

pub returns-clause-still : goal.returns-clause-still
returns-clause-still c = λ u.
    ap (λ m. is_some (finite.get m u))
    (ap (λ a. lists_under a c.splice.new.self) c.hand_all.ensures.at ∙ ap (lists_under c.self.inside.cells.at) c.splice.ensures ∙ spliced-under c.self.inside.cells.at c.self.inside.chains c.args.from c.args.to)
    ∙ whole_still (lists_under c.self.inside.cells.at c.self.inside.chains) c.args.from c.args.to c.requires.apart (ap (λ (h : Held). list_in h.lists c.args.to) c.self.view_is ∙ c.requires.none)
    (ap (λ (h : Held). is_some (finite.get h.lists c.args.from)) c.self.view_is ∙ c.requires.there)
    (ap (λ (h : Held). is_some (finite.get h.lists c.args.to)) c.self.view_is ∙ c.requires.open) u
    ∙ ap (λ (h : Held). is_some (finite.get h.lists u)) c.self.view_is
