use Rattle.std.proofs.Common.{◌+◌, length, drop, IsSome, is_some, ap, sym, ◌∙◌, add-one}
use Rattle.std.specs.FinMap as finite
use Rattle.ft_owned_lists.specs.OwnedLists.{list_in}
use Rattle.ft_lock_rules.specs.Cells.{marks_at}
use Rattle.ft_lock_rules.specs.Holdings.{Held, cells_under, lists_under}
use Rattle.ft_locks.proofs.Slots.{if_known, and_some}
use Rattle.ft_lock_rules.proofs.Joining.{first_is, none_first, list_there, list_elsewhere, open_if_listed, still-insert, still-twice, joined-merged, joined-moved, none_placed, popped_is, moved_is}
use Rattle.ft_lock_rules.proofs.Under.{open-under, list-under, popped-under, moved-under, front, joined-with, used-same, used-insert}
use Rattle.ft_locks.proofs.holdings.Holdings.hand_front.Goals as goal

pub returns-in_default-clause-done : goal.returns-in_default-clause-done
returns-in_default-clause-done c = λ _.
    sym (ap (λ (h : Held). list_in h.lists c.args.from) c.self.view_is) ∙ list-under c.self.inside.cells.at c.self.inside.chains c.args.from
    ∙ ap (cells_under c.self.inside.cells.at) (none_first (list_in c.self.inside.chains c.args.from) c.in_default.ensures)

pub returns-in_default-clause-gone : goal.returns-in_default-clause-gone
returns-in_default-clause-gone c = λ _ d.
    sym (ap (λ (h : Held). marks_at h.cells d c.args.from) c.self.view_is)
    ∙ none_placed c.self.inside.cells.cells (lists_under c.self.inside.cells.at c.self.inside.chains) c.self.invariant.joined c.args.from
    (list-under c.self.inside.cells.at c.self.inside.chains c.args.from ∙ ap (cells_under c.self.inside.cells.at) (none_first (list_in c.self.inside.chains c.args.from) c.in_default.ensures)) d

pub hand_over-requires-clause-there : goal.hand_over-requires-clause-there
hand_over-requires-clause-there c =
    let newest = front c.self.inside.cells c.self.inside.chains c.self.invariant c.args.from c.in-Some.key.now _ (first_is (list_in c.self.inside.chains c.args.from) c.in-Some.key.now c.in-Some.ensures) in
    and_some (finite.get c.self.inside.cells.at c.in-Some.key.now) newest.cell (λ d. IsSome (marks_at c.self.inside.cells.cells d c.args.from)) newest.is newest.placed

pub invariant_of-self : goal.invariant_of-self
invariant_of-self c =
    let rest = drop 1 (list_in c.self.inside.chains c.args.from) in
    let lists = lists_under c.self.inside.cells.at c.self.inside.chains in
    let first = first_is (list_in c.self.inside.chains c.args.from) c.in-Some.key.now c.in-Some.ensures in
    let newest = front c.self.inside.cells c.self.inside.chains c.self.invariant c.args.from c.in-Some.key.now _ first in
    let known = finite.get c.self.inside.cells.at c.in-Some.key.now in
    joined-with c.self.inside.cells.at c.hand_over.new.self c.discard_front.new.chains _ c.hand_over.ensures.at
    (ap (lists_under c.self.inside.cells.at) c.discard_front.ensures ∙ popped-under c.self.inside.cells.at c.self.inside.chains c.args.from c.in-Some.key.now rest first)
    (joined-merged c.self.inside.cells.cells newest.cell c.args.from c.args.to c.hand_over.new.self.cells (if_known known newest.cell _ newest.is c.hand_over.ensures.after) lists _ newest.list c.self.invariant.joined
    (sym (if_known known newest.cell _ newest.is c.if-hand_over.ensures.merged)))
    (used-same c.self.inside.cells.at _ c.discard_front.new.chains (c.discard_front.ensures ∙ popped_is c.self.inside.chains c.args.from c.in-Some.key.now rest first)
    (used-insert c.self.inside.cells.at c.self.inside.chains c.args.from rest c.self.invariant.used newest.used))

pub invariant_of-self-else-hand_over : goal.invariant_of-self-else-hand_over
invariant_of-self-else-hand_over c =
    let rest = drop 1 (list_in c.self.inside.chains c.args.from) in
    let lists = lists_under c.self.inside.cells.at c.self.inside.chains in
    let first = first_is (list_in c.self.inside.chains c.args.from) c.in-Some.key.now c.in-Some.ensures in
    let newest = front c.self.inside.cells c.self.inside.chains c.self.invariant c.args.from c.in-Some.key.now _ first in
    let known = finite.get c.self.inside.cells.at c.in-Some.key.now in
    joined-with c.self.inside.cells.at c.hand_over.new.self c.move_front.new.self _ c.hand_over.ensures.at
    (ap (lists_under c.self.inside.cells.at) c.move_front.ensures ∙ moved-under c.self.inside.cells.at c.self.inside.chains c.args.from c.args.to c.in-Some.key.now rest newest.cell newest.is first)
    (joined-moved c.self.inside.cells.cells newest.cell c.args.from c.args.to c.hand_over.new.self.cells (if_known known newest.cell _ newest.is c.hand_over.ensures.after) lists _ newest.list c.self.invariant.joined
    (sym (if_known known newest.cell _ newest.is c.if-hand_over.ensures.merged)) c.requires.apart)
    (used-same c.self.inside.cells.at _ c.move_front.new.self (c.move_front.ensures ∙ moved_is c.self.inside.chains c.args.from c.args.to c.in-Some.key.now rest first)
    (used-insert c.self.inside.cells.at (finite.insert c.self.inside.chains c.args.from rest) c.args.to _
    (used-insert c.self.inside.cells.at c.self.inside.chains c.args.from rest c.self.invariant.used newest.used) (ap is_some newest.is, c.self.invariant.used c.args.to)))

pub move_front-requires-clause-target_open : goal.move_front-requires-clause-target_open
move_front-requires-clause-target_open c =
    sym (open-under c.self.inside.cells.at c.self.inside.chains c.args.to) ∙ ap (λ (h : Held). is_some (finite.get h.lists c.args.to)) c.self.view_is ∙ c.requires.open

pub returns-then-hand_over-clause-fewer : goal.returns-then-hand_over-clause-fewer
returns-then-hand_over-clause-fewer c = λ _.
    let first = first_is (list_in c.self.inside.chains c.args.from) c.in-Some.key.now c.in-Some.ensures in
    let rest = drop 1 (list_in c.self.inside.chains c.args.from) in
    let lists = lists_under c.self.inside.cells.at c.self.inside.chains in
    let cells = cells_under c.self.inside.cells.at rest in
    let newest = front c.self.inside.cells c.self.inside.chains c.self.invariant c.args.from c.in-Some.key.now _ first in
    let seen = ap (λ a. lists_under a c.discard_front.new.chains) c.hand_over.ensures.at ∙ ap (lists_under c.self.inside.cells.at) c.discard_front.ensures ∙ popped-under c.self.inside.cells.at c.self.inside.chains c.args.from c.in-Some.key.now rest first in
    sym (ap (λ (h : Held). length (list_in h.lists c.args.from)) c.self.view_is) ∙ ap (λ l. length l) newest.list ∙ sym (add-one (length cells))
    ∙ sym (ap (λ m. length (list_in m c.args.from) + 1) seen ∙ ap (λ l. length l + 1) (list_there lists c.args.from cells))

pub returns-then-hand_over-clause-still : goal.returns-then-hand_over-clause-still
returns-then-hand_over-clause-still c = λ u.
    let first = first_is (list_in c.self.inside.chains c.args.from) c.in-Some.key.now c.in-Some.ensures in
    let rest = drop 1 (list_in c.self.inside.chains c.args.from) in
    let lists = lists_under c.self.inside.cells.at c.self.inside.chains in
    let newest = front c.self.inside.cells c.self.inside.chains c.self.invariant c.args.from c.in-Some.key.now _ first in
    let seen = ap (λ a. lists_under a c.discard_front.new.chains) c.hand_over.ensures.at ∙ ap (lists_under c.self.inside.cells.at) c.discard_front.ensures ∙ popped-under c.self.inside.cells.at c.self.inside.chains c.args.from c.in-Some.key.now rest first in
    ap (λ m. is_some (finite.get m u)) seen
    ∙ still-insert lists c.args.from _ (open_if_listed lists c.args.from newest.cell _ newest.list) u
    ∙ ap (λ (h : Held). is_some (finite.get h.lists u)) c.self.view_is

pub returns-else-hand_over-clause-fewer : goal.returns-else-hand_over-clause-fewer
returns-else-hand_over-clause-fewer c = λ _.
    let first = first_is (list_in c.self.inside.chains c.args.from) c.in-Some.key.now c.in-Some.ensures in
    let rest = drop 1 (list_in c.self.inside.chains c.args.from) in
    let lists = lists_under c.self.inside.cells.at c.self.inside.chains in
    let cells = cells_under c.self.inside.cells.at rest in
    let newest = front c.self.inside.cells c.self.inside.chains c.self.invariant c.args.from c.in-Some.key.now _ first in
    let seen = ap (λ a. lists_under a c.move_front.new.self) c.hand_over.ensures.at ∙ ap (lists_under c.self.inside.cells.at) c.move_front.ensures ∙ moved-under c.self.inside.cells.at c.self.inside.chains c.args.from c.args.to c.in-Some.key.now rest newest.cell newest.is first in
    sym (ap (λ (h : Held). length (list_in h.lists c.args.from)) c.self.view_is) ∙ ap (λ l. length l) newest.list ∙ sym (add-one (length cells))
    ∙ sym (ap (λ m. length (list_in m c.args.from) + 1) seen
    ∙ ap (λ l. length l + 1) (list_elsewhere (finite.insert lists c.args.from cells) c.args.to _ c.args.from c.requires.apart ∙ list_there lists c.args.from cells))

pub returns-else-hand_over-clause-still : goal.returns-else-hand_over-clause-still
returns-else-hand_over-clause-still c = λ u.
    let first = first_is (list_in c.self.inside.chains c.args.from) c.in-Some.key.now c.in-Some.ensures in
    let rest = drop 1 (list_in c.self.inside.chains c.args.from) in
    let lists = lists_under c.self.inside.cells.at c.self.inside.chains in
    let newest = front c.self.inside.cells c.self.inside.chains c.self.invariant c.args.from c.in-Some.key.now _ first in
    let seen = ap (λ a. lists_under a c.move_front.new.self) c.hand_over.ensures.at ∙ ap (lists_under c.self.inside.cells.at) c.move_front.ensures ∙ moved-under c.self.inside.cells.at c.self.inside.chains c.args.from c.args.to c.in-Some.key.now rest newest.cell newest.is first in
    ap (λ m. is_some (finite.get m u)) seen
    ∙ still-twice lists c.args.from c.args.to _ _ (open_if_listed lists c.args.from newest.cell _ newest.list)
    (ap (λ (h : Held). is_some (finite.get h.lists c.args.to)) c.self.view_is ∙ c.requires.open) u
    ∙ ap (λ (h : Held). is_some (finite.get h.lists u)) c.self.view_is
