use Rattle.std.proofs.Common.{◌≤◌, ◌≡◌, length, ◌∙◌, arith}
use Rattle.std.specs.FinMap as finite
use Rattle.ft_posix.specs.Accesses.{place_in}
use Rattle.ft_posix.proofs.Placing.{place-within, behind}
use Rattle.ft_looks.proofs.Noted.{said-in_order, put-noted, push-noted}
use Rattle.ft_looks.proofs.access_set.put.Goals as goal

pub overflow_sub-behind : goal.overflow_sub-behind
overflow_sub-behind c =
    let within : place_in c.args.access.cell c.args.list.now.items ≤ length c.args.list.now.items = place-within c.args.access.cell c.args.list.now.items in
    let len : c.len.result ≡ length c.args.list.now.items = c.len.ensures ∙ c.args.list.now.ok.0 in
    let place = c.requires.place in
    omega (arith, within, len, place)

pub returns-in_ok-push-clause-order : goal.returns-in_ok-push-clause-order
returns-in_ok-push-clause-order c =
    let within : place_in c.args.access.cell c.args.list.now.items ≤ length c.args.list.now.items = place-within c.args.access.cell c.args.list.now.items in
    let len : c.len.result ≡ length c.args.list.now.items = c.len.ensures ∙ c.args.list.now.ok.0 in
    let last : c.args.at ≡ length c.args.list.now.items = (let place = c.requires.place in let none = c.if-behind-eq0.true in omega (arith, within, len, place, none)) in
    said-in_order c.args.is_in_order.now c.push.new.self.items (put-noted c.args.access.cell c.args.access.mode c.args.list.now.items c.push.new.self.items c.args.at c.requires.order c.requires.place c.requires.missing
    (c.in_ok-push.ensures.items ∙ behind c.args.list.now.items c.args.at c.args.access last)).0

pub returns-in_ok-push-clause-noted : goal.returns-in_ok-push-clause-noted
returns-in_ok-push-clause-noted c = push-noted finite.empty c.args.access.cell c.args.access.mode c.args.list.now.items c.push.new.self.items c.in_ok-push.ensures.items

pub returns-in_ok-insert-clause-order : goal.returns-in_ok-insert-clause-order
returns-in_ok-insert-clause-order c =
    said-in_order c.args.is_in_order.now c.insert.new.self.items (put-noted c.args.access.cell c.args.access.mode c.args.list.now.items c.insert.new.self.items c.args.at c.requires.order c.requires.place c.requires.missing c.in_ok-insert.ensures.items).0

pub returns-in_ok-insert-clause-noted : goal.returns-in_ok-insert-clause-noted
returns-in_ok-insert-clause-noted c =
    (put-noted c.args.access.cell c.args.access.mode c.args.list.now.items c.insert.new.self.items c.args.at c.requires.order c.requires.place c.requires.missing c.in_ok-insert.ensures.items).1

pub returns-in_ok-push-2-clause-noted : goal.returns-in_ok-push-2-clause-noted
returns-in_ok-push-2-clause-noted c = push-noted finite.empty c.args.access.cell c.args.access.mode c.args.list.now.items c.push-else-behind-le-NEAR.new.self.items c.in_ok-push-2.ensures.items
