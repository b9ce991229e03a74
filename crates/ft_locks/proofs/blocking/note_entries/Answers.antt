use Rattle.std.proofs.Common.{◌||◌, ap, take_all, get_or, ◌∙◌}
use Rattle.std.specs.List.{list_any}
use Rattle.std.specs.FinMap as finite
use Rattle.ft_lock_rules.specs.Blocking.{against, is_holder_in_way}
use Rattle.ft_lock_rules.proofs.InTheWay.{way_under, noted_more, noted_none, noted_all}
use Rattle.ft_locks.proofs.blocking.note_entries.Goals as goal

pub returns-in_default : goal.returns-in_default
returns-in_default c = λ u.
    noted_none (finite.contains_key c.args.found.now u)
    ∙ ap (λ b. finite.contains_key c.args.found.now u || b)
    (noted_all (against c.args.asker.now.rule c.args.forest.now c.args.asker.now.txn) c.cells-cells.result.now c.args.holdings.now.cells c.cells-cells.ensures c.args.dir _ c.in_default.ensures c.args.mode u)

pub loop-key-init : goal.loop-key-init
loop-key-init c = λ u. noted_none (finite.contains_key c.args.found.now u)

pub loop-key-preserved : goal.loop-key-preserved
loop-key-preserved c = λ u.
    let counted = against c.args.asker.now.rule c.args.forest.now c.args.asker.now.txn in
    c.in_ok-note_holders.ensures u
    ∙ ap (λ o. finite.contains_key c.loop-key.found u || is_holder_in_way counted o c.args.mode u) c.under.ensures
    ∙ ap (λ b. b || way_under counted c.cells-cells.result.now (get_or c.deref-key-items.result.now c.loop-key.key-index 0) c.args.mode u) (c.loop-key.invariant u)
    ∙ noted_more (finite.contains_key c.args.found.now u) (λ key. way_under counted c.cells-cells.result.now key c.args.mode u) c.deref-key-items.result.now c.loop-key.key-index c.loop-key-test.true

pub returns : goal.returns
returns c = λ u.
    let counted = against c.args.asker.now.rule c.args.forest.now c.args.asker.now.txn in
    c.loop-key.invariant u
    ∙ ap (λ b. finite.contains_key c.args.found.now u || b)
    (ap (λ keys. list_any (λ key. way_under counted c.cells-cells.result.now key c.args.mode u) keys) (take_all c.loop-key.key-index c.deref-key-items.result.now c.loop-key-test.false ∙ c.deref-key-items.ensures.value)
    ∙ noted_all counted c.cells-cells.result.now c.args.holdings.now.cells c.cells-cells.ensures c.args.dir _ c.in-Some.ensures c.args.mode u)
