use Rattle.std.proofs.Common.{◌||◌, ap, sym, ◌∙◌}
use Rattle.std.specs.Option.{option_copied}
use Rattle.std.specs.Ordering.{nat_cmp}
use Rattle.std.specs.FinMap as finite
use Rattle.ft_lock_rules.specs.Blocking.{against, is_in_way, is_holder_in_way}
use Rattle.ft_lock_rules.proofs.Cases.{ok_then}
use Rattle.ft_lock_rules.proofs.InTheWay.{ahead_is, noted_none}
use Rattle.ft_locks.proofs.blocking.note_holders.Goals as goal

pub returns-in-Some : goal.returns-in-Some
returns-in-Some c =
    let counted = against c.args.asker.now.rule c.args.forest.now c.args.asker.now.txn in
    ok_then c.note_list.result _ _
    (λ (noted : _) u. noted u ∙ ap (λ b. finite.contains_key c.args.found.now u || b)
    (ahead_is c.args.asker.now.rule c.args.forest.now c.args.asker.now.txn c.may_conflict.result.now c.in-Some.holders.now c.args.mode c.may_conflict.ensures.all c.may_conflict.ensures.had c.may_conflict.ensures.apart u)
    ∙ ap (λ o. finite.contains_key c.args.found.now u || is_holder_in_way counted (option_copied o) c.args.mode u) (sym c.in-Some.is))
    c.note_list.ensures

pub returns-in-None : goal.returns-in-None
returns-in-None c = λ u.
    let counted = against c.args.asker.now.rule c.args.forest.now c.args.asker.now.txn in
    noted_none (finite.contains_key c.args.found.now u)
    ∙ ap (λ o. finite.contains_key c.args.found.now u || is_in_way counted u o c.args.mode) (sym (finite.get-empty nat_cmp u))
    ∙ ap (λ o. finite.contains_key c.args.found.now u || is_holder_in_way counted (option_copied o) c.args.mode u) (sym c.in-None.is)
