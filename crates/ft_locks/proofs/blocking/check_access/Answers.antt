use Rattle.std.proofs.Common.{◌≡◌, ◌||◌, Bool, true, false, refl, sym, ap, ◌∙◌}
use Rattle.std.specs.FinMap as finite
use Rattle.ft_lock_rules.specs.Blocking.{against, is_in_way}
use Rattle.ft_lock_rules.proofs.InTheWay.{ahead_is}
use Rattle.ft_lock_rules.proofs.Places.{marks-found, marks-missing}
use Rattle.ft_lock_rules.proofs.Surveys.{none_noted, noted_both, holds_one}
use Rattle.ft_locks.specs.declared.blocking.Asker.{Asker}
use Rattle.ft_locks.proofs.blocking.check_access.Goals.{in-Some+in_ok-note_list, in_default}
use Rattle.ft_locks.proofs.blocking.check_access.Goals as goal

pub returns-then-suffice_for-clause-noted : goal.returns-then-suffice_for-clause-noted
returns-then-suffice_for-clause-noted c =
    let m = c.args.holdings.now.cells in
    let a = c.args.access.now in
    none_noted c.args.asker.now.rule m c.args.forest.now c.args.asker.now.txn c.requires.alone c.requires.no_holder a c.in-Some-get.own
    (c.in-Some-get.ensures ∙ ap (λ (a : Asker). finite.get c.in-Some.holders.now a.txn) c.asker.view_is ∙ marks-found m a.cell c.in-Some.holders.now c.in-Some.ensures c.args.asker.now.txn)
    (sym c.suffice_for.ensures ∙ c.if-suffice_for.true) c.args.found.now

pub returns-then-suffice_for-clause-held : goal.returns-then-suffice_for-clause-held
returns-then-suffice_for-clause-held c has =
    let m = c.args.holdings.now.cells in
    let a = c.args.access.now in
    holds_one m c.args.asker.now.txn a c.in-Some-get.own
    (c.in-Some-get.ensures ∙ ap (λ (a : Asker). finite.get c.in-Some.holders.now a.txn) c.asker.view_is ∙ marks-found m a.cell c.in-Some.holders.now c.in-Some.ensures c.args.asker.now.txn)
    (sym c.has.ensures ∙ has)

pub returns-clause-noted : goal.returns-clause-noted
returns-clause-noted c =
    let m = c.args.holdings.now.cells in
    let a = c.args.access.now in
    let before = c.args.found.now in
    let counted = against c.args.asker.now.rule c.args.forest.now c.args.asker.now.txn in
    noted_both before c.match-holders.found c.note_beside.new.found counted m a
    (elim c.match-holders.branch [
      | in-Some+in_ok-note_list w ↦ λ u.
          ap (λ f. finite.contains_key f u) w.found-is
          ∙ w.in_ok-note_list.ensures u
          ∙ ap (λ b. finite.contains_key before u || b)
          (ahead_is c.args.asker.now.rule c.args.forest.now c.args.asker.now.txn w.may_conflict.result.now w.in-Some.holders.now a.mode w.may_conflict.ensures.all w.may_conflict.ensures.had w.may_conflict.ensures.apart u
          ∙ ap (λ o. is_in_way counted u o a.mode) (marks-found m a.cell w.in-Some.holders.now w.in-Some.ensures u))
      | in_default w ↦ λ u.
          ap (λ f. finite.contains_key f u) w.found-is
          ∙ unnoted (finite.contains_key before u)
          ∙ ap (λ o. finite.contains_key before u || is_in_way counted u o a.mode) (sym (marks-missing m a.cell w.in_default.ensures u))
    ])
    c.in_ok-note_beside.ensures
  where
    unnoted : (a : Bool) → a ≡ (a || false)
    unnoted true = refl
    unnoted false = refl
