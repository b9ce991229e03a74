use Rattle.std.proofs.Common.{◌≡◌, List, ap, ◌∙◌, rules}
use Rattle.std.proofs.lemmas.Fn.{filter_same}
use Rattle.ft_lock_rules.specs.declared.line.LockLine.{LockLine}
use Rattle.nuzolged.specs.Locks.{owned_by, text_of}
use Rattle.nuzolged.proofs.locks.text_of_locks.Goals as goal

pub returns : goal.returns
returns c =
    let all = c.in_ok-locks.locks.items in
    let kept : c.retain.new.self.items ≡ owned_by c.args.txn all = filter_same _ _ _ (λ x b f' k. search rules) _ _ c.retain.ensures.filtered in
    (all, c.in_ok-locks.ensures, c.in_ok-format.ensures.ok ∙ ap (λ (locks : List LockLine). text_of locks) (c.as_slice-own.ensures.value ∙ kept))
