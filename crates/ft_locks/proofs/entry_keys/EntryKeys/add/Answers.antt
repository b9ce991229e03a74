use Rattle.std.proofs.Common.{◌==◌, ◌&&◌, ◌++◌, ◌∷◌, [], length, cond, Some, None, ap, sym, ◌∙◌}
use Rattle.std.specs.List.{slice_get}
use Rattle.ft_locks.specs.EntryKeys.{listed_keys, key_at}
use Rattle.ft_lock_rules.proofs.Cases.{on_any}
use Rattle.ft_locks.proofs.EntryKeys.{list-changed, both_same, both_tests, get-pushed, get-past}
use Rattle.ft_locks.proofs.entry_keys.EntryKeys.add.Goals as goal

pub returns-in_err-push-clause-err : goal.returns-in_err-push-clause-err
returns-in_err-push-clause-err c = on_any c.from_residual.result _ (λ t.
    list-changed c.args.self.now.keys c.args.dir c.push.new.self (Some c.in-Some.keys.now) (λ p o. o) c.in-Some.ensures.value (λ p. ap (λ xs. slice_get xs p) c.in_err-push.ensures.items) t
    ∙ both_same (t.0 == c.args.dir) (key_at c.args.self.now.keys t.0 t.1))

pub returns-in-Some-clause-free : goal.returns-in-Some-clause-free
returns-in-Some-clause-free c =
    sym (ap (λ o. slice_get (listed_keys o) c.len-place.result) c.in-Some.ensures.value)
    ∙ ap (slice_get c.in-Some.keys.now.items) (c.len-place.ensures ∙ c.in-Some.keys.now.ok.0) ∙ get-past c.in-Some.keys.now.items

pub returns-in-Some-clause-ok : goal.returns-in-Some-clause-ok
returns-in-Some-clause-ok c = λ t.
    let keys = c.in-Some.keys.now.items in
    list-changed c.args.self.now.keys c.args.dir c.push.new.self (Some c.in-Some.keys.now) (λ p o. cond (p == length c.in-Some.keys.now.items) (Some c.args.key) o) c.in-Some.ensures.value
    (λ p. ap (λ xs. slice_get xs p) c.in_ok-push.ensures.items ∙ get-pushed keys c.args.key p) t
    ∙ both_tests (t.0 == c.args.dir) (t.1 == length keys) (Some c.args.key) (key_at c.args.self.now.keys t.0 t.1)
    ∙ ap (λ n. cond ((t.0 == c.args.dir) && (t.1 == n)) (Some c.args.key) (key_at c.args.self.now.keys t.0 t.1)) (sym (c.len-place.ensures ∙ c.in-Some.keys.now.ok.0))

pub returns-clause-ok : goal.returns-clause-ok
returns-clause-ok c = λ t.
    ap (λ m. key_at m t.0 t.1) c.in_ok-insert.ensures.ok
    ∙ list-changed c.args.self.now.keys c.args.dir c.push-2.new.self None (λ p o. cond (p == 0) (Some c.args.key) o) c.in_default.ensures.value
    (λ p. ap (λ xs. slice_get xs p) (c.in_ok-push-2.ensures.items ∙ ap (λ xs. xs ++ c.args.key ∷ []) c.new-keys.ensures.items) ∙ get-pushed [] c.args.key p) t
    ∙ both_tests (t.0 == c.args.dir) (t.1 == 0) (Some c.args.key) (key_at c.args.self.now.keys t.0 t.1)
