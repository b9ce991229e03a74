use Rattle.std.proofs.Common.{ℕ, cond, ◌==◌, [], ◌∷◌, ◌++◌, Some, None, sym, ap, ◌∙◌, append-nil}
use Rattle.ft_serial.specs.Asked.{calls_in}
use Rattle.ft_serial.proofs.Placing.{on_err, behind, either}
use Rattle.ft_serial.proofs.asked.push_call.Goals as goal

pub returns-in_err-push-clause-err : goal.returns-in_err-push-clause-err
returns-in_err-push-clause-err c = on_err c.from_residual.result _ (λ t.
    behind c.args.table.now c.top.inside.0 c.push.new.self [] (Some c.in-Some.calls.now) (sym c.in-Some.ensures.value) (c.in_err-push.ensures.items ∙ sym (append-nil c.in-Some.calls.now.items)) t
    ∙ ap (λ xs. cond (t == c.top.inside.0) xs (calls_in c.args.table.now t)) (append-nil (calls_in c.args.table.now t)) ∙ either (t == c.top.inside.0) (calls_in c.args.table.now t))

pub returns-in-Some-clause-ok : goal.returns-in-Some-clause-ok
returns-in-Some-clause-ok c = λ t.
    behind c.args.table.now c.top.inside.0 c.push.new.self (c.args.call ∷ []) (Some c.in-Some.calls.now) (sym c.in-Some.ensures.value) c.in_ok-push.ensures.items t
    ∙ ap (λ (n : ℕ). cond (t == n) (calls_in c.args.table.now t ++ c.args.call ∷ []) (calls_in c.args.table.now t)) c.top.view_is

pub returns-clause-ok : goal.returns-clause-ok
returns-clause-ok c = λ t.
    ap (λ m. calls_in m t) c.in_ok-insert.ensures.ok
    ∙ behind c.args.table.now c.top.inside.0 c.push-2.new.self (c.args.call ∷ []) None (sym c.in_default.ensures.value) (c.in_ok-push-2.ensures.items ∙ ap (λ xs. xs ++ c.args.call ∷ []) c.new-calls.ensures.items) t
    ∙ ap (λ (n : ℕ). cond (t == n) (calls_in c.args.table.now t ++ c.args.call ∷ []) (calls_in c.args.table.now t)) c.top.view_is
