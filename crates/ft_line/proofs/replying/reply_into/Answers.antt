use Rattle.std.proofs.Common.{◌++◌, ◌∷◌, [], Result, Ok, Err, OnErr, inr, refl, ◌∙◌, sym, subst}
use Rattle.ft_line.specs.declared.line.ScriptLine.{ScriptLine}
use Rattle.ft_line.specs.Lines.{GivesText}
use Rattle.ft_line.specs.Texts.{text_of}
use Rattle.ft_line.proofs.replying.reply_into.Goals as goal

on_err : {T E Q : Type 0} (r : Result T E) → Q → OnErr r Q
on_err (Ok x) q = tt
on_err (Err e) q = q

-- the request was carried out, and its answer has a text
pub returns-in_err-put_answer-in-Request-clause-err : goal.returns-in_err-put_answer-in-Request-clause-err
returns-in_err-put_answer-in-Request-clause-err c =
    let text = text_of c.execute-answer.result ++ 10 ∷ [] in
    let is = sym c.in-Request.is ∙ c.in_ok-parse_line.ensures in
    on_err _ (inr (text, subst (λ (m : ScriptLine). GivesText c.args.core.now.state m text c.execute-answer.new.core.state) is (c.execute-answer.result, c.execute-answer.ensures, refl)))

-- the same
pub returns-in_err-push_str-in-Request-clause-err : goal.returns-in_err-push_str-in-Request-clause-err
returns-in_err-push_str-in-Request-clause-err c =
    let text = text_of c.execute-answer.result ++ 10 ∷ [] in
    let is = sym c.in-Request.is ∙ c.in_ok-parse_line.ensures in
    on_err _ (inr (text, subst (λ (m : ScriptLine). GivesText c.args.core.now.state m text c.execute-answer.new.core.state) is (c.execute-answer.result, c.execute-answer.ensures, refl)))
