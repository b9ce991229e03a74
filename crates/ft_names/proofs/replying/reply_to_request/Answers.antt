use Rattle.std.proofs.Common.{◌++◌, ◌∷◌, [], inr, option_copied, refl, ap, ◌∙◌}
use Rattle.ft_line.specs.Texts.{text_of}
use Rattle.ft_names.specs.Names.{names_after}
use Rattle.ft_names.proofs.Answering.{on_err}
use Rattle.ft_names.proofs.replying.reply_to_request.Goals as goal

-- the request was carried out, and its answer has a text
pub returns-in_err-put_answer-clause-err : goal.returns-in_err-put_answer-clause-err
returns-in_err-put_answer-clause-err c =
    let answer = c.execute-answer.result in
    on_err _ (inr (text_of answer ++ 10 ∷ [], (answer, c.execute-answer.ensures, refl, c.give.ensures ∙ ap (names_after (option_copied c.args.given) answer) c.reserve.ensures.same)))

-- the same
pub returns-in_err-push_str-clause-err : goal.returns-in_err-push_str-clause-err
returns-in_err-push_str-clause-err c =
    let answer = c.execute-answer.result in
    on_err _ (inr (text_of answer ++ 10 ∷ [], (answer, c.execute-answer.ensures, refl, c.give.ensures ∙ ap (names_after (option_copied c.args.given) answer) c.reserve.ensures.same)))
