use Rattle.std.proofs.Common.{◌++◌, ◌∷◌, [], inr, refl}
use Rattle.ft_line.specs.Texts.{text_of}
use Rattle.ft_line.specs.Wells.{is_well}
use Rattle.ft_strict.proofs.Answering.{on_err}
use Rattle.ft_strict.proofs.replying.reply_to_request.Goals as goal

-- the request was carried out, and its answer has a text
pub returns-in_err-text-clause-err : goal.returns-in_err-text-clause-err
returns-in_err-text-clause-err c =
    let answer = c.in_ok-answer.answer in
    on_err _ (inr (is_well answer, text_of answer ++ 10 ∷ [], (answer, c.in_ok-answer.ensures.ok, refl, refl, c.in_ok-answer.ensures.names)))
