use Rattle.std.proofs.Common.{rules, ◌≡◌, ◌++◌, None, ap, inl, refl, sym, ◌∙◌}
use Rattle.std.proofs.lemmas.Result.{on_ok_weaker}
use Rattle.ft_copy.specs.Asked.{Start}
use Rattle.ft_copy.proofs.Stopping.{at_fault, if_err}
use Rattle.ft_load.specs.Spellings.{begin_line}
use Rattle.ft_load.proofs.Scripting.{breaks_before, start_breaks, start_done}
use Rattle.ft_needs.specs.Lines.{needs_text}
use Rattle.ft_load.proofs.script.ScriptTarget.start.Goals as goal

pub returns-in_err-front-clause-err : goal.returns-in_err-front-clause-err
returns-in_err-front-clause-err g c =
    let self = c.args.self.now in
    at_fault c.from_residual.result c.from_residual.ensures.1 (λ t is. breaks_before self.form t _ Start self.next self.fd (g.W.Write.contents self.writer) is (inl refl))

pub returns-in_default-clause-ok : goal.returns-in_default-clause-ok
returns-in_default-clause-ok g c =
    let self = c.args.self.now in
    let needs = needs_text self.form.limits in
    let text : c.as_str.result.now ≡ needs ++ begin_line self.form.spelling = c.as_str.ensures.value ∙ c.in_ok-front.ensures.ok ∙ ap (λ l. needs ++ l) c.begin_line.ensures in
    let none : c.in_ok-call.field-0 ≡ None = search rules in
    let old = g.W.Write.contents self.writer in
    let new = g.W.Write.contents c.say.new.self.writer in
    on_ok_weaker c.say.result
    (λ said. (start_done self.form self.next self.fd (sym c.in_ok-call.ensures.ok ∙ none) c.as_str.result.now text old new _ _ said c.say.ensures.next c.say.ensures.fd, c.say.ensures.form)) c.say.ensures.text

pub returns-in_default-clause-err : goal.returns-in_default-clause-err
returns-in_default-clause-err g c =
    let self = c.args.self.now in
    let needs = needs_text self.form.limits in
    let text : c.as_str.result.now ≡ needs ++ begin_line self.form.spelling = c.as_str.ensures.value ∙ c.in_ok-front.ensures.ok ∙ ap (λ l. needs ++ l) c.begin_line.ensures in
    let none : c.in_ok-call.field-0 ≡ None = search rules in
    let old = g.W.Write.contents self.writer in
    let new = g.W.Write.contents c.say.new.self.writer in
    if_err c.say.result (λ trouble failed. start_breaks self.form self.next self.fd (sym c.in_ok-call.ensures.ok ∙ none) c.as_str.result.now text trouble old new failed) c.say.ensures.err
