use Rattle.std.proofs.Common.{ℕ, List, subst, ◌∙◌}
use Rattle.std.proofs.lemmas.Result.{on_ok_weaker}
use Rattle.ft_copy.proofs.Stopping.{at_fault, if_err}
use Rattle.ft_copy.specs.Asked.{Finish}
use Rattle.ft_load.specs.Scripts.{FailsToSay, Says}
use Rattle.ft_load.proofs.Scripting.{breaks_before, chmod_breaks, chown_breaks, commit_breaks, finish_done}
use Rattle.ft_load.proofs.script.ScriptTarget.finish.Goals as goal

pub returns-in_err-chown-clause-err : goal.returns-in_err-chown-clause-err
returns-in_err-chown-clause-err g c =
    let self = c.args.self.now in
    at_fault c.from_residual-in_err-chown.result c.from_residual-in_err-chown.ensures.1
    (λ t is. breaks_before self.form t _ (Finish c.args.attributes) self.next self.fd (g.W.Write.contents self.writer) is c.in_err-chown.ensures.err)

pub returns-in_err-ask_if-clause-err : goal.returns-in_err-ask_if-clause-err
returns-in_err-ask_if-clause-err g c =
    let self = c.args.self.now in
    let old = g.W.Write.contents self.writer in
    let new = g.W.Write.contents c.ask_if.new.self.writer in
    at_fault c.from_residual-in_err-ask_if.result c.from_residual-in_err-ask_if.ensures.1
    (λ t is. chmod_breaks self.form c.args.attributes c.in_ok-chmod.chmod c.in_ok-chown.chown self.next self.fd c.in_ok-chmod.ensures.ok c.in_ok-chown.ensures.ok c.in_ok-chmod.ensures.fits c.in_ok-chown.ensures.fits t _ old new is c.in_err-ask_if.ensures.err)

pub returns-in_err-ask_if-2-clause-err : goal.returns-in_err-ask_if-2-clause-err
returns-in_err-ask_if-2-clause-err g c =
    let self = c.args.self.now in
    let old = g.W.Write.contents self.writer in
    let middle = g.W.Write.contents c.ask_if.new.self.writer in
    let new = g.W.Write.contents c.ask_if-2.new.self.writer in
    at_fault c.from_residual-in_err-ask_if-2.result c.from_residual-in_err-ask_if-2.ensures.1
    (λ t is. chown_breaks self.form c.args.attributes c.in_ok-chmod.chmod c.in_ok-chown.chown self.next self.fd c.in_ok-chmod.ensures.ok c.in_ok-chown.ensures.ok c.in_ok-chmod.ensures.fits c.in_ok-chown.ensures.fits t _ c.ask_if.new.self.form _ old middle new
    c.ask_if.ensures.form is c.in_ok-ask_if.ensures.call c.in_err-ask_if-2.ensures.err)

pub returns-clause-ok : goal.returns-clause-ok
returns-clause-ok g c =
    let self = c.args.self.now in
    let old = g.W.Write.contents self.writer in
    let moded = g.W.Write.contents c.ask_if.new.self.writer in
    let owned = g.W.Write.contents c.ask_if-2.new.self.writer in
    let new = g.W.Write.contents c.say.new.self.writer in
    on_ok_weaker c.say.result
    (λ said. (
      finish_done self.form c.args.attributes c.in_ok-chmod.chmod c.in_ok-chown.chown self.next self.fd c.in_ok-chmod.ensures.ok c.in_ok-chown.ensures.ok c.in_ok-chmod.ensures.fits c.in_ok-chown.ensures.fits c.ask_if.new.self.form _ _ _ _ old moded owned new
          c.ask_if.ensures.form c.say.ensures.next (c.say.ensures.fd ∙ c.ask_if-2.ensures.fd ∙ c.ask_if.ensures.fd) c.in_ok-ask_if.ensures.call c.in_ok-ask_if-2.ensures.call
          (subst (λ (text : List ℕ). Says text owned new) c.commit_line.ensures said),
      c.say.ensures.form ∙ c.ask_if-2.ensures.form ∙ c.ask_if.ensures.form,
    ))
    c.say.ensures.text

pub returns-clause-err : goal.returns-clause-err
returns-clause-err g c =
    let self = c.args.self.now in
    let old = g.W.Write.contents self.writer in
    let moded = g.W.Write.contents c.ask_if.new.self.writer in
    let owned = g.W.Write.contents c.ask_if-2.new.self.writer in
    let new = g.W.Write.contents c.say.new.self.writer in
    if_err c.say.result
    (λ t failed. commit_breaks self.form c.args.attributes c.in_ok-chmod.chmod c.in_ok-chown.chown self.next self.fd c.in_ok-chmod.ensures.ok c.in_ok-chown.ensures.ok c.in_ok-chmod.ensures.fits c.in_ok-chown.ensures.fits t c.ask_if.new.self.form _ _ old moded owned new
    c.ask_if.ensures.form c.in_ok-ask_if.ensures.call c.in_ok-ask_if-2.ensures.call (subst (λ (text : List ℕ). FailsToSay t text owned new) c.commit_line.ensures failed))
    c.say.ensures.err
