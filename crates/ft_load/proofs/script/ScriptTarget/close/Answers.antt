use Rattle.std.proofs.Common.{refl, ◌∙◌}
use Rattle.std.proofs.lemmas.Result.{on_ok_weaker}
use Rattle.ft_copy.proofs.Stopping.{at_fault, if_err}
use Rattle.ft_load.proofs.Scripting.{close_breaks, close_done, time_breaks}
use Rattle.ft_load.proofs.script.ScriptTarget.close.Goals as goal

pub returns-in_err-ask_if-clause-err : goal.returns-in_err-ask_if-clause-err
returns-in_err-ask_if-clause-err g c =
    let self = c.args.self.now in
    let old = g.W.Write.contents self.writer in
    let new = g.W.Write.contents c.ask_if.new.self.writer in
    at_fault c.from_residual.result c.from_residual.ensures.1
    (λ t is. time_breaks self.form c.args.time c.futime_of.result self.next self.fd c.futime_of.ensures t _ old new is c.in_err-ask_if.ensures.err)

pub returns-clause-ok : goal.returns-clause-ok
returns-clause-ok g c =
    let self = c.args.self.now in
    let old = g.W.Write.contents self.writer in
    let middle = g.W.Write.contents c.ask_if.new.self.writer in
    let new = g.W.Write.contents c.ask.new.self.writer in
    on_ok_weaker c.ask.result
    (λ closed. (
      close_done self.form c.args.time c.futime_of.result self.next self.fd c.futime_of.ensures c.ask_if.new.self.form _ _ _ old middle new c.ask_if.ensures.form (c.ask.ensures.fd ∙ c.ask_if.ensures.fd)
          c.in_ok-ask_if.ensures.call closed,
      c.ask.ensures.form ∙ c.ask_if.ensures.form,
    ))
    c.ask.ensures.call

pub returns-clause-err : goal.returns-clause-err
returns-clause-err g c =
    let self = c.args.self.now in
    let old = g.W.Write.contents self.writer in
    let middle = g.W.Write.contents c.ask_if.new.self.writer in
    let new = g.W.Write.contents c.ask.new.self.writer in
    if_err c.ask.result
    (λ t failed. close_breaks self.form c.args.time c.futime_of.result self.next self.fd c.futime_of.ensures t c.ask_if.new.self.form _ old middle new c.ask_if.ensures.form c.in_ok-ask_if.ensures.call failed)
    c.ask.ensures.err
