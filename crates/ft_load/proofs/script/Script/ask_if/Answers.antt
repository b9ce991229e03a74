use Rattle.std.proofs.Common.{[], ◌∷◌, IfErr, Option, sym, subst}
use Rattle.std.specs.Option.{option_to_list}
use Rattle.ft_copy.proofs.Stopping.{if_err}
use Rattle.ft_posix.specs.declared.call.Call.{Call}
use Rattle.ft_load.specs.Scripts.{FailsToAskAll}
use Rattle.ft_load.proofs.Scripting.{fails_one}
use Rattle.ft_load.proofs.script.Script.ask_if.Goals as goal

pub returns-in-Some-clause-err : goal.returns-in-Some-clause-err
returns-in-Some-clause-err g c =
    let self = c.args.self.now in
    let old = g.W.Write.contents self.writer in
    let new = g.W.Write.contents c.ask.new.self.writer in
    subst (λ (call : Option Call). IfErr c.ask.result (λ trouble. FailsToAskAll self.form trouble (option_to_list call) self.next old new)) (sym c.in-Some.is)
    (if_err c.ask.result (λ trouble failed. fails_one self.form trouble c.in-Some.call self.next old new failed) c.ask.ensures.err)
