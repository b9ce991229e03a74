use Rattle.std.proofs.Common.{ap₂, refl, ◌∙◌}
use Rattle.std.proofs.lemmas.Result.{on_ok_weaker}
use Rattle.ft_copy.proofs.Stopping.{at_fault, if_err}
use Rattle.ft_copy.specs.Asked.{Folder}
use Rattle.ft_posix.specs.declared.call.Call.TheVariants as calls
use Rattle.ft_load.proofs.Scripting.{first_breaks, folder_fits, second_breaks, two_done}
use Rattle.ft_load.proofs.script.ScriptTarget.folder.Goals as goal

pub returns-in_err-ask-clause-err : goal.returns-in_err-ask-clause-err
returns-in_err-ask-clause-err g c =
    let self = c.args.self.now in
    let old = g.W.Write.contents self.writer in
    let new = g.W.Write.contents c.ask.new.self.writer in
    at_fault c.from_residual-in_err-ask.result c.from_residual-in_err-ask.ensures.1
    (λ t is. first_breaks self.form (Folder c.args.path.now c.args.attributes) self.next self.fd refl (folder_fits self.form.spelling c.args.path.now c.args.attributes c.in_ok-path_below.ensures.fits) _ _ _ _ (ap₂ calls.Mkdir c.in_ok-path_below.ensures.ok c.said_mode.ensures) c.in_ok-chown.ensures.ok refl t _ old new is c.in_err-ask.ensures.err)

pub returns-clause-ok : goal.returns-clause-ok
returns-clause-ok g c =
    let self = c.args.self.now in
    let old = g.W.Write.contents self.writer in
    let middle = g.W.Write.contents c.ask.new.self.writer in
    let new = g.W.Write.contents c.ask_if.new.self.writer in
    on_ok_weaker c.ask_if.result
    (λ asked. (
      two_done self.form (Folder c.args.path.now c.args.attributes) self.next self.fd refl (folder_fits self.form.spelling c.args.path.now c.args.attributes c.in_ok-path_below.ensures.fits) _ _ _ _ (ap₂ calls.Mkdir c.in_ok-path_below.ensures.ok c.said_mode.ensures) c.in_ok-chown.ensures.ok refl refl c.ask.new.self.form _ _ _ old middle new c.ask.ensures.form (c.ask_if.ensures.fd ∙ c.ask.ensures.fd) c.in_ok-ask.ensures.call asked,
      c.ask_if.ensures.form ∙ c.ask.ensures.form,
    ))
    c.ask_if.ensures.call

pub returns-clause-err : goal.returns-clause-err
returns-clause-err g c =
    let self = c.args.self.now in
    let old = g.W.Write.contents self.writer in
    let middle = g.W.Write.contents c.ask.new.self.writer in
    let new = g.W.Write.contents c.ask_if.new.self.writer in
    if_err c.ask_if.result
    (λ t failed. second_breaks self.form (Folder c.args.path.now c.args.attributes) self.next self.fd refl (folder_fits self.form.spelling c.args.path.now c.args.attributes c.in_ok-path_below.ensures.fits) _ _ _ _ (ap₂ calls.Mkdir c.in_ok-path_below.ensures.ok c.said_mode.ensures) c.in_ok-chown.ensures.ok refl t c.ask.new.self.form _ old middle new c.ask.ensures.form c.in_ok-ask.ensures.call failed)
    c.ask_if.ensures.err
