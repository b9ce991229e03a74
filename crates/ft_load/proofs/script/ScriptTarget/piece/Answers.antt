use Rattle.std.proofs.Common.{ap, None, refl, ◌∙◌}
use Rattle.std.proofs.lemmas.Result.{on_ok_weaker}
use Rattle.ft_copy.proofs.Stopping.{if_err}
use Rattle.ft_copy.specs.Asked.{Piece}
use Rattle.ft_posix.specs.declared.call.Call.TheVariants as calls
use Rattle.ft_load.proofs.Scripting.{first_breaks, one_done}
use Rattle.ft_load.proofs.script.ScriptTarget.piece.Goals as goal

pub returns-clause-ok : goal.returns-clause-ok
returns-clause-ok g c =
    let self = c.args.self.now in
    let old = g.W.Write.contents self.writer in
    let new = g.W.Write.contents c.ask.new.self.writer in
    on_ok_weaker c.ask.result
    (λ asked. (one_done self.form (Piece c.args.bytes.now) self.next self.fd refl (λ _ _. (tt, tt)) _ _ (ap (calls.Write self.fd) (c.into.ensures ∙ c.in_ok-bytes.ensures.items)) refl refl _ _ old new c.ask.ensures.fd asked, c.ask.ensures.form))
    c.ask.ensures.call

pub returns-clause-err : goal.returns-clause-err
returns-clause-err g c =
    let self = c.args.self.now in
    let old = g.W.Write.contents self.writer in
    let new = g.W.Write.contents c.ask.new.self.writer in
    if_err c.ask.result (λ trouble failed. first_breaks self.form (Piece c.args.bytes.now) self.next self.fd refl (λ _ _. (tt, tt)) _ _ None None (ap (calls.Write self.fd) (c.into.ensures ∙ c.in_ok-bytes.ensures.items)) refl refl trouble trouble old new refl failed) c.ask.ensures.err
