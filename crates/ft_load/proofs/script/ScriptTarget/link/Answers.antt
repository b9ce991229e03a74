use Rattle.std.proofs.Common.{ap₂, None, refl}
use Rattle.ft_copy.proofs.Stopping.{if_err}
use Rattle.ft_copy.specs.Asked.{Link}
use Rattle.ft_posix.specs.declared.call.Call.TheVariants as calls
use Rattle.ft_load.proofs.Scripting.{first_breaks}
use Rattle.ft_load.proofs.script.ScriptTarget.link.Goals as goal

pub returns-clause-err : goal.returns-clause-err
returns-clause-err g c =
    let self = c.args.self.now in
    let old = g.W.Write.contents self.writer in
    let new = g.W.Write.contents c.ask.new.self.writer in
    if_err c.ask.result (λ trouble failed. first_breaks self.form (Link c.args.first.now c.args.path.now) self.next self.fd refl (λ _ _. ((c.in_ok-path_below.ensures.fits, c.in_ok-path_below-2.ensures.fits), tt)) _ _ None None (ap₂ calls.Link c.in_ok-path_below.ensures.ok c.in_ok-path_below-2.ensures.ok) refl refl trouble trouble old new refl failed) c.ask.ensures.err
