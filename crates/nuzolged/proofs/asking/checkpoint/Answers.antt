use Rattle.std.proofs.Common.{subst, sym, ap, ◌∙◌}
use Rattle.ft_core.specs.declared.request.Answer.{Answer}
use Rattle.ft_core.specs.declared.request.Request.TheVariants.{Checkpoint}
use Rattle.ft_session.specs.declared.session.Session.{Session}
use Rattle.ft_session.specs.Sessions.{HasAnswered}
use Rattle.nuzolged.specs.Numbers.{told_of}
use Rattle.nuzolged.proofs.Carried.{asked, wants_none}
use Rattle.nuzolged.proofs.asking.checkpoint.Goals as goal

pub returns-clause-asked : goal.returns-clause-asked
returns-clause-asked c = asked c.told_of-told.result c.args.tree.now.session c.put.new.self.session c.in-Some.session.value c.checkpoint.new.self c.in-Some.ensures.taken c.put.ensures Checkpoint
    (subst (λ (s : Session). (answer : Answer) × HasAnswered s Checkpoint answer c.checkpoint.new.self) c.deref_mut.ensures.value c.checkpoint.ensures.asked)
    (c.told_of-told.ensures ∙ ap (λ (s : Session). told_of s.last) c.deref.ensures)

pub returns-clause-memory : goal.returns-clause-memory
returns-clause-memory c = λ e. wants_none c.checkpoint.new.self.last c.checkpoint.ensures.live (sym (c.told_of-told.ensures ∙ ap (λ (s : Session). told_of s.last) c.deref.ensures) ∙ e)
