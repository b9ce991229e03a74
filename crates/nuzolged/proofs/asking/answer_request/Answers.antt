use Rattle.std.proofs.Common.{subst, ap, ◌∙◌}
use Rattle.ft_core.specs.declared.request.Answer.{Answer}
use Rattle.ft_session.specs.declared.session.Session.{Session}
use Rattle.ft_session.specs.Sessions.{HasAnswered}
use Rattle.nuzolged.specs.Numbers.{told_of}
use Rattle.nuzolged.proofs.Carried.{asked}
use Rattle.nuzolged.proofs.asking.answer_request.Goals as goal

pub returns-in-Some : goal.returns-in-Some
returns-in-Some c = asked c.told_of-told.result c.args.tree.now.session c.put.new.self.session c.in-Some.session.value c.answer.new.self c.in-Some.ensures.taken c.put.ensures c.args.request
    (subst (λ (s : Session). (answer : Answer) × HasAnswered s c.args.request answer c.answer.new.self) c.deref_mut.ensures.value c.answer.ensures)
    (c.told_of-told.ensures ∙ ap (λ (s : Session). told_of s.last) c.deref.ensures)
