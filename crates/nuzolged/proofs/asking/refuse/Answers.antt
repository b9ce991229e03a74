use Rattle.std.proofs.Common.{subst, ap, ◌∙◌}
use Rattle.ft_core.specs.declared.request.Answer.{Answer}
use Rattle.ft_core.specs.declared.request.Request.TheVariants.{Ask}
use Rattle.ft_session.specs.declared.session.Session.{Session}
use Rattle.ft_session.specs.Sessions.{HasAnswered}
use Rattle.nuzolged.specs.Cuts.{cut_of}
use Rattle.nuzolged.specs.Asked.{limits_of}
use Rattle.nuzolged.specs.Numbers.{told_of}
use Rattle.nuzolged.proofs.Carried.{asked}
use Rattle.nuzolged.proofs.CutLaws.{whole_asked}
use Rattle.nuzolged.proofs.asking.refuse.Goals as goal

pub returns : goal.returns
returns c = λ whole.
    let cut = cut_of (limits_of c.args.tree.now.session) whole in
    whole_asked c.args.tree.now.session c.put.new.self.session c.args.txn c.told_of-told.result whole
    (asked c.told_of-told.result c.args.tree.now.session c.put.new.self.session c.in-Some.session.value c.refuse_ask.new.self c.in-Some.ensures.taken c.put.ensures (Ask c.args.txn cut)
    (subst (λ (s : Session). (answer : Answer) × HasAnswered s (Ask c.args.txn cut) answer c.refuse_ask.new.self) c.deref_mut.ensures.value (c.refuse_ask.ensures cut))
    (c.told_of-told.ensures ∙ ap (λ (s : Session). told_of s.last) c.deref.ensures))
