use Rattle.std.proofs.Common.{subst}
use Rattle.ft_core.specs.declared.request.Request.TheVariants.{Ask}
use Rattle.ft_posix.specs.declared.call.Call.{Call}
use Rattle.nuzolged.specs.Asked.{IsAsked}
use Rattle.nuzolged.proofs.CutLaws.{whole_asked}
use Rattle.nuzolged.proofs.asking.call.Goals as goal

pub returns-clause-whole : goal.returns-clause-whole
returns-clause-whole c = λ whole is.
    whole_asked c.args.tree.now.session c.answer_request.new.tree.session c.args.txn c.answer_request.result whole
    (subst (λ (call : Call). IsAsked c.args.tree.now.session (Ask c.args.txn call) c.answer_request.result c.answer_request.new.tree.session) is c.answer_request.ensures)
