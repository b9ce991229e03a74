use Rattle.std.proofs.Common.{OnErr, option_copied, sym, subst}
use Rattle.ft_line.specs.declared.line.ScriptLine.{ScriptLine}
use Rattle.ft_names.specs.Names.{moment}
use Rattle.ft_strict.specs.Strict.{MayDo}
use Rattle.ft_strict.proofs.replying.reply_to_line.Goals as goal

pub returns-in-Request-clause-err : goal.returns-in-Request-clause-err
returns-in-Request-clause-err c =
    let old = moment c.args.core.now c.args.names.now in
    let new = moment c.reply_to_request.new.core c.reply_to_request.new.names in
    subst (λ (m : ScriptLine). OnErr c.reply_to_request.result (MayDo old m (option_copied c.args.given) new)) (sym c.in-Request.is) c.reply_to_request.ensures.err
