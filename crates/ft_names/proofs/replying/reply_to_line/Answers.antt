use Rattle.std.proofs.Common.{OnErr, OnOk, option_copied, string_bytes, sym, subst}
use Rattle.ft_line.specs.declared.line.ScriptLine.{ScriptLine}
use Rattle.ft_names.specs.Names.{moment}
use Rattle.ft_names.specs.Lines.{Gives, MayGive}
use Rattle.ft_names.proofs.replying.reply_to_line.Goals as goal

pub returns-in-Request-clause-ok : goal.returns-in-Request-clause-ok
returns-in-Request-clause-ok c =
    let old = moment c.args.core.now c.args.names.now in
    let new = moment c.reply_to_request.new.core c.reply_to_request.new.names in
    subst (λ (m : ScriptLine). OnOk c.reply_to_request.result (Gives old m (option_copied c.args.given) (string_bytes c.reply_to_request.new.reply) new)) (sym c.in-Request.is) c.reply_to_request.ensures.ok

pub returns-in-Request-clause-err : goal.returns-in-Request-clause-err
returns-in-Request-clause-err c =
    let old = moment c.args.core.now c.args.names.now in
    let new = moment c.reply_to_request.new.core c.reply_to_request.new.names in
    subst (λ (m : ScriptLine). OnErr c.reply_to_request.result (MayGive old m (option_copied c.args.given) new)) (sym c.in-Request.is) c.reply_to_request.ensures.err
