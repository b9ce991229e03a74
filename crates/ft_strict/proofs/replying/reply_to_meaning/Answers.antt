use Rattle.std.proofs.Common.{IfOk, OnErr, option_copied, string_bytes, sym, subst}
use Rattle.ft_names.specs.declared.meaning.LineMeaning.{LineMeaning}
use Rattle.ft_names.specs.Names.{moment}
use Rattle.ft_strict.specs.Strict.{MeaningDoes, MeaningMayDo}
use Rattle.ft_strict.proofs.Answering.{transfer_does, transfer_may_do}
use Rattle.ft_strict.proofs.replying.reply_to_meaning.Goals as goal

pub returns-in-Line-clause-ok : goal.returns-in-Line-clause-ok
returns-in-Line-clause-ok g c =
    let tells = g.F.DiskFiles.tells c.args.files.now in
    let old = moment c.args.core.now c.args.names.now in
    let new = moment c.reply_to_line.new.core c.reply_to_line.new.names in
    subst (λ (m : LineMeaning). IfOk c.reply_to_line.result (λ reply. MeaningDoes tells reply.1 old m (option_copied c.args.line.given) (string_bytes reply.0) new)) (sym c.in-Line.is) c.reply_to_line.ensures.ok

pub returns-in-Line-clause-err : goal.returns-in-Line-clause-err
returns-in-Line-clause-err g c =
    let tells = g.F.DiskFiles.tells c.args.files.now in
    let old = moment c.args.core.now c.args.names.now in
    let new = moment c.reply_to_line.new.core c.reply_to_line.new.names in
    subst (λ (m : LineMeaning). OnErr c.reply_to_line.result (MeaningMayDo tells old m (option_copied c.args.line.given) new)) (sym c.in-Line.is) c.reply_to_line.ensures.err

pub returns-in-Transfer-clause-ok : goal.returns-in-Transfer-clause-ok
returns-in-Transfer-clause-ok g c =
    let tells = g.F.DiskFiles.tells c.args.files.now in
    let old = moment c.args.core.now c.args.names.now in
    let new = moment c.reply_to_transfer.new.core c.args.names.now in
    let given = option_copied c.args.line.given in
    subst (λ (m : LineMeaning). IfOk c.reply_to_transfer.result (λ reply. MeaningDoes tells reply.1 old m given (string_bytes reply.0) new)) (sym c.in-Transfer.is)
    (transfer_does tells (λ reply. string_bytes reply.0) (λ reply. reply.1) c.reply_to_transfer.result old new.0 c.in-Transfer.transfer given c.reply_to_transfer.ensures.ok)

pub returns-in-Transfer-clause-err : goal.returns-in-Transfer-clause-err
returns-in-Transfer-clause-err g c =
    let tells = g.F.DiskFiles.tells c.args.files.now in
    let old = moment c.args.core.now c.args.names.now in
    let new = moment c.reply_to_transfer.new.core c.args.names.now in
    let given = option_copied c.args.line.given in
    subst (λ (m : LineMeaning). OnErr c.reply_to_transfer.result (MeaningMayDo tells old m given new)) (sym c.in-Transfer.is)
    (transfer_may_do tells c.reply_to_transfer.result old new.0 c.in-Transfer.transfer given c.reply_to_transfer.ensures.err)
