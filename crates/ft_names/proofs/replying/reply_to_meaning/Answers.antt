use Rattle.std.proofs.Common.{OnErr, OnOk, option_copied, string_bytes, sym, subst}
use Rattle.ft_names.specs.declared.meaning.LineMeaning.{LineMeaning}
use Rattle.ft_names.specs.Names.{moment}
use Rattle.ft_names.specs.Lines.{MeaningGives, MeaningMayGive}
use Rattle.ft_names.proofs.Answering.{transfer_gives, transfer_may_give}
use Rattle.ft_names.proofs.replying.reply_to_meaning.Goals as goal

pub returns-in-Line-clause-ok : goal.returns-in-Line-clause-ok
returns-in-Line-clause-ok g c =
    let tells = g.F.DiskFiles.tells c.args.files.now in
    let old = moment c.args.core.now c.args.names.now in
    let new = moment c.reply_to_line.new.core c.reply_to_line.new.names in
    subst (λ (m : LineMeaning). OnOk c.reply_to_line.result (MeaningGives tells old m (option_copied c.args.line.given) (string_bytes c.reply_to_line.new.reply) new)) (sym c.in-Line.is) c.reply_to_line.ensures.ok

pub returns-in-Line-clause-err : goal.returns-in-Line-clause-err
returns-in-Line-clause-err g c =
    let tells = g.F.DiskFiles.tells c.args.files.now in
    let old = moment c.args.core.now c.args.names.now in
    let new = moment c.reply_to_line.new.core c.reply_to_line.new.names in
    subst (λ (m : LineMeaning). OnErr c.reply_to_line.result (MeaningMayGive tells old m (option_copied c.args.line.given) new)) (sym c.in-Line.is) c.reply_to_line.ensures.err

pub returns-in-Transfer-clause-ok : goal.returns-in-Transfer-clause-ok
returns-in-Transfer-clause-ok g c =
    let tells = g.F.DiskFiles.tells c.args.files.now in
    let old = moment c.args.core.now c.args.names.now in
    let new = moment c.reply_to_transfer.new.core c.args.names.now in
    let given = option_copied c.args.line.given in
    let text = string_bytes c.reply_to_transfer.new.reply in
    subst (λ (m : LineMeaning). OnOk c.reply_to_transfer.result (MeaningGives tells old m given text new)) (sym c.in-Transfer.is)
    (transfer_gives tells c.reply_to_transfer.result old new.0 c.in-Transfer.transfer given text c.reply_to_transfer.ensures.ok)

pub returns-in-Transfer-clause-err : goal.returns-in-Transfer-clause-err
returns-in-Transfer-clause-err g c =
    let tells = g.F.DiskFiles.tells c.args.files.now in
    let old = moment c.args.core.now c.args.names.now in
    let new = moment c.reply_to_transfer.new.core c.args.names.now in
    let given = option_copied c.args.line.given in
    subst (λ (m : LineMeaning). OnErr c.reply_to_transfer.result (MeaningMayGive tells old m given new)) (sym c.in-Transfer.is)
    (transfer_may_give tells c.reply_to_transfer.result old new.0 c.in-Transfer.transfer given c.reply_to_transfer.ensures.err)
