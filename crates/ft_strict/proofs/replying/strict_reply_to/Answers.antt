use Rattle.ft_names.specs.Names.{moment}
use Rattle.ft_names.specs.Meanings.{seen}
use Rattle.ft_strict.proofs.Answering.{on_err, strictly}
use Rattle.ft_strict.proofs.replying.strict_reply_to.Goals as goal

pub returns-in_err-text-clause-err : goal.returns-in_err-text-clause-err
returns-in_err-text-clause-err g c =
    on_err _
    (strictly (g.F.DiskFiles.tells c.args.files.now) (moment c.args.core.now c.args.names.now) (moment c.reply_to_meaning.new.core c.reply_to_meaning.new.names) c.args.line.now (seen c.in_ok-line.line.named) c.in_ok-line.ensures.meaning c.in_err-text.ensures.err)
