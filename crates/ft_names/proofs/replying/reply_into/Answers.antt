use Rattle.ft_names.specs.Names.{moment}
use Rattle.ft_names.specs.Meanings.{seen}
use Rattle.ft_names.proofs.Answering.{gives_text, may_give_text}
use Rattle.ft_names.proofs.replying.reply_into.Goals as goal

pub returns-clause-ok : goal.returns-clause-ok
returns-clause-ok g c =
    gives_text (g.F.DiskFiles.tells c.args.files.now) c.reply_to_meaning.result (moment c.args.core.now c.args.names.now) (moment c.reply_to_meaning.new.core c.reply_to_meaning.new.names) c.args.line.now _ (seen c.in_ok-line.line) c.in_ok-line.ensures c.reply_to_meaning.ensures.ok

pub returns-clause-err : goal.returns-clause-err
returns-clause-err g c =
    may_give_text (g.F.DiskFiles.tells c.args.files.now) c.reply_to_meaning.result (moment c.args.core.now c.args.names.now) (moment c.reply_to_meaning.new.core c.reply_to_meaning.new.names) c.args.line.now (seen c.in_ok-line.line) c.in_ok-line.ensures c.reply_to_meaning.ensures.err
