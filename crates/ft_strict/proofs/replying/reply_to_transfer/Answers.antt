use Rattle.ft_strict.proofs.Answering.{transfer_untold}
use Rattle.ft_strict.proofs.replying.reply_to_transfer.Goals as goal

pub returns-in_err-put_transfer_answer-clause-err : goal.returns-in_err-put_transfer_answer-clause-err
returns-in_err-put_transfer_answer-clause-err g c =
    transfer_untold (g.F.DiskFiles.tells c.args.files.now) c.from_residual.result c.args.core.now.state c.carry_out-answer.new.core.state c.args.transfer c.carry_out-answer.result c.carry_out-answer.ensures

pub returns-in_err-push_str-clause-err : goal.returns-in_err-push_str-clause-err
returns-in_err-push_str-clause-err g c =
    transfer_untold (g.F.DiskFiles.tells c.args.files.now) c.from_residual-in_err-push_str.result c.args.core.now.state c.carry_out-answer.new.core.state c.args.transfer c.carry_out-answer.result c.carry_out-answer.ensures
