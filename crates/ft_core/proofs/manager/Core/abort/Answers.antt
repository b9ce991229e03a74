use Rattle.std.proofs.Common.{Ok, ap}
use Rattle.std.proofs.lemmas.Bool.{false≢true}
use Rattle.ft_core.proofs.manager.Core.abort.Goals as goal

pub returns-clause-alone : goal.returns-clause-alone
returns-clause-alone c = λ before alone. (ap Ok c.in_ok-abort_in_full.ensures.calls, (c.in_ok-abort_in_full.ensures.alone before alone).1)

pub returns-in_err-abort_in_full-clause-alone : goal.returns-in_err-abort_in_full-clause-alone
returns-in_err-abort_in_full-clause-alone c = λ before alone. absurd (false≢true (c.in_err-abort_in_full.ensures.alone before alone).0)
