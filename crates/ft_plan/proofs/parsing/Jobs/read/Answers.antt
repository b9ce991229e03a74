use Rattle.std.proofs.Common.{rules}
use Rattle.ft_plan.proofs.Grouping.{stray}
use Rattle.ft_plan.proofs.parsing.Jobs.read.Goals as goal

-- a step before which no line stands is in no plan
pub returns-clause-bad : goal.returns-clause-bad
returns-clause-bad c bad lines jobs all =
    stray c.args.strict c.args.self.now c.args.line.now lines c.in-Some.words c.in_ok-said.said jobs (search rules) (search rules) (c.take.ensures.bad bad) all
