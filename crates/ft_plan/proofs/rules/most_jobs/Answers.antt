use Rattle.std.proofs.Common.{sym, ap, ◌∙◌, cond}
use Rattle.ft_plan.proofs.rules.most_jobs.Goals as goal

pub returns-else-has_free : goal.returns-else-has_free
returns-else-has_free c = sym (ap (λ b. cond b 64 4096) (sym c.has_free.ensures ∙ c.if-has_free.false))
