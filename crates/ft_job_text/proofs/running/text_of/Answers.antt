use Rattle.std.proofs.Common.{List, ◌∙◌, ap, rules}
use Rattle.ft_plan.specs.declared.job.Job.{Job}
use Rattle.ft_job_text.specs.Runs.{text_of_outcome}
use Rattle.ft_job_text.proofs.running.text_of.Goals as goal

pub returns-clause-ok : goal.returns-clause-ok
returns-clause-ok g c =
    let outcome = c.in_ok-outcome.outcome in
    record {
      outcome = outcome;
      goes_on = c.in_ok-outcome.ensures.core;
      reports = c.in_ok-outcome.ensures.ok;
      victims = c.in_ok-outcome.ensures.victims;
      told = c.in_ok-text.ensures ∙ ap (λ (jobs : List Job). text_of_outcome jobs outcome) c.jobs-jobs.ensures.jobs;
      as_meant = (search rules);
      got = (search rules);
    }
