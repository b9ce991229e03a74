use Rattle.std.proofs.Common.{◌∙◌}
use Rattle.ft_job_reports.proofs.Following.{done_is}
use Rattle.ft_job_reports.proofs.steps.comes_to.Goals as goal

pub returns : goal.returns
returns c =
    let extent = c.in_ok-extent in
    let done = done_is c.args.steps.now c.args.end c.args.calls.now c.as_slice.result.now extent.extent c.requires (c.as_slice.ensures.value ∙ c.in_ok-descriptors.ensures) (extent.ensures.whole, extent.ensures.front) in
    (λ is. done.0 (c.is_at_end.ensures.0 is), λ is. c.is_at_end.ensures.1 (done.1 is))
