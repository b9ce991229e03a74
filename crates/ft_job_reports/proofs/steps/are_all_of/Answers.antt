use Rattle.std.proofs.Common.{◌≡◌, ◌∙◌, List, ℕ, subst, rules, IsTrue}
use Rattle.std.specs.Prelude.{◌↔◌}
use Rattle.ft_job_reports.specs.declared.steps.Extent.TheVariants.{Whole}
use Rattle.ft_job_reports.specs.Asked.{AreAllOf, all_asked}
use Rattle.ft_job_reports.proofs.steps.are_all_of.Goals as goal

pub returns : goal.returns
returns c =
    let extent = c.in_ok-extent in
    let is : IsTrue c.eq.result ↔ (extent.extent ≡ Whole) = search rules in
    let all = subst (λ (ds : List ℕ). (extent.extent ≡ Whole) ↔ AreAllOf (all_asked ds c.args.steps.now) c.args.calls.now) (c.as_slice.ensures.value ∙ c.in_ok-descriptors.ensures) extent.ensures.whole in
    (λ whole. all.0 (is.0 whole), λ whole. is.1 (all.1 whole))
