use Rattle.std.proofs.Common.{◌≡◌, ◌-◌, suc, true, false, Some, None, length, refl, sym, ap, ◌∙◌, arith, rules}
use Rattle.std.proofs.lemmas.Option.{slice_get_read}
use Rattle.std.specs.List.{slice_get}
use Rattle.ft_job_reports.specs.Reports.{is_named}
use Rattle.ft_job_text.specs.Gets.{has_committed_at, has_committed_whole}
use Rattle.ft_job_text.proofs.Committed.{around_left, not_committed, other_job}
use Rattle.ft_job_text.proofs.gets.has_committed_whole.Goals as goal

pub returns-then-not-has_committed_at : goal.returns-then-not-has_committed_at
returns-then-not-has_committed_at c =
    let jobs = c.args.jobs.now in
    let reports = c.args.reports.now in
    let name = c.loop-at.name.now in
    let before = c.loop-at.at - 1 in
    let job = c.index-jobs-at.result in
    let is : c.loop-at.at ≡ suc before = omega arith in
    let there : slice_get jobs before ≡ Some job = slice_get_read jobs (length jobs) before job refl (omega (arith, c.loop-at.invariant.small)) c.index-jobs-at.is in
    let named : is_named name job ≡ true = search rules in
    let fails : has_committed_at reports before ≡ false = search rules in
    sym (sym c.loop-at.invariant.same ∙ ap (λ n. has_committed_whole jobs reports n name) is ∙ not_committed jobs reports before name job there named fails)

pub returns-in-None : goal.returns-in-None
returns-in-None c =
    let jobs = c.args.jobs.now in
    let reports = c.args.reports.now in
    let name = c.loop-at.name.now in
    let before = c.loop-at.at - 1 in
    let job = c.index-jobs-at.result in
    let is : c.loop-at.at ≡ suc before = omega arith in
    let there : slice_get jobs before ≡ Some job = slice_get_read jobs (length jobs) before job refl (omega (arith, c.loop-at.invariant.small)) c.index-jobs-at.is in
    let named : is_named name job ≡ true = search rules in
    let committed : has_committed_at reports before ≡ true = search rules in
    let top : job.parent ≡ None = search rules in
    sym (sym c.loop-at.invariant.same ∙ ap (λ n. has_committed_whole jobs reports n name) is ∙ around_left jobs reports before name job there named committed None top)

pub loop-at-preserved-in-Some : goal.loop-at-preserved-in-Some
loop-at-preserved-in-Some c =
    let jobs = c.args.jobs.now in
    let reports = c.args.reports.now in
    let name = c.loop-at.name.now in
    let before = c.loop-at.at - 1 in
    let job = c.index-jobs-at.result in
    let is : c.loop-at.at ≡ suc before = omega arith in
    let there : slice_get jobs before ≡ Some job = slice_get_read jobs (length jobs) before job refl (omega (arith, c.loop-at.invariant.small)) c.index-jobs-at.is in
    let named : is_named name job ≡ true = search rules in
    let committed : has_committed_at reports before ≡ true = search rules in
    let parent = c.as_bytes-name.result.now in
    let sub : job.parent ≡ Some parent = search rules in
    let small = c.loop-at.invariant.small in
    record {
      small = omega (arith, small);
      same = sym (around_left jobs reports before name job there named committed (Some parent) sub) ∙ sym (ap (λ n. has_committed_whole jobs reports n name) is) ∙ c.loop-at.invariant.same;
    }

pub loop-at-preserved : goal.loop-at-preserved
loop-at-preserved c =
    let jobs = c.args.jobs.now in
    let reports = c.args.reports.now in
    let name = c.loop-at.name.now in
    let before = c.loop-at.at - 1 in
    let job = c.index-jobs-at.result in
    let is : c.loop-at.at ≡ suc before = omega arith in
    let there : slice_get jobs before ≡ Some job = slice_get_read jobs (length jobs) before job refl (omega (arith, c.loop-at.invariant.small)) c.index-jobs-at.is in
    let named : is_named name job ≡ false = search rules in
    let small = c.loop-at.invariant.small in
    record {
      small = omega (arith, small);
      same = sym (other_job jobs reports before name job there named) ∙ sym (ap (λ n. has_committed_whole jobs reports n name) is) ∙ c.loop-at.invariant.same;
    }
