-- How far a job came with its steps.
use Rattle.std.proofs.Common.{◌≡◌, ℕ, false, List, length, Some, sym, ap, ◌∙◌, subst}
use Rattle.std.proofs.lemmas.Bool.{false≢true}
use Rattle.std.proofs.lemmas.List.{length-map}
use Rattle.std.proofs.lemmas.Option.{slice_get-map}
use Rattle.std.specs.Option.{option_map}
use Rattle.std.specs.List.{slice_get}
use Rattle.std.specs.Prelude.{◌≢◌, ◌↔◌}
use Rattle.ft_posix.specs.declared.call.Call.{Call}
use Rattle.ft_plan.specs.declared.job.Step.{Step}
use Rattle.ft_job_reports.specs.declared.report.CallReport.{CallReport}
use Rattle.ft_job_reports.specs.declared.report.End.{End}
use Rattle.ft_job_reports.specs.declared.report.End.TheVariants.{Committed, Aborted, Waited, Refused, Failed, Deadlock, NotStarted}
use Rattle.ft_job_reports.specs.declared.steps.Extent.{Extent}
use Rattle.ft_job_reports.specs.declared.steps.Extent.TheVariants.{Whole, Other}
use Rattle.ft_job_reports.specs.Asked.{opened, all_asked, asked_with, calls_told, AreAllOf, AreFirstOf, IsAtEnd, IsDone, names_step}

abbrev AreAsExtent : List Call → List CallReport → Extent → Type 0
AreAsExtent asked calls extent = ((extent ≡ Whole) ↔ AreAllOf asked calls) × ((extent ≢ Other) ↔ AreFirstOf asked calls)

by_end : (steps : List Step) (end : End) (calls : List CallReport) (extent : Extent) → names_step end ≡ false → AreAsExtent (asked_with steps calls) calls extent
    → IsAtEnd steps end extent ↔ IsDone steps end calls
by_end steps Committed calls extent none fits = (λ at. (fits.0.0 at.0, at.1), λ done. (fits.0.1 done.0, done.1))
by_end steps Aborted calls extent none fits = (λ at. (fits.0.0 at.0, at.1), λ done. (fits.0.1 done.0, done.1))
by_end steps Waited calls extent none fits = fits.1
by_end steps (Refused fault) calls extent none fits = fits.1
by_end steps (Failed number) calls extent none fits = absurd (false≢true (sym none))
by_end steps Deadlock calls extent none fits = fits.1
by_end steps NotStarted calls extent none fits = fits.1

-- where the end names no step
pub done_is : (steps : List Step) (end : End) (calls : List CallReport) (ds : List ℕ) (extent : Extent) → names_step end ≡ false → ds ≡ opened steps calls → AreAsExtent (all_asked ds steps) calls extent
    → IsAtEnd steps end extent ↔ IsDone steps end calls
done_is steps end calls ds extent none same fits = by_end steps end calls extent none (subst (λ (xs : List ℕ). AreAsExtent (all_asked xs steps) calls extent) same fits)

-- ---- calls told of

pub length-told : (calls : List CallReport) → length (calls_told calls) ≡ length calls
length-told calls = length-map calls (λ (c : CallReport). c.call)

pub told_at : (calls : List CallReport) (i : ℕ) (c : CallReport) → slice_get calls i ≡ Some c → slice_get (calls_told calls) i ≡ Some c.call
told_at calls i c got = slice_get-map (λ (d : CallReport). d.call) calls i ∙ ap (option_map (λ (d : CallReport). d.call)) got
