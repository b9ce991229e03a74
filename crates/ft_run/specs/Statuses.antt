-- What a function that returns a status has read, written and reported. Of a reader counts what it
-- has left, before and after, and of a writer and of the errors what they hold.
use Rattle.std.specs.Prelude.{◌≡◌, ◌⊎◌, Bool, false, ℕ, List, Option, if◌then◌else◌}
use Rattle.std.specs.List.{zip}
use Rattle.ft_core.specs.States.{State}
use Rattle.ft_copy.specs.declared.copy_fault.CopyFault.{CopyFault}
use Rattle.ft_copy.specs.declared.copy_fault.CopyStop.{CopyStop}
use Rattle.ft_copy.specs.declared.limits.CopyLimits.{CopyLimits}
use Rattle.ft_copy.specs.Asked.{Asked}
use Rattle.ft_copy.specs.Told.{Told}
use Rattle.ft_dot.specs.Drawn.{StopsDrawing}
use Rattle.ft_job_text.specs.declared.running.RunFault.{RunFault}
use Rattle.ft_job_text.specs.declared.plan_end.PlanEnd.{PlanEnd}
use Rattle.ft_job_text.specs.Runs.{RunsPlan, StopsPlan}
use Rattle.ft_plan_files.specs.declared.plan.WrittenPlan.{WrittenPlan}
use Rattle.ft_names.specs.Names.{Moment, no_names}
use Rattle.ft_load.specs.declared.spelling.Form.{Form}
use Rattle.ft_load.specs.Loads.{StopsLoad}
use Rattle.ft_save.specs.declared.saving.SaveFault.{SaveFault}
use Rattle.ft_save.specs.Saves.{StopsSave}
use Rattle.ft_script.specs.declared.playing.PlayFault.{PlayFault}
use Rattle.ft_script.specs.declared.strictly.FailedLine.{FailedLine}
use Rattle.ft_script.specs.declared.strictly.StrictFault.TheVariants.{Line}
use Rattle.ft_script.specs.Runs.{Answers, PlaysAll, StopsAt, StopsStrictly, WritesFront}
use Rattle.ft_transfer.specs.Disk.{FileTold}
use Rattle.ft_run.specs.Giving.{GivesAll}
use Rattle.ft_run.specs.FaultLines.{TellsLine, fault_line, run_fault_line, save_line, stopped_line, strict_line}

-- the contents of a stream, if they are known: what is left of a reader, or what a writer holds
abbrev pub ContentsOf : Type 0 → Type 0
ContentsOf A = A → Option (List ℕ)

-- A script was read to its end from this state on, and its lines were answered so.
abbrev pub PlaysToEnd : {R W : Type 0} → Answers → ContentsOf R → ContentsOf W → R → R → W → W → State → Type 0
PlaysToEnd answers left held reader reader_after writer writer_after state = (new : Moment) × PlaysAll answers (left reader) (left reader_after) (held writer) (held writer_after) (state, no_names) new

-- It was read and run up to a fault, which was reported.
abbrev pub FailsToPlay : {R W E : Type 0} → Answers → ContentsOf R → ContentsOf W → ContentsOf E → R → R → W → W → E → E → State → Type 0
FailsToPlay answers left held told reader reader_after writer writer_after errors errors_after state =
    (fault : PlayFault) × (new : Moment) × StopsAt answers fault (left reader) (left reader_after) (held writer) (held writer_after) (state, no_names) new × WritesFront (told errors) (told errors_after) (fault_line fault)

-- A strict script was, up to a line that did not do what it requests, which was reported. `tells` is
-- what the disk reports of its files.
abbrev pub FailsAtLine : {R W E : Type 0} → (FileTold → Type 0) → ContentsOf R → ContentsOf W → ContentsOf E → R → R → W → W → E → E → State → Type 0
FailsAtLine tells left held told reader reader_after writer writer_after errors errors_after state =
    (failed : FailedLine) × (new : Moment) × StopsStrictly tells (Line failed) (left reader) (left reader_after) (held writer) (held writer_after) (state, no_names) new × TellsLine (told errors) (told errors_after) (strict_line failed)

-- A fault came before the drawing was written whole, and was reported.
abbrev pub FailsToDraw : {R W E : Type 0} → ContentsOf R → ContentsOf W → ContentsOf E → R → R → W → W → E → E → Type 0
FailsToDraw left held told reader reader_after writer writer_after errors errors_after =
    (fault : PlayFault) × StopsDrawing fault (left reader) (left reader_after) (held writer) (held writer_after) × WritesFront (told errors) (told errors_after) (fault_line fault)

-- All jobs of a plan were run and reported: they ended as the plan means, or did not. Then each file
-- of the disk got what it was to get, or one could not be written. `tells` is what the disk has told.
abbrev pub RunsJobs : {W E : Type 0} → (FileTold → Type 0) → Bool → Bool → State → WrittenPlan → ContentsOf W → ContentsOf E → W → W → E → E → Type 0
RunsJobs tells met given state plan held told writer writer_after errors errors_after =
    (end : PlanEnd) × (end.met ≡ met) × RunsPlan end state plan (held writer) (held writer_after) × GivesAll tells (zip plan.gets.items end.got.items) given (told errors) (told errors_after)

-- A fault came before that, and was reported; or a file of the disk could not be written.
abbrev pub FailsToRun : {W E : Type 0} → (FileTold → Type 0) → State → WrittenPlan → ContentsOf W → ContentsOf E → W → W → E → E → Type 0
FailsToRun tells state plan held told writer writer_after errors errors_after =
    ((fault : RunFault) × StopsPlan fault state plan (held writer) (held writer_after) × WritesFront (told errors) (told errors_after) (run_fault_line fault))
    ⊎ ((met : Bool) × RunsJobs tells met false state plan held told writer writer_after errors errors_after)

-- the status of jobs that have run, by whether they ended as the plan means, and whether each file was
-- given what it was to get
abbrev pub status_of : Bool → Bool → ℕ
status_of met given = if given then (if met then 0 else 3) else 1

-- A script of what a source holds was not written whole, and the cause was reported.
abbrev pub FailsToLoad : {W E : Type 0} → Form → Bool → (Told → Type 0) → ContentsOf W → ContentsOf E → W → W → E → E → Type 0
FailsToLoad form set_id tells held told writer writer_after errors errors_after =
    (stopped : CopyStop) × StopsLoad form set_id tells stopped (held writer) (held writer_after) × TellsLine (told errors) (told errors_after) (stopped_line stopped)

-- The tree with which replies end was not made whole, and the cause was reported.
abbrev pub FailsToSave : {R T E : Type 0} → CopyLimits → (T → Asked → T → Type 0) → (T → Asked → CopyFault → T → Type 0) → ContentsOf R → ContentsOf E → R → R → T → T → E → E → Type 0
FailsToSave limits does fails left told reader reader_after target target_after errors errors_after =
    (fault : SaveFault) × StopsSave limits does fails fault (left reader) (left reader_after) target target_after × TellsLine (told errors) (told errors_after) (save_line fault)
