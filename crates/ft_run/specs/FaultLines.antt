-- The line that reports a fault, with its line feed.
use Rattle.std.specs.Prelude.{◌⊎◌, ℕ, List, [], ◌∷◌, ◌++◌, take, Option, codes, string_bytes}
use Rattle.std.specs.Str.Lines.{strip_carriage_return}
use Rattle.std.specs.Fmt.{decimal}
use Rattle.ft_script.specs.declared.setup_fault.SetupFault.{SetupFault}
use Rattle.ft_script.specs.declared.setup_fault.SetupFault.TheVariants as after
use Rattle.ft_copy.specs.declared.copy_fault.CopyStop.{CopyStop}
use Rattle.ft_copy.specs.declared.copy_fault.CopyFault.{CopyFault}
use Rattle.ft_copy.specs.declared.copy_fault.CopyFault.TheVariants as troubles
use Rattle.ft_plan.specs.declared.fault.JobFault.TheVariants as jobs
use Rattle.ft_plan_files.specs.declared.fault.PlanFileFault.{PlanFileFault}
use Rattle.ft_plan_files.specs.declared.fault.PlanFileFault.TheVariants as plan
use Rattle.ft_script.specs.declared.playing.PlayFault.{PlayFault}
use Rattle.ft_script.specs.declared.playing.PlayFault.TheVariants.{Memory, Read, Write, TooLong, Turns}
use Rattle.ft_script.specs.declared.strictly.FailedLine.{FailedLine}
use Rattle.ft_script.specs.Runs.{WritesFront}
use Rattle.ft_job_text.specs.declared.running.RunFault.{RunFault}
use Rattle.ft_job_text.specs.declared.running.RunFault.TheVariants as run
use Rattle.ft_save.specs.declared.saving.SaveFault.{SaveFault}
use Rattle.ft_save.specs.declared.saving.SaveFault.TheVariants as save
use Rattle.ft_words.specs.Texts.{data_text}

-- `fault: NAME` and a line feed, for a fault of a script
abbrev pub fault_line : PlayFault → List ℕ
fault_line Memory = codes "fault: Memory" ++ 10 ∷ []
fault_line Read = codes "fault: Read" ++ 10 ∷ []
fault_line Write = codes "fault: Write" ++ 10 ∷ []
fault_line TooLong = codes "fault: TooLong" ++ 10 ∷ []
fault_line Turns = codes "fault: Turns" ++ 10 ∷ []

-- the same of a fault of a plan
abbrev pub run_fault_line : RunFault → List ℕ
run_fault_line (run.Jobs jobs.Memory) = fault_line Memory
run_fault_line (run.Jobs jobs.BadPlan) = codes "fault: BadPlan" ++ 10 ∷ []
run_fault_line (run.Jobs jobs.Mismatch) = codes "fault: Mismatch" ++ 10 ∷ []
run_fault_line (run.Jobs jobs.Thread) = codes "fault: Thread" ++ 10 ∷ []
run_fault_line run.Write = fault_line Write

-- the same of a plan that is not written out
abbrev pub plan_file_fault_line : PlanFileFault → List ℕ
plan_file_fault_line plan.Memory = fault_line Memory
plan_file_fault_line plan.TooLong = run_fault_line (run.Jobs jobs.BadPlan)
plan_file_fault_line plan.Read = fault_line Read

-- the same of a file of the disk that could not be written
abbrev pub unwritten_line : List ℕ → List ℕ
unwritten_line file = codes "fault: Write" ++ data_text file ++ 10 ∷ []

-- a line of a strict script as it is shown: without the one carriage return at its end, and at
-- most 200 bytes of it
abbrev pub shown_of : List ℕ → List ℕ
shown_of bytes = take 200 (strip_carriage_return bytes)

-- the same of a line of a strict script that did not do what it requests: its number, the line, and
-- its reply, which has a line feed
abbrev pub strict_line : FailedLine → List ℕ
strict_line failed = codes "fault: Strict " ++ decimal failed.number ++ codes ": " ++ shown_of failed.line.items ++ codes " = " ++ string_bytes failed.reply

-- the same of a script that was not played first
abbrev pub after_line : SetupFault → List ℕ
after_line after.Memory = fault_line Memory
after_line after.BadLimits = codes "fault: BadLimits" ++ 10 ∷ []
after_line (after.Script number) = codes "fault: Script " ++ decimal number ++ 10 ∷ []

-- the name of what stopped a copy
abbrev pub trouble_name : CopyFault → List ℕ
trouble_name troubles.Memory = codes "Memory"
trouble_name troubles.Read = codes "Read"
trouble_name troubles.Write = codes "Write"
trouble_name troubles.Special = codes "Special"
trouble_name troubles.TooLarge = codes "TooLarge"
trouble_name troubles.TooManyLinks = codes "TooManyLinks"
trouble_name troubles.PathTooLong = codes "PathTooLong"
trouble_name troubles.BadName = codes "BadName"
trouble_name troubles.BadTree = codes "BadTree"
trouble_name troubles.Exists = codes "Exists"
trouble_name troubles.Full = codes "Full"

-- the same of a copy: the path after the name, coded, if it is not empty
abbrev pub stopped_line : CopyStop → List ℕ
stopped_line stopped = codes "fault: " ++ trouble_name stopped.trouble ++ data_text stopped.path ++ 10 ∷ []

-- the same of a save
abbrev pub save_line : SaveFault → List ℕ
save_line (save.Replies fault) = fault_line fault
save_line save.NoTree = codes "fault: NoTree" ++ 10 ∷ []
save_line (save.CopyStop stopped) = stopped_line stopped

-- The line was written, or a beginning of it; or so was that of Memory, if there was none for the
-- line.
abbrev pub TellsLine : Option (List ℕ) → Option (List ℕ) → List ℕ → Type 0
TellsLine before after line = WritesFront before after line ⊎ WritesFront before after (fault_line Memory)
