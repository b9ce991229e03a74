-- The results of a draft's stages.
use Rattle.std.specs.Prelude.{◌≡◌, ◌++◌, ℕ, List, Result, OnOk}
use Rattle.ft_base.specs.declared.memory.Memory.{Memory}
use Rattle.ft_cells.specs.Cells.{Cells, directory_count}
use Rattle.ft_cells.specs.Looks.{Looks}
use Rattle.ft_posix.specs.declared.call.Call.{Call}
use Rattle.ft_posix.specs.declared.intent.Edit.{Edit}
use Rattle.ft_posix.specs.declared.intent.PlannedReply.{PlannedReply}
use Rattle.ft_posix.specs.declared.intent.CallError.{CallError}
use Rattle.ft_posix.specs.Outcomes.{Outcome, Write}
use Rattle.ft_posix.specs.Steps.{steps}
use Rattle.ft_posix.specs.Computes.{Computes, outcome_of, writes_of}
use Rattle.ft_posix.specs.Intended.{intended}
use Rattle.ft_posix.specs.Stored.{outcome}
use Rattle.ft_calls.specs.declared.draft.Draft.{Draft}

-- the planned reply and the edits of the draft are the outcome of the looks, or the fault is; the
-- looks are noted. If there is not enough memory, nothing is claimed.
abbrev pub Plans : Draft → Looks Outcome → Draft → Result PlannedReply CallError → Type 0
Plans old looks new result = Computes old.look.now looks new.look.now (intended new.edits.now result)

-- the draft is on the same look and the same list of edits
abbrev pub IsSameDraft : Draft → Draft → Type 0
IsSameDraft old new = (new.look.ghost_name ≡ old.look.ghost_name) × (new.edits.ghost_name ≡ old.edits.ghost_name)

-- how many directories there are in the cells that a draft looks at
abbrev pub directories_of : Draft → ℕ
directories_of draft = directory_count draft.look.now.cells

-- the steps of a call with the stamp of the draft, on the cells that it looks at
abbrev pub steps_of : Draft → Call → Looks Outcome
steps_of draft call = steps draft.look.now.cells.limits (directories_of draft) draft.stamp call

-- the planned reply and the edits are the outcome of the call, which was made with this stamp
abbrev pub IsOutcome : Cells → ℕ → Call → PlannedReply → List Edit → Type 0
IsOutcome cells stamp call told edits = outcome_of cells (record { told = told; edits = edits }) ≡ outcome cells stamp call

-- these writes are added to those of the edits, on any cells, if there is enough memory
abbrev pub AddsWrites : List Edit → List Edit → Result (Unit {0}) Memory → List Write → Type 0
AddsWrites old new result writes = (cells : Cells) → OnOk result (writes_of cells new ≡ writes_of cells old ++ writes)
