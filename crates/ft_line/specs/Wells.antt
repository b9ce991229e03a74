-- Whether a request was granted and did not fail.
use Rattle.std.specs.Prelude.{◌≢◌, Bool, true, false}
use Rattle.ft_posix.specs.declared.call.Reply.TheVariants.{Done, Names, Number, Bytes, Info, Failed}
use Rattle.ft_core.specs.declared.fault.Fault.TheVariants.{Memory as MemoryFault}
use Rattle.ft_core.specs.declared.request.Answer.{Answer}
use Rattle.ft_core.specs.declared.request.Answer.TheVariants.{Txn, Granted, Waits, Dropped, Committed, Aborted, Undone, Cleared, Refused}
use Rattle.ft_core.specs.declared.request.Request.{Request}
use Rattle.ft_core.specs.States.{State}
use Rattle.ft_line.specs.Lines.{IsLegal}

-- a request was granted, and did not fail
abbrev pub is_well : Answer → Bool
is_well (Txn txn) = true
is_well (Granted stamp Done) = true
is_well (Granted stamp (Names names)) = true
is_well (Granted stamp (Number number)) = true
is_well (Granted stamp (Bytes bytes)) = true
is_well (Granted stamp (Info info)) = true
is_well (Granted stamp (Failed errno)) = false
is_well (Waits blockers) = false
is_well Dropped = true
is_well Committed = true
is_well (Aborted calls) = true
is_well (Undone stamp) = true
is_well Cleared = true
is_well (Refused fault) = false

-- a request is answered so by a legal step, for which there was memory
abbrev pub IsMet : State → Request → Answer → State → Type 0
IsMet old request answer new = IsLegal old request answer new × (answer ≢ Refused MemoryFault)
