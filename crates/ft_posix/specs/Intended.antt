-- The result of a stage, with the edits that it has collected.
use Rattle.std.specs.Prelude.{List, Result, Ok, Err}
use Rattle.ft_posix.specs.declared.intent.Edit.{Edit}
use Rattle.ft_posix.specs.declared.intent.PlannedReply.{PlannedReply}
use Rattle.ft_posix.specs.declared.intent.Intent.{Intent}
use Rattle.ft_posix.specs.declared.intent.CallError.{CallError}

-- a planned reply and the collected edits, as an intent; or the fault
abbrev pub intended : List Edit → Result PlannedReply CallError → Result Intent CallError
intended edits (Ok told) = Ok (record { told = told; edits = edits })
intended edits (Err stop) = Err stop
