-- The results of the stages of a call: an intent, the end of a walk, or the value of an argument,
-- each with its looks noted. If there is not enough memory, nothing is claimed.
use Rattle.std.specs.Prelude.{◌≡◌, List, map, Result, Ok, Err}
use Rattle.ft_body.specs.declared.TheConstants.{LARGEST_SIZE}
use Rattle.ft_body.specs.Bytes.{bytes_at, fitting, written, resized}
use Rattle.ft_path.specs.declared.errno.Errno.{Errno}
use Rattle.ft_cells.specs.declared.node.PathEnd.{PathEnd}
use Rattle.ft_cells.specs.Nodes.{with_kinds}
use Rattle.ft_cells.specs.Cells.{Cells, untimed, timed, contents_of, bytes_of, names_of}
use Rattle.ft_cells.specs.Looks.{Looks, answer}
use Rattle.ft_tree.specs.Views.{view_of}
use Rattle.ft_posix.specs.declared.call.Reply.{Reply}
use Rattle.ft_posix.specs.declared.call.Reply.TheVariants as reply
use Rattle.ft_posix.specs.declared.intent.Edit.{Edit}
use Rattle.ft_posix.specs.declared.intent.Edit.TheVariants.{Entry, Parent, Links, Overwrite, Resize, Open, DirAttributes, FileAttributes, Time}
use Rattle.ft_posix.specs.declared.intent.PlannedReply.{PlannedReply}
use Rattle.ft_posix.specs.declared.intent.PlannedReply.TheVariants.{Done, Number, Info, Failed, NamesOf, BytesOf}
use Rattle.ft_posix.specs.declared.intent.Intent.{Intent}
use Rattle.ft_posix.specs.declared.intent.CallError.{CallError}
use Rattle.ft_posix.specs.declared.intent.CallError.TheVariants.{Memory as NoMemory, Errno as Fails}
use Rattle.ft_cells.specs.declared.cell.Cell.TheVariants as cell
use Rattle.ft_posix.specs.Outcomes.{Write, sets, Outcome, failed}
use Rattle.ft_posix.specs.Looking.{Looking, noted}

-- the reply that is planned: a list is read from the cells
abbrev pub reply_of : Cells → PlannedReply → Reply
reply_of cells Done = reply.Done
reply_of cells (Number n) = reply.Number n
reply_of cells (Info info) = reply.Info info
reply_of cells (Failed e) = reply.Failed e
reply_of cells (NamesOf d) = reply.Names (with_kinds (names_of cells d))
reply_of cells (BytesOf file at len) = reply.Bytes (bytes_at (bytes_of cells file) at len)

-- the cell that is edited, with its new value
abbrev pub write_of : Cells → Edit → Write
write_of cells (Entry entry to) = sets (cell.Entry entry) to
write_of cells (Parent d to) = sets (cell.Parent d) to
write_of cells (Links i to) = sets (cell.Links i) to
write_of cells (Overwrite i at bytes) = sets (cell.Bytes i) (untimed (written (bytes_of cells i) at (fitting LARGEST_SIZE bytes.now at)))
write_of cells (Resize i size) = sets (cell.Bytes i) (untimed (resized (bytes_of cells i) size))
write_of cells (Open f to) = sets (cell.Fd f) to
write_of cells (DirAttributes d to) = sets (cell.DirAttributes d) to
write_of cells (FileAttributes i to) = sets (cell.FileAttributes i) to
write_of cells (Time i to) = sets (cell.Bytes i) (timed (contents_of cells i) to)

-- the edited cells, with their new values
abbrev pub writes_of : Cells → List Edit → List Write
writes_of cells edits = map (write_of cells) edits

-- the outcome of an intent on these cells
abbrev pub outcome_of : Cells → Intent → Outcome
outcome_of cells x = record { reply = reply_of cells x.told; writes = writes_of cells x.edits }

-- the stage returns an intent or a fault, with its looks noted, or there is not enough memory
abbrev pub Computes : Looking → Looks Outcome → Looking → Result Intent CallError → Type 0
Computes old looks new (Ok x) = (outcome_of old.cells x ≡ answer looks (view_of old.cells)) × (new ≡ noted old looks)
Computes old looks new (Err (Fails e)) = (failed e ≡ answer looks (view_of old.cells)) × (new ≡ noted old looks)
Computes old looks new (Err NoMemory) = Unit {0}

-- the walk returns its end or its fault, or there is not enough memory
abbrev pub Resolves : Looking → Looks (Result PathEnd Errno) → Looking → Result PathEnd CallError → Type 0
Resolves old looks new (Ok spot) = (Ok spot ≡ answer looks (view_of old.cells)) × (new ≡ noted old looks)
Resolves old looks new (Err (Fails e)) = (Err e ≡ answer looks (view_of old.cells)) × (new ≡ noted old looks)
Resolves old looks new (Err NoMemory) = Unit {0}

-- the value of an argument, or its fault, or there is not enough memory
abbrev pub Parses : {A : Type 0} → Result A Errno → Result A CallError → Type 0
Parses wanted (Ok x) = Ok x ≡ wanted
Parses wanted (Err (Fails e)) = Err e ≡ wanted
Parses wanted (Err NoMemory) = Unit {0}
