-- A core may go from thread to thread. The check finds this of a type by itself, but not of one
-- that holds a snapshot, which has no bytes, nor of what such a type stands in.
use denote.Param.Send.{IsSend, sendable}
use Rattle.std.proofs.Crossing.{crosses}
use Rattle.ft_owned_lists.proofs.owned_lists.OwnedLists.TheSendSync as chains
use Rattle.ft_paged.proofs.paged_table.PagedTable.TheSendSync as paged_table
use Rattle.ft_base.proofs.table.Table.TheSendSync as table
use Rattle.ft_path.proofs.name.Name.TheSendSync as name
use Rattle.ft_body.proofs.Crossing.{BodyUndo-send}
use Rattle.ft_cells.proofs.rare.Rare.TheSendSync as rare
use Rattle.ft_inodes.specs.contracts.file.FileUndo as FileUndo
use Rattle.ft_cells.proofs.open_file.OpenFile.TheSendSync as open_file
use Rattle.ft_tree.proofs.tree.Tree.TheSendSync as tree
use Rattle.ft_posix.proofs.call.Call.TheSendSync as call
use Rattle.ft_forest.proofs.forest.Forest.TheSendSync as forest
use Rattle.ft_locks.proofs.locks.Locks.TheSendSync as locks
use Rattle.ft_undo.proofs.entry_was.EntryWas.TheSendSync as entry_was
use Rattle.ft_undo.specs.contracts.bytes_undo.BytesUndo as BytesUndo
use Rattle.ft_undo.specs.contracts.time_undo.TimeUndo as TimeUndo
use Rattle.ft_undo.specs.contracts.undo.BeforeImage as BeforeImage
use Rattle.ft_undo.specs.contracts.undo.Undo as Undo
use Rattle.ft_undo.specs.contracts.logs.LogRecord as LogRecord
use Rattle.ft_undo.specs.contracts.logs.Logs as Logs
use Rattle.ft_core.proofs.past.Past.TheSendSync as past
use Rattle.ft_core.proofs.journal.Terms.TheSendSync as terms
use Rattle.ft_core.proofs.memo.Memo.TheSendSync as memo
use Rattle.ft_core.specs.contracts.journal.Journal as Journal
use Rattle.ft_core.specs.contracts.parts.Parts as Parts
use Rattle.ft_core.specs.contracts.manager.Core as Core

FileUndo-send : IsSend FileUndo.the_row
FileUndo-send = search (BodyUndo-send, rare.the_send, crosses, sendable) depth 40

BytesUndo-send : IsSend BytesUndo.the_row
BytesUndo-send = search (FileUndo-send, crosses, sendable) depth 40

TimeUndo-send : IsSend TimeUndo.the_row
TimeUndo-send = search (rare.the_send, crosses, sendable) depth 40

BeforeImage-send : IsSend BeforeImage.the_row
BeforeImage-send = search (BytesUndo-send, TimeUndo-send, rare.the_send, name.the_send, entry_was.the_send, open_file.the_field_send, sendable) depth 40

Undo-send : IsSend Undo.the_row
Undo-send = search (BeforeImage-send, crosses, sendable) depth 40

LogRecord-send : IsSend LogRecord.the_row
LogRecord-send = search (Undo-send, sendable) depth 20

Logs-send : IsSend Logs.the_row
Logs-send = let chains = chains.the_send LogRecord.the_row LogRecord-send in search sendable depth 20

Journal-send : IsSend Journal.the_row
Journal-send = search (past.the_send, terms.the_field_send, call.the_send, table.the_send, paged_table.the_send, tree.the_send, crosses, sendable) depth 40

Parts-send : IsSend Parts.the_field.row
Parts-send = search (tree.the_send, forest.the_send, locks.the_send, Logs-send, crosses, sendable) depth 40

pub Core-send : IsSend Core.the_row
Core-send = search (Journal-send, Parts-send, memo.the_field_send, crosses, sendable) depth 40
