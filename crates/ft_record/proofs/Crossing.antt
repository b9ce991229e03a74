-- A core that keeps what has happened may go from thread to thread.
use denote.Param.Send.{IsSend, sendable}
use Rattle.std.proofs.Crossing.{crosses}
use Rattle.ft_tree.proofs.tree.Tree.TheSendSync as tree
use Rattle.ft_core.proofs.Crossing.{Core-send}
use Rattle.ft_core.proofs.request.Event.TheSendSync as event
use Rattle.ft_record.specs.contracts.record.Record as Record
use Rattle.ft_record.specs.contracts.recent.Recent as Recent
use Rattle.ft_record.specs.contracts.recorded.Recorded as Recorded

Record-send : IsSend Record.the_row
Record-send = search (event.the_send, crosses, sendable) depth 40

pub Recent-send : IsSend Recent.the_row
Recent-send = search (Core-send, Record-send, crosses, sendable) depth 40

pub Recorded-send : IsSend Recorded.the_row
Recorded-send = search (Recent-send, tree.the_send, crosses, sendable) depth 40
