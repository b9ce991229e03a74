-- What takes a change of a body back may go from thread to thread. The check finds this of a type by
-- itself, but not of one that holds a snapshot, which has no bytes, nor of what such a type stands in.
use denote.Param.Send.{IsSend, sendable}
use Rattle.std.proofs.Crossing.{crosses}
use Rattle.ft_body.proofs.pages.Lost.TheSendSync as lost
use Rattle.ft_body.proofs.blocks.Placed.TheSendSync as placed
use Rattle.ft_body.specs.contracts.block_undo.BlockUndo as BlockUndo
use Rattle.ft_body.specs.contracts.blocks.LostBlocks as LostBlocks
use Rattle.ft_body.specs.contracts.undo.BodyUndo as BodyUndo

BlockUndo-send : IsSend BlockUndo.the_row
BlockUndo-send = search (lost.the_field_send, crosses, sendable) depth 40

LostBlocks-send : IsSend LostBlocks.the_row
LostBlocks-send = search (BlockUndo-send, placed.the_field_send, crosses, sendable) depth 40

pub BodyUndo-send : IsSend BodyUndo.the_row
BodyUndo-send = search (LostBlocks-send, crosses, sendable) depth 40
