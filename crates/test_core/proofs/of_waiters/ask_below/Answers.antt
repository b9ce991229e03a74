use denote.Param.Send.{sendable}
use Rattle.std.proofs.Crossing.{crosses}
use Rattle.ft_posix.proofs.call.Call.TheSendSync as call
use Rattle.ft_shared.proofs.Crossing.{Shared-sync}
use Rattle.test_core.proofs.of_waiters.ask_below.Goals as goal

pub join-requires-send-F : goal.join-requires-send-F
join-requires-send-F g c κs within = let rt = c.type_bounds.sync-R in search (Shared-sync, call.the_sync, crosses, sendable) depth 40
