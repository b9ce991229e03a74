use denote.Param.Send.{sendable}
use Rattle.std.proofs.Crossing.{crosses}
use Rattle.ft_shared.proofs.Crossing.{Shared-core-sync}
use Rattle.tool_through.proofs.playing.play.Goals as goal

pub join-played-requires-send-F : goal.join-played-requires-send-F
join-played-requires-send-F g c κs within = let rt = c.type_bounds.sync-R in search (Shared-core-sync, crosses, sendable) depth 40
