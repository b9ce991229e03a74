use denote.Param.Send.{sendable}
use Rattle.std.proofs.Crossing.{crosses}
use Rattle.ft_plan.proofs.plan.Plan.TheSendSync as plan
use Rattle.ft_shared.proofs.Crossing.{Shared-sync}
use Rattle.example_views.proofs.reading.side_by_side.Goals as goal

pub join-requires-send-F : goal.join-requires-send-F
join-requires-send-F g c κs within = let rt = c.type_bounds.sync-R in search (Shared-sync, plan.the_sync, crosses, sendable) depth 40
