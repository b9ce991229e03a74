use denote.Param.Send.{sendable}
use Rattle.std.proofs.Crossing.{crosses}
use Rattle.ft_path.proofs.path.FilePath.TheSendSync as path
use Rattle.ft_shared.proofs.Crossing.{Shared-sync}
use Rattle.test_core.proofs.of_views.publishes_beside.Goals as goal

pub map_vec-requires-sync-F : goal.map_vec-requires-sync-F
map_vec-requires-sync-F g c κs = let rt = c.type_bounds.sync-R in search (Shared-sync, path.the_sync, crosses, sendable) depth 40
