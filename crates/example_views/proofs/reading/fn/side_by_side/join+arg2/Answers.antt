use denote.Param.Send.{sendable}
use Rattle.std.proofs.Crossing.{crosses}
use Rattle.ft_shared.proofs.Crossing.{Shared-sync}
use Rattle.example_views.proofs.reading.fn.side_by_side.join+arg2.Goals as goal

pub run_jobs_unchecked-requires-sync-M : goal.run_jobs_unchecked-requires-sync-M
run_jobs_unchecked-requires-sync-M g c κs = search (Shared-sync, sendable) depth 20

pub run_jobs_unchecked-requires-sync-G : goal.run_jobs_unchecked-requires-sync-G
run_jobs_unchecked-requires-sync-G g c κs = search (Shared-sync, crosses, sendable) depth 40
