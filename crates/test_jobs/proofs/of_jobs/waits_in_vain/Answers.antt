use denote.Param.Send.{sendable}
use Rattle.ft_shared.proofs.Crossing.{Shared-sync}
use Rattle.test_jobs.proofs.of_jobs.waits_in_vain.Goals as goal

pub run_jobs-requires-sync-M : goal.run_jobs-requires-sync-M
run_jobs-requires-sync-M g c κs = search (Shared-sync, sendable) depth 20
