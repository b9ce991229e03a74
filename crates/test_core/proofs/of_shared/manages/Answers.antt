use denote.Param.Send.{sendable}
use Rattle.ft_shared.proofs.Crossing.{Shared-sync}
use Rattle.test_core.proofs.of_shared.manages.Goals as goal

pub managed-requires-sync-M : goal.managed-requires-sync-M
managed-requires-sync-M g c κs = search (Shared-sync, sendable) depth 20
