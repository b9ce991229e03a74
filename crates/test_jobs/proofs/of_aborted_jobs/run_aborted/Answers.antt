use Rattle.std.proofs.Common.{false}
use denote.Struct.Declared.{shape}
use denote.Param.Send.{IsSync, struct_sync_at, sendable}
use Rattle.std.proofs.sync.atomic.AtomicU64.TheSendSync as counter
use Rattle.std.specs.contracts.marker.Brand as Brand
use Rattle.ft_shared.proofs.Crossing.{Shared-sync}
use Rattle.test_jobs.specs.contracts.of_aborted_jobs.Aborting as Aborting
use Rattle.test_jobs.proofs.of_aborted_jobs.run_aborted.Goals as goal

-- field by field, at one value: a core behind a lock is shared as it is elsewhere
Aborting-sync : IsSync Aborting.the_row
Aborting-sync = record {
  shared = λ d. struct_sync_at (shape Aborting.the_type) (Aborting.the_type.to d) ((Shared-sync Brand.the_row _ (record { stored = _; forgotten = _; forgets = false; knows_base = λ _. Unit {0} })).shared d.shared, (counter.the_sync.shared _, tt));
}

pub run_jobs-requires-sync-M : goal.run_jobs-requires-sync-M
run_jobs-requires-sync-M g c κs = search (Aborting-sync, sendable) depth 40
