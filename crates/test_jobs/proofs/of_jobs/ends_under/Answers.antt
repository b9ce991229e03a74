use Rattle.std.proofs.Common.{false}
use denote.Struct.Declared.{shape}
use denote.Param.Send.{IsSync, struct_sync_at, sendable}
use Rattle.std.specs.contracts.marker.Brand as Brand
use Rattle.ft_shared.proofs.Crossing.{Shared-sync}
use Rattle.test_jobs.proofs.of_jobs.Lie.TheSendSync as lie
use Rattle.test_jobs.specs.contracts.of_jobs.Lying as Lying
use Rattle.test_jobs.proofs.of_jobs.ends_under.Goals as goal

-- field by field, at one value: a core behind a lock is shared as it is elsewhere
Lying-sync : IsSync Lying.the_row
Lying-sync = record {
  shared = λ d. struct_sync_at (shape Lying.the_type) (Lying.the_type.to d) ((Shared-sync Brand.the_row _ (record { stored = _; forgotten = _; forgets = false; knows_base = λ _. Unit {0} })).shared d.shared, (lie.the_field_sync.shared _, tt));
}

pub run_jobs-requires-sync-M : goal.run_jobs-requires-sync-M
run_jobs-requires-sync-M g c κs within = search (Lying-sync, sendable) depth 40
