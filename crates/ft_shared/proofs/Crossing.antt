-- A core may go from thread to thread, and threads may share one that stands behind a lock. The
-- check finds this of a type by itself, but not of one that holds a snapshot, which has no bytes,
-- nor of what such a type stands in.
use denote.RattleType.{RattleType}
use denote.Param.Send.{IsSend, IsSync, sendable}
use Rattle.std.proofs.Crossing.{crosses}
use Rattle.ft_core.proofs.Crossing.{Core-send}
use Rattle.ft_record.proofs.Crossing.{Recent-send, Recorded-send}
use Rattle.ft_view.specs.declared.publish_log.ViewsBrand as naming
use Rattle.ft_shared.specs.declared.shareable.Shareable as shareable
use Rattle.ft_shared.specs.declared.sharing.Sharing as sharing
use Rattle.left_right.proofs.writer.Writer.TheSendSync as writer
use Rattle.ft_posix.proofs.stamped.StampedCall.TheSendSync as stamped
use Rattle.ft_view.proofs.publish_log.PublishLog.TheSendSync as book
use Rattle.ft_view.proofs.publish_log.Prefix.TheSendSync as front
use Rattle.ft_view.proofs.view.View.TheSendSync as view
use Rattle.ft_view.proofs.view.Published.TheSendSync as published
use Rattle.ft_serial.proofs.walk.Walk.TheSendSync as walk
use Rattle.ft_serial.specs.contracts.committed_calls.CommittedCalls as CommittedCalls
use Rattle.ft_core.specs.contracts.manager.Core as Core
use Rattle.ft_record.specs.contracts.recent.Recent as Recent
use Rattle.ft_record.specs.contracts.recorded.Recorded as Recorded
use Rattle.ft_shared.specs.contracts.publisher.Publisher as Publisher
use Rattle.ft_shared.specs.contracts.guarded.Guarded as Guarded
use Rattle.ft_shared.specs.contracts.shared.Shared as Shared

CommittedCalls-send : IsSend CommittedCalls.the_row
CommittedCalls-send = search (walk.the_field_send, crosses, sendable) depth 40

module _ (J : RattleType) (views : naming.Ghosts J.Denot) where
  Publisher-send : IsSend (Publisher.the_row J views)
  Publisher-send = search (writer.the_field_send, CommittedCalls-send, book.the_send, front.the_send, view.the_send, view.the_sync, published.the_send, stamped.the_send, crosses, sendable) depth 60

-- a core behind a lock, of each kind that may be shared
module _ (J : RattleType) (origin : sharing.Ghosts J.Denot) where
  module _ (core : shareable.Ghosts Core.the_row.Denot) where
    Guarded-core-send : IsSend (Guarded.the_row J Core.the_row origin core)
    Guarded-core-send = search (Core-send, Publisher-send, crosses, sendable) depth 40

    pub Shared-core-sync : IsSync (Shared.the_row J Core.the_row origin core)
    Shared-core-sync = search (Guarded-core-send, crosses, sendable) depth 40

  module _ (core : shareable.Ghosts Recent.the_row.Denot) where
    Guarded-recent-send : IsSend (Guarded.the_row J Recent.the_row origin core)
    Guarded-recent-send = search (Recent-send, Publisher-send, crosses, sendable) depth 40

    pub Shared-recent-sync : IsSync (Shared.the_row J Recent.the_row origin core)
    Shared-recent-sync = search (Guarded-recent-send, crosses, sendable) depth 40

  module _ (core : shareable.Ghosts Recorded.the_row.Denot) where
    Guarded-send : IsSend (Guarded.the_row J Recorded.the_row origin core)
    Guarded-send = search (Recorded-send, Publisher-send, crosses, sendable) depth 40

    pub Shared-sync : IsSync (Shared.the_row J Recorded.the_row origin core)
    Shared-sync = search (Guarded-send, crosses, sendable) depth 40
