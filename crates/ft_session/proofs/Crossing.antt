-- A session may go from thread to thread. The check finds this of a type by itself, but not of one
-- that holds a snapshot, which has no bytes, nor of what such a type stands in.
use denote.Param.Send.{IsSend, sendable}
use Rattle.std.proofs.Crossing.{crosses}
use Rattle.ft_core.proofs.Crossing.{Core-send}
use Rattle.ft_core.proofs.request.Answer.TheSendSync as answer
use Rattle.ft_session.specs.contracts.session.Session as Session

pub Session-send : IsSend Session.the_row
Session-send = search (Core-send, answer.the_field_send, crosses, sendable) depth 40 fits 8000
