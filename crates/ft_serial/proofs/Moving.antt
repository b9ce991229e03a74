-- What has committed stays.
use Rattle.std.proofs.Common.{sym, ap, ◌∙◌, subst, List}
use mathlib.Core.List.{IsPrefix}
use Rattle.ft_posix.specs.Posix.{posix_calls}
use Rattle.ft_history.specs.Legal.{Legal}
use Rattle.ft_core.specs.declared.request.Event.{Event}
use Rattle.ft_core.specs.Histories.{told}
use Rattle.ft_core.specs.States.{StoredState}
use Rattle.ft_core.specs.Reached.{IsReached}
use Rattle.ft_core.specs.Steps.{exact_rule, refusal_of}
use Rattle.ft_record.proofs.Moving.{moved}
use Rattle.ft_serial.specs.Serials.{committed_in, committed_calls, CommittedStays}
use Rattle.ft_serial.proofs.Lasting.{committed-first}
use Rattle.ft_serial.proofs.Reaching.{start, values}

-- the committed calls among the first events stand first
pub first-committed : (core : StoredState) → IsReached core → (events : List Event) → IsPrefix events core.state.events → IsPrefix (committed_in events) (committed_calls core.state)
first-committed core reached events first =
    let more = committed-first (start core reached) (values core reached) events first.0 (subst (λ (es : List Event). Legal posix_calls (start core reached) (told es)) (sym first.1) reached.legal) in
    (more.0, sym more.1 ∙ ap committed_in first.1)

pub committed-stays : CommittedStays
committed-stays s new r a reached ne step =
    let goes = moved exact_rule s r a new.state (refusal_of s r) ne step in
    record {
      goes_on = goes;
      committed = first-committed new reached s.events goes.events;
    }
