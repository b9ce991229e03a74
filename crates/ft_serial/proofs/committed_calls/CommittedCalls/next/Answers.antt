use Rattle.std.proofs.Common.{◌≡◌, List, drop, sym, ap, subst, ◌∙◌}
use mathlib.Core.List.{IsPrefix}
use Rattle.ft_posix.specs.declared.stamped.StampedCall.{StampedCall}
use Rattle.ft_record.specs.Recent.{events_then, forgotten_by}
use Rattle.ft_serial.specs.CommittedCalls.{GoneOver}
use Rattle.ft_serial.specs.Walks.{IsWalkOf, IsNext}
use Rattle.ft_serial.proofs.Committing.{given_after, step, new-is, still-walk, events-first, calls-first, calls-kept, none-whole, call-is, none-same, none-all, err-same}
use Rattle.ft_serial.proofs.committed_calls.CommittedCalls.next.Goals as goal

pub invariant_of-self : goal.invariant_of-self
invariant_of-self c =
    let core = c.args.core.now in
    let i = c.self.inside in
    let n = forgotten_by i.since in
    let first = subst (λ (v : GoneOver). IsPrefix v.events core.state.events) (sym c.self.view_is) c.requires.first in
    let all : c.args.events.now ≡ drop n core.state.events = subst (λ (v : GoneOver). c.args.events.now ≡ drop v.forgotten core.state.events) (sym c.self.view_is) c.requires.events in
    let goes : (given : List StampedCall) → IsWalkOf n i.walk core.state given → IsNext n c.next-next.new.self core.state given c.next-next.result = λ given walk. c.next-next.ensures.next given n all walk in
    still-walk core c.next-next.ensures.reached n i.walk c.next-next.new.self (events_then i.seen) c.next-next.result first c.self.invariant goes c.of.result.value c.of.ensures

pub returns-clause-call : goal.returns-clause-call
returns-clause-call c =
    let core = c.args.core.now in
    let i = c.self.inside in
    let n = forgotten_by i.since in
    let first = subst (λ (v : GoneOver). IsPrefix v.events core.state.events) (sym c.self.view_is) c.requires.first in
    let all : c.args.events.now ≡ drop n core.state.events = subst (λ (v : GoneOver). c.args.events.now ≡ drop v.forgotten core.state.events) (sym c.self.view_is) c.requires.events in
    let goes : (given : List StampedCall) → IsWalkOf n i.walk core.state given → IsNext n c.next-next.new.self core.state given c.next-next.result = λ given walk. c.next-next.ensures.next given n all walk in
    call-is core.state c.args.self.now.given _ c.next-next.result
    (new-is core c.next-next.ensures.reached n i.walk c.next-next.new.self (events_then i.seen) c.next-next.result first c.self.invariant goes c.of.result.value c.of.ensures ∙ ap (λ (v : GoneOver). given_after v.given c.next-next.result) c.self.view_is)

pub returns-clause-same : goal.returns-clause-same
returns-clause-same c =
    let core = c.args.core.now in
    let i = c.self.inside in
    let n = forgotten_by i.since in
    let first = subst (λ (v : GoneOver). IsPrefix v.events core.state.events) (sym c.self.view_is) c.requires.first in
    let all : c.args.events.now ≡ drop n core.state.events = subst (λ (v : GoneOver). c.args.events.now ≡ drop v.forgotten core.state.events) (sym c.self.view_is) c.requires.events in
    let goes : (given : List StampedCall) → IsWalkOf n i.walk core.state given → IsNext n c.next-next.new.self core.state given c.next-next.result = λ given walk. c.next-next.ensures.next given n all walk in
    none-same core.state c.args.self.now.given _ c.next-next.result
    (new-is core c.next-next.ensures.reached n i.walk c.next-next.new.self (events_then i.seen) c.next-next.result first c.self.invariant goes c.of.result.value c.of.ensures ∙ ap (λ (v : GoneOver). given_after v.given c.next-next.result) c.self.view_is)

pub returns-clause-all : goal.returns-clause-all
returns-clause-all c =
    let core = c.args.core.now in
    let i = c.self.inside in
    let n = forgotten_by i.since in
    let first = subst (λ (v : GoneOver). IsPrefix v.events core.state.events) (sym c.self.view_is) c.requires.first in
    let all : c.args.events.now ≡ drop n core.state.events = subst (λ (v : GoneOver). c.args.events.now ≡ drop v.forgotten core.state.events) (sym c.self.view_is) c.requires.events in
    let goes : (given : List StampedCall) → IsWalkOf n i.walk core.state given → IsNext n c.next-next.new.self core.state given c.next-next.result = λ given walk. c.next-next.ensures.next given n all walk in
    none-all core.state c.args.self.now.given _ n c.next-next.new.self c.next-next.result
    (new-is core c.next-next.ensures.reached n i.walk c.next-next.new.self (events_then i.seen) c.next-next.result first c.self.invariant goes c.of.result.value c.of.ensures ∙ ap (λ (v : GoneOver). given_after v.given c.next-next.result) c.self.view_is)
    (subst (λ (v : GoneOver). IsNext n c.next-next.new.self core.state v.given c.next-next.result) c.self.view_is (step core c.next-next.ensures.reached n i.walk c.next-next.new.self (events_then i.seen) c.next-next.result first c.self.invariant goes c.of.result.value c.of.ensures))

pub returns-clause-whole : goal.returns-clause-whole
returns-clause-whole c =
    let core = c.args.core.now in
    let i = c.self.inside in
    let n = forgotten_by i.since in
    let first = subst (λ (v : GoneOver). IsPrefix v.events core.state.events) (sym c.self.view_is) c.requires.first in
    let all : c.args.events.now ≡ drop n core.state.events = subst (λ (v : GoneOver). c.args.events.now ≡ drop v.forgotten core.state.events) (sym c.self.view_is) c.requires.events in
    let goes : (given : List StampedCall) → IsWalkOf n i.walk core.state given → IsNext n c.next-next.new.self core.state given c.next-next.result = λ given walk. c.next-next.ensures.next given n all walk in
    none-whole core c.next-next.ensures.reached n i.walk c.next-next.new.self (events_then i.seen) c.next-next.result first c.self.invariant goes c.of.result.value c.of.ensures

pub returns-clause-err : goal.returns-clause-err
returns-clause-err c =
    let core = c.args.core.now in
    let i = c.self.inside in
    let n = forgotten_by i.since in
    let first = subst (λ (v : GoneOver). IsPrefix v.events core.state.events) (sym c.self.view_is) c.requires.first in
    let all : c.args.events.now ≡ drop n core.state.events = subst (λ (v : GoneOver). c.args.events.now ≡ drop v.forgotten core.state.events) (sym c.self.view_is) c.requires.events in
    let goes : (given : List StampedCall) → IsWalkOf n i.walk core.state given → IsNext n c.next-next.new.self core.state given c.next-next.result = λ given walk. c.next-next.ensures.next given n all walk in
    err-same core.state c.args.self.now.given _ c.next-next.result
    (new-is core c.next-next.ensures.reached n i.walk c.next-next.new.self (events_then i.seen) c.next-next.result first c.self.invariant goes c.of.result.value c.of.ensures ∙ ap (λ (v : GoneOver). given_after v.given c.next-next.result) c.self.view_is)

pub returns-clause-events : goal.returns-clause-events
returns-clause-events c =
    let core = c.args.core.now in
    let i = c.self.inside in
    let n = forgotten_by i.since in
    let first = subst (λ (v : GoneOver). IsPrefix v.events core.state.events) (sym c.self.view_is) c.requires.first in
    let all : c.args.events.now ≡ drop n core.state.events = subst (λ (v : GoneOver). c.args.events.now ≡ drop v.forgotten core.state.events) (sym c.self.view_is) c.requires.events in
    let goes : (given : List StampedCall) → IsWalkOf n i.walk core.state given → IsNext n c.next-next.new.self core.state given c.next-next.result = λ given walk. c.next-next.ensures.next given n all walk in
    events-first core c.next-next.ensures.reached n i.walk c.next-next.new.self (events_then i.seen) c.next-next.result first c.self.invariant goes c.of.result.value c.of.ensures

pub returns-clause-given : goal.returns-clause-given
returns-clause-given c =
    let core = c.args.core.now in
    let i = c.self.inside in
    let n = forgotten_by i.since in
    let first = subst (λ (v : GoneOver). IsPrefix v.events core.state.events) (sym c.self.view_is) c.requires.first in
    let all : c.args.events.now ≡ drop n core.state.events = subst (λ (v : GoneOver). c.args.events.now ≡ drop v.forgotten core.state.events) (sym c.self.view_is) c.requires.events in
    let goes : (given : List StampedCall) → IsWalkOf n i.walk core.state given → IsNext n c.next-next.new.self core.state given c.next-next.result = λ given walk. c.next-next.ensures.next given n all walk in
    calls-first core c.next-next.ensures.reached n i.walk c.next-next.new.self (events_then i.seen) c.next-next.result first c.self.invariant goes c.of.result.value c.of.ensures

pub returns-clause-kept : goal.returns-clause-kept
returns-clause-kept c =
    let core = c.args.core.now in
    let i = c.self.inside in
    let n = forgotten_by i.since in
    let first = subst (λ (v : GoneOver). IsPrefix v.events core.state.events) (sym c.self.view_is) c.requires.first in
    let all : c.args.events.now ≡ drop n core.state.events = subst (λ (v : GoneOver). c.args.events.now ≡ drop v.forgotten core.state.events) (sym c.self.view_is) c.requires.events in
    let goes : (given : List StampedCall) → IsWalkOf n i.walk core.state given → IsNext n c.next-next.new.self core.state given c.next-next.result = λ given walk. c.next-next.ensures.next given n all walk in
    calls-kept core c.next-next.ensures.reached n i.walk c.next-next.new.self (events_then i.seen) c.next-next.result first c.self.invariant goes c.of.result.value c.of.ensures
