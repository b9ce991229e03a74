use Rattle.std.proofs.Common.{◌≡◌, IsSome, refl, sym, ap, subst, ◌∙◌}
use Rattle.std.specs.FinMap as finite
use Rattle.ft_lock_rules.specs.Rules.{is_strict}
use Rattle.ft_core.specs.States.{State, fate_of, has_most_calls, after_wait}
use Rattle.ft_core.specs.Journals.{asked_for, state_of, with_call}
use Rattle.ft_core.specs.Tries.{IsTried}
use Rattle.ft_core.proofs.Asks.{full-same, next-free, core-unmade, tried-made, waits-for, core-waits, waits-on}
use Rattle.ft_core.proofs.Gathered.{state-is}
use Rattle.ft_core.proofs.Known.{call_laws, lock_laws}
use Rattle.ft_core.proofs.Surveys.{alone-there}
use Rattle.ft_core.proofs.manager.Core.request.Goals as goal

pub try_call-requires-clause-free : goal.try_call-requires-clause-free
try_call-requires-clause-free c = next-free call_laws lock_laws c.self.inside.parts c.self.inside.journal c.self.invariant.0 c.next_stamp-stamp.result c.next_stamp-stamp.ensures

pub try_call-requires-clause-alone : goal.try_call-requires-clause-alone
try_call-requires-clause-alone c = alone-there call_laws lock_laws c.self.invariant.0 c.args.txn

pub try_call-requires-clause-no_holder : goal.try_call-requires-clause-no_holder
try_call-requires-clause-no_holder c strict = c.self.invariant.0.no_holder (sym (ap is_strict (c.rule-rule.ensures)) ∙ strict)

pub try_call-requires-clause-known : goal.try_call-requires-clause-known
try_call-requires-clause-known c = c.self.invariant.1

pub invariant_of-self : goal.invariant_of-self
invariant_of-self c = (core-unmade call_laws lock_laws c.self.inside.parts c.self.inside.journal c.self.invariant.0 c.try_call.new.self c.self.inside.journal c.in_err-try_call.ensures.unmade refl, c.try_call.ensures.known)

pub invariant_of-self-in-Made : goal.invariant_of-self-in-Made
invariant_of-self-in-Made c =
    let i = c.self.inside in
    let call = c.wanted-call.result.now in
    let stamp = c.next_stamp-stamp.ensures in
    let tried = subst (λ r. IsTried r i.parts c.try_call.new.self c.args.txn c.next_stamp-stamp.result call c.try_call.new.made c.in_ok-try_call.field-0) c.rule-rule.ensures c.in_ok-try_call.ensures.tried in
    let made = subst (IsTried i.journal.rule i.parts c.try_call.new.self c.args.txn c.next_stamp-stamp.result call c.try_call.new.made) c.in-Made.is tried in
    let few = full-same call_laws lock_laws i.parts i.journal c.self.invariant.0 ∙ ap has_most_calls (state-is c.self.view_is) ∙ c.requires.few in
    let told = tried-made call_laws lock_laws i.parts i.journal c.self.invariant.0 c.args.self.now.state (state-is c.self.view_is) c.args.txn call c.requires.live few c.next_stamp-stamp.result stamp c.try_call.new.self c.try_call.new.made made
    c.grant-pending.new.self (c.grant-pending.ensures.told call c.wanted-call.ensures ∙ ap (with_call i.journal c.args.txn call c.try_call.new.made.reply) c.by-seen.ensures) in
    (told.0, c.try_call.ensures.known)

pub returns-in-Made-clause-asked : goal.returns-in-Made-clause-asked
returns-in-Made-clause-asked c =
    let i = c.self.inside in
    let call = c.wanted-call.result.now in
    let stamp = c.next_stamp-stamp.ensures in
    let tried = subst (λ r. IsTried r i.parts c.try_call.new.self c.args.txn c.next_stamp-stamp.result call c.try_call.new.made c.in_ok-try_call.field-0) c.rule-rule.ensures c.in_ok-try_call.ensures.tried in
    let made = subst (IsTried i.journal.rule i.parts c.try_call.new.self c.args.txn c.next_stamp-stamp.result call c.try_call.new.made) c.in-Made.is tried in
    let few = full-same call_laws lock_laws i.parts i.journal c.self.invariant.0 ∙ ap has_most_calls (state-is c.self.view_is) ∙ c.requires.few in
    let told = tried-made call_laws lock_laws i.parts i.journal c.self.invariant.0 c.args.self.now.state (state-is c.self.view_is) c.args.txn call c.requires.live few c.next_stamp-stamp.result stamp c.try_call.new.self c.try_call.new.made made
    c.grant-pending.new.self (c.grant-pending.ensures.told call c.wanted-call.ensures ∙ ap (with_call i.journal c.args.txn call c.try_call.new.made.reply) c.by-seen.ensures) in (
      call,
      ap (λ (q : State). asked_for c.args.asked (finite.get q.asks c.args.txn)) (sym (state-is c.self.view_is)) ∙ c.wanted-call.ensures,
      told.1,
    )

pub invariant_of-self-in_err-wait-in-Blocked : goal.invariant_of-self-in_err-wait-in-Blocked
invariant_of-self-in_err-wait-in-Blocked c =
    let i = c.self.inside in
    let call = c.wanted-call.result.now in
    let tried = subst (λ r. IsTried r i.parts c.try_call.new.self c.args.txn c.next_stamp-stamp.result call c.try_call.new.made c.in_ok-try_call.field-0) c.rule-rule.ensures c.in_ok-try_call.ensures.tried in
    let blocked = subst (IsTried i.journal.rule i.parts c.try_call.new.self c.args.txn c.next_stamp-stamp.result call c.try_call.new.made) c.in-Blocked.is tried in (
      core-unmade call_laws lock_laws i.parts i.journal c.self.invariant.0 c.try_call.new.self c.wait.new.self blocked.unmade
          c.in_err-wait-in-Blocked.ensures.err,
      c.try_call.ensures.known,
    )

pub invariant_of-self-in-Blocked-1 : goal.invariant_of-self-in-Blocked-1
invariant_of-self-in-Blocked-1 c =
    let i = c.self.inside in
    let call = c.wanted-call.result.now in
    let tried = subst (λ r. IsTried r i.parts c.try_call.new.self c.args.txn c.next_stamp-stamp.result call c.try_call.new.made c.in_ok-try_call.field-0) c.rule-rule.ensures c.in_ok-try_call.ensures.tried in
    let blocked = subst (IsTried i.journal.rule i.parts c.try_call.new.self c.args.txn c.next_stamp-stamp.result call c.try_call.new.made) c.in-Blocked.is tried in
    let live = (λ x. fate_of (state_of (blocked.unmade.forest x) i.journal) c.args.txn) ∙ ap (λ (q : State). fate_of q c.args.txn) (state-is c.self.view_is) ∙ c.requires.live in (
      core-waits call_laws lock_laws c.try_call.new.self i.journal (core-unmade call_laws lock_laws i.parts i.journal c.self.invariant.0 c.try_call.new.self i.journal blocked.unmade refl) c.args.txn c.args.asked live
          c.wait.new.self c.in_ok-wait-in-Blocked.ensures.ok,
      c.try_call.ensures.known,
    )

pub returns-in_ok-wait-in-Blocked-clause-asked : goal.returns-in_ok-wait-in-Blocked-clause-asked
returns-in_ok-wait-in-Blocked-clause-asked c =
    let i = c.self.inside in
    let call = c.wanted-call.result.now in
    let stamp = c.next_stamp-stamp.ensures in
    let tried = subst (λ r. IsTried r i.parts c.try_call.new.self c.args.txn c.next_stamp-stamp.result call c.try_call.new.made c.in_ok-try_call.field-0) c.rule-rule.ensures c.in_ok-try_call.ensures.tried in
    let blocked = subst (IsTried i.journal.rule i.parts c.try_call.new.self c.args.txn c.next_stamp-stamp.result call c.try_call.new.made) c.in-Blocked.is tried in
    let same : state_of c.try_call.new.self.forest i.journal ≡ c.args.self.now.state = (λ x. state_of (blocked.unmade.forest x) i.journal) ∙ state-is c.self.view_is in (
      call,
      ap (λ (q : State). asked_for c.args.asked (finite.get q.asks c.args.txn)) (sym same) ∙ c.wanted-call.ensures,
      (
        (λ none. blocked.some (sym c.from-blockers.ensures ∙ none)),
        c.from-blockers.ensures ∙ waits-for call_laws lock_laws i.parts i.journal c.self.invariant.0 c.args.self.now.state (state-is c.self.view_is) c.args.txn call c.next_stamp-stamp.result stamp c.in-Blocked.blockers.items blocked.are,
        ap (state_of c.try_call.new.self.forest) c.in_ok-wait-in-Blocked.ensures.ok ∙ waits-on c.try_call.new.self.forest i.journal c.args.txn c.args.asked call c.wanted-call.ensures ∙ ap (λ (q : State). after_wait q c.args.txn call) same,
      ),
    )

pub asked_or-requires : goal.asked_or-requires
asked_or-requires c =
    subst IsSome (ap (λ (q : State). asked_for c.args.asked (finite.get q.asks c.args.txn)) (sym (state-is c.self.view_is)) ∙ ap (asked_for c.args.asked) (sym c.grant-pending.ensures.pending)) c.requires.some
