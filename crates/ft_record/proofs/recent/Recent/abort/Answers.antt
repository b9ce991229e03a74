use Rattle.std.proofs.Common.{◌∙◌, refl, ap, arith}
use Rattle.ft_core.specs.declared.request.Request.TheVariants as request
use Rattle.ft_core.proofs.Known.{call_laws, lock_laws}
use Rattle.ft_record.specs.Recent.{forgotten_by}
use Rattle.ft_record.specs.Recording.{Recording}
use Rattle.ft_record.proofs.Records.{recent-refused, recent-aborted, some-ended}
use Rattle.ft_record.proofs.recent.Recent.abort.Goals as goal

pub invariant_of-self : goal.invariant_of-self
invariant_of-self c =
    let i = c.self.inside in
    recent-refused i.core.state c.abort_in_full.new.self.state (request.Abort c.args.txn) c.in_err-transactions.field-0.0 i.past (forgotten_by i.since) c.self.invariant c.in_err-transactions.ensures.step i.past refl refl

pub tell-requires : goal.tell-requires
tell-requires c =
    let i = c.self.inside in
    let abort = c.in_ok-transactions in
    let told = recent-aborted call_laws lock_laws i.core.state c.args.txn abort.field-0.calls c.abort_in_full.new.self.state i.past (forgotten_by i.since) c.self.invariant abort.ensures.step in
    told.some

pub overflow_sub-transactions : goal.overflow_sub-transactions
overflow_sub-transactions c =
    let i = c.self.inside in
    let abort = c.in_ok-transactions in
    let some = some-ended call_laws lock_laws i.core.state c.args.txn abort.field-0.calls c.abort_in_full.new.self.state i.past (forgotten_by i.since) c.self.invariant abort.ensures.step in
    let count = abort.ensures.transactions in
    omega arith

pub give_back-requires : goal.give_back-requires
give_back-requires c =
    let i = c.self.inside in
    let abort = c.in_ok-transactions in
    let told = recent-aborted call_laws lock_laws i.core.state c.args.txn abort.field-0.calls c.abort_in_full.new.self.state i.past (forgotten_by i.since) c.self.invariant abort.ensures.step in
    let count = abort.ensures.transactions in
    let within = told.within in
    let spare = ap (λ (q : Recording). q.spare) c.tell.ensures in
    omega arith

pub give_back-requires-2 : goal.give_back-requires-2
give_back-requires-2 c =
    let i = c.self.inside in
    let abort = c.in_ok-transactions in
    let told = recent-aborted call_laws lock_laws i.core.state c.args.txn abort.field-0.calls c.abort_in_full.new.self.state i.past (forgotten_by i.since) c.self.invariant abort.ensures.step in
    let count = abort.ensures.transactions in
    let within = told.within in
    let spare = ap (λ (q : Recording). q.spare) c.tell.ensures in
    let left = ap (λ (q : Recording). q.spare) c.give_back.ensures in
    omega arith

pub invariant_of-self-2 : goal.invariant_of-self-2
invariant_of-self-2 c =
    let i = c.self.inside in
    let abort = c.in_ok-transactions in
    let told = recent-aborted call_laws lock_laws i.core.state c.args.txn abort.field-0.calls c.abort_in_full.new.self.state i.past (forgotten_by i.since) c.self.invariant abort.ensures.step in
    let count = abort.ensures.transactions in
    let spare = ap (λ (q : Recording). q.spare) c.tell.ensures in
    let left = ap (λ (q : Recording). q.spare) c.give_back.ensures in
    let last = ap (λ (q : Recording). q.spare) c.give_back-2.ensures in
    told.recent c.give_back-2.new.self
    (ap (λ (q : Recording). q.events) c.give_back-2.ensures ∙ ap (λ (q : Recording). q.events) c.give_back.ensures ∙ ap (λ (q : Recording). q.events) c.tell.ensures)
    (omega arith)
