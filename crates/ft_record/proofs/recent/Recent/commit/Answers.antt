use Rattle.std.proofs.Common.{◌≡◌, ◌∙◌, ℕ, refl, sym, ap, arith}
use Rattle.ft_core.specs.declared.request.Request.TheVariants as request
use Rattle.ft_core.proofs.Known.{call_laws, lock_laws}
use Rattle.ft_record.specs.Recent.{Remembered, forgotten_by, freed_by_commit}
use Rattle.ft_record.specs.Recording.{Recording}
use Rattle.ft_record.proofs.Records.{recent-refused, recent-committed}
use Rattle.ft_record.proofs.recent.Recent.commit.Goals as goal

pub invariant_of-self : goal.invariant_of-self
invariant_of-self c =
    let i = c.self.inside in
    recent-refused i.core.state c.commit.new.self.state (request.Commit c.args.txn) c.in_err-commit.field-0.0 i.past (forgotten_by i.since) c.self.invariant c.in_err-commit.ensures i.past refl refl

pub tell-requires : goal.tell-requires
tell-requires c = let i = c.self.inside in (recent-committed call_laws lock_laws i.core.state c.args.txn c.commit.new.self.state i.past (forgotten_by i.since) c.self.invariant c.in_ok-commit.ensures).some

-- what was counted before the commit
freed-is : (v w : Remembered) (t n : ℕ) → w ≡ v → n ≡ freed_by_commit v.core.state t → n ≡ freed_by_commit w.core.state t
freed-is v w t n same is = is ∙ ap (λ (x : Remembered). freed_by_commit x.core.state t) (sym same)

pub give_back-requires : goal.give_back-requires
give_back-requires c =
    let i = c.self.inside in
    let told = recent-committed call_laws lock_laws i.core.state c.args.txn c.commit.new.self.state i.past (forgotten_by i.since) c.self.invariant c.in_ok-commit.ensures in
    let within = told.within in
    let freed = freed-is c.args.self.now (record { core = i.core; forgotten = forgotten_by i.since }) c.args.txn c.freed_by_commit-freed.result c.self.view_is c.freed_by_commit-freed.ensures in
    let spare = ap (λ (q : Recording). q.spare) c.tell.ensures in
    omega arith

pub invariant_of-self-2 : goal.invariant_of-self-2
invariant_of-self-2 c =
    let i = c.self.inside in
    let told = recent-committed call_laws lock_laws i.core.state c.args.txn c.commit.new.self.state i.past (forgotten_by i.since) c.self.invariant c.in_ok-commit.ensures in
    let freed = freed-is c.args.self.now (record { core = i.core; forgotten = forgotten_by i.since }) c.args.txn c.freed_by_commit-freed.result c.self.view_is c.freed_by_commit-freed.ensures in
    let spare = ap (λ (q : Recording). q.spare) c.tell.ensures in
    let left = ap (λ (q : Recording). q.spare) c.give_back.ensures in
    told.recent c.give_back.new.self
    (ap (λ (q : Recording). q.events) c.give_back.ensures ∙ ap (λ (q : Recording). q.events) c.tell.ensures)
    (omega arith)
