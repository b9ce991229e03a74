use Rattle.std.proofs.Common.{◌≡◌, ℕ, Ok, Err, refl, sym, ap, subst, arith}
use Rattle.ft_core.specs.declared.request.Request.TheVariants as request
use Rattle.ft_core.proofs.Known.{call_laws, lock_laws}
use Rattle.ft_record.specs.Recent.{Remembered, forgotten_by}
use Rattle.ft_record.specs.Recording.{Recording}
use Rattle.ft_core.specs.declared.fault.Fault.{Fault}
use Rattle.ft_core.specs.Promises.{IsJustMade}
use Rattle.ft_record.proofs.Records.{recent-refused, recent-undone}
use Rattle.ft_record.proofs.recent.Recent.undo_call.Goals as goal

pub invariant_of-self : goal.invariant_of-self
invariant_of-self c =
    let i = c.self.inside in
    recent-refused i.core.state c.undo_call.new.self.state (request.Undo c.args.txn) c.in_err-stamp.field-0.0 i.past (forgotten_by i.since) c.self.invariant c.in_err-stamp.ensures.step i.past refl refl

pub tell-requires : goal.tell-requires
tell-requires c = let i = c.self.inside in (recent-undone call_laws lock_laws i.core.state c.args.txn c.in_ok-stamp.stamp c.undo_call.new.self.state i.past (forgotten_by i.since) c.self.invariant c.in_ok-stamp.ensures.step).some

pub invariant_of-self-2 : goal.invariant_of-self-2
invariant_of-self-2 c =
    let i = c.self.inside in
    (recent-undone call_laws lock_laws i.core.state c.args.txn c.in_ok-stamp.stamp c.undo_call.new.self.state i.past (forgotten_by i.since) c.self.invariant c.in_ok-stamp.ensures.step).recent c.tell.new.self
    (ap (λ (q : Recording). q.events) c.tell.ensures) (let spare = ap (λ (q : Recording). q.spare) c.tell.ensures in omega arith)

never : {f : Fault} {k : ℕ} → Err f ≡ Ok k → ⊥
never e = cc

pub returns-in_err-stamp-clause-just_made : goal.returns-in_err-stamp-clause-just_made
returns-in_err-stamp-clause-just_made c = λ before k just.
    absurd (never (c.in_err-stamp.ensures.just_made before k (subst (λ (v : Remembered). IsJustMade before v.core.state c.args.txn k) (sym c.self.view_is) just)).0)

pub returns-clause-just_made : goal.returns-clause-just_made
returns-clause-just_made c = λ before k just. c.in_ok-stamp.ensures.just_made before k (subst (λ (v : Remembered). IsJustMade before v.core.state c.args.txn k) (sym c.self.view_is) just)
