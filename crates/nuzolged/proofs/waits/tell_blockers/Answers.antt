use Rattle.std.proofs.Common.{◌≡◌, None, Option, List, ℕ, sym, subst, inl}
use Rattle.std.specs.Prelude.{MatchOption}
use Rattle.ft_core.specs.declared.fault.Fault.{Fault}
use Rattle.ft_core.specs.declared.request.Request.TheVariants.{Retry}
use Rattle.ft_core.specs.Steps.{refusal_of}
use Rattle.nuzolged.specs.Numbers.{told as told_with, fault_number}
use Rattle.nuzolged.specs.Waits.{AreBlockers, AreTold, IsToldAlone}
use Rattle.nuzolged.proofs.Pendings.{waiting}
use Rattle.nuzolged.proofs.waits.tell_blockers.Goals as goal

pub returns-in-Ok : goal.returns-in-Ok
returns-in-Ok c =
    let session = c.args.session.now in let s = session.core.state in let t = c.args.txn in
    let told = c.tell_txns.result in let before = c.args.txns.now in let after = c.tell_txns.new.txns in
    let none : refusal_of s (Retry t) ≡ None = c.in_default.ensures in
    let wait = waiting s t none in
    let blockers = c.in-Ok.blockers.items in
    let all : AreTold blockers told before after = subst (λ (txns : List ℕ). AreTold txns told before after) c.as_slice.ensures.value c.tell_txns.ensures in
    subst (λ (o : Option Fault). MatchOption o (AreBlockers session t told before after) (λ fault. IsToldAlone (told_with (fault_number fault) 0 0) told before after)) (sym none)
    (inl (wait.0, wait.1, blockers, c.in-Ok.ensures, all))
