use Rattle.std.proofs.Common.{◌≡◌, ◌∙◌, ℕ, Some, ap, sym, subst, arith}
use Rattle.std.specs.Option.{option_map}
use Rattle.ft_owned_lists.specs.OwnedLists.{list_in}
use Rattle.ft_posix.specs.Posix.{posix_calls}
use Rattle.ft_undo.specs.declared.logs.LogRecord.{LogRecord}
use Rattle.ft_undo.specs.Logs.{newest_of}
use Rattle.ft_history.specs.History.Fate.{Live}
use Rattle.ft_history.specs.Undoing.{undo_target}
use Rattle.ft_history.specs.Undoing.Target.{Found}
use Rattle.ft_history.proofs.Words.{same_some, none_some}
use Rattle.ft_core.specs.Histories.{Granted}
use Rattle.ft_core.specs.Journals.{state_of}
use Rattle.ft_core.specs.States.{State, history, fate_of}
use Rattle.ft_core.specs.Steps.{fault_of_target}
use Rattle.ft_core.proofs.Gathered.{state-is}
use Rattle.ft_core.proofs.Known.{call_laws, lock_laws}
use Rattle.ft_core.proofs.Undoes.{told-found, told-since, told-nothing}
use Rattle.ft_core.proofs.manager.Core.undo_target.Goals as goal

pub returns-in-Some-last_sub-clause-refused : goal.returns-in-Some-last_sub-clause-refused
returns-in-Some-last_sub-clause-refused c =
    let i = c.self.inside in
    let s : State = state_of i.parts.forest i.journal in
    let live : fate_of s c.args.txn ≡ Some Live = ap (λ (q : State). fate_of q c.args.txn) (state-is c.self.view_is) ∙ c.requires in
    let first : c.newest.result ≡ option_map (λ (x : LogRecord). x.stamp) (newest_of (list_in i.parts.logs c.args.txn)) = c.newest.ensures ∙ ap (λ (n : ℕ). option_map (λ (x : LogRecord). x.stamp) (newest_of (list_in i.parts.logs n))) c.txn.view_is in
    ap (λ (q : State). fault_of_target (undo_target posix_calls (history q) c.args.txn)) (sym (state-is c.self.view_is))
    ∙ told-since call_laws lock_laws c.self.invariant.0 c.args.txn live c.newest.result c.last_sub-last_sub.result c.in-Some-last_sub.sub first c.last_sub-last_sub.ensures c.in-Some-last_sub.is (λ n e. let same : c.in-Some.stamp ≡ n = same_some c.in-Some.stamp n (sym c.in-Some.is ∙ e) in let le = c.if-stamp-sub.true in omega arith)

pub returns-in_default-clause-found : goal.returns-in_default-clause-found
returns-in_default-clause-found c =
    let i = c.self.inside in
    let s : State = state_of i.parts.forest i.journal in
    let live : fate_of s c.args.txn ≡ Some Live = ap (λ (q : State). fate_of q c.args.txn) (state-is c.self.view_is) ∙ c.requires in
    let first : c.newest.result ≡ option_map (λ (x : LogRecord). x.stamp) (newest_of (list_in i.parts.logs c.args.txn)) = c.newest.ensures ∙ ap (λ (n : ℕ). option_map (λ (x : LogRecord). x.stamp) (newest_of (list_in i.parts.logs n))) c.txn.view_is in
    subst (λ (q : State). (x : Granted) × (undo_target posix_calls (history q) c.args.txn ≡ Found x) × (x.call.stamp ≡ c.in-Some.stamp)) (state-is c.self.view_is)
    (told-found call_laws lock_laws c.self.invariant.0 c.args.txn live c.newest.result c.last_sub-last_sub.result c.in-Some.stamp first c.in-Some.is c.last_sub-last_sub.ensures (λ q e. let same : c.in-Some-last_sub.sub ≡ q = same_some c.in-Some-last_sub.sub q (sym c.in-Some-last_sub.is ∙ e) in let lt = c.if-stamp-sub.false in omega arith))

pub returns-in_default-2-clause-found : goal.returns-in_default-2-clause-found
returns-in_default-2-clause-found c =
    let i = c.self.inside in
    let s : State = state_of i.parts.forest i.journal in
    let live : fate_of s c.args.txn ≡ Some Live = ap (λ (q : State). fate_of q c.args.txn) (state-is c.self.view_is) ∙ c.requires in
    let first : c.newest.result ≡ option_map (λ (x : LogRecord). x.stamp) (newest_of (list_in i.parts.logs c.args.txn)) = c.newest.ensures ∙ ap (λ (n : ℕ). option_map (λ (x : LogRecord). x.stamp) (newest_of (list_in i.parts.logs n))) c.txn.view_is in
    subst (λ (q : State). (x : Granted) × (undo_target posix_calls (history q) c.args.txn ≡ Found x) × (x.call.stamp ≡ c.in-Some.stamp)) (state-is c.self.view_is)
    (told-found call_laws lock_laws c.self.invariant.0 c.args.txn live c.newest.result c.last_sub-last_sub.result c.in-Some.stamp first c.in-Some.is c.last_sub-last_sub.ensures (λ q e. absurd (none_some q (sym c.in_default.is ∙ e))))

pub returns-in-Some-last_sub-2-clause-refused : goal.returns-in-Some-last_sub-2-clause-refused
returns-in-Some-last_sub-2-clause-refused c =
    let i = c.self.inside in
    let s : State = state_of i.parts.forest i.journal in
    let live : fate_of s c.args.txn ≡ Some Live = ap (λ (q : State). fate_of q c.args.txn) (state-is c.self.view_is) ∙ c.requires in
    let first : c.newest.result ≡ option_map (λ (x : LogRecord). x.stamp) (newest_of (list_in i.parts.logs c.args.txn)) = c.newest.ensures ∙ ap (λ (n : ℕ). option_map (λ (x : LogRecord). x.stamp) (newest_of (list_in i.parts.logs n))) c.txn.view_is in
    ap (λ (q : State). fault_of_target (undo_target posix_calls (history q) c.args.txn)) (sym (state-is c.self.view_is))
    ∙ told-since call_laws lock_laws c.self.invariant.0 c.args.txn live c.newest.result c.last_sub-last_sub.result c.in-Some-last_sub-2.field-0 first c.last_sub-last_sub.ensures c.in-Some-last_sub-2.is (λ n e. absurd (none_some n (sym c.in-None.is ∙ e)))

pub returns-in-None-last_sub-clause-refused : goal.returns-in-None-last_sub-clause-refused
returns-in-None-last_sub-clause-refused c =
    let i = c.self.inside in
    let s : State = state_of i.parts.forest i.journal in
    let live : fate_of s c.args.txn ≡ Some Live = ap (λ (q : State). fate_of q c.args.txn) (state-is c.self.view_is) ∙ c.requires in
    let first : c.newest.result ≡ option_map (λ (x : LogRecord). x.stamp) (newest_of (list_in i.parts.logs c.args.txn)) = c.newest.ensures ∙ ap (λ (n : ℕ). option_map (λ (x : LogRecord). x.stamp) (newest_of (list_in i.parts.logs n))) c.txn.view_is in
    ap (λ (q : State). fault_of_target (undo_target posix_calls (history q) c.args.txn)) (sym (state-is c.self.view_is))
    ∙ told-nothing call_laws lock_laws c.self.invariant.0 c.args.txn live c.newest.result c.last_sub-last_sub.result first c.in-None.is c.last_sub-last_sub.ensures c.in-None-last_sub.is
