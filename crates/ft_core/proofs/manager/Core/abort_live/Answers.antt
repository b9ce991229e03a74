use Rattle.std.proofs.Common.{rules, ◌<◌, ◌^◌, ◌≡◌, ◌∙◌, ◌+◌, ℕ, Some, None, not, false, refl, ap, sym, subst, arith}
use Rattle.ft_core.proofs.Memos.{forgotten}
use Rattle.std.specs.FinMap as finite
use Rattle.ft_owned_lists.specs.OwnedLists.{list_in}
use Rattle.ft_posix.specs.Posix.{posix_calls}
use Rattle.ft_forest.specs.Transactions.{Transactions, HasAborted, IsLastOf}
use Rattle.ft_lock_rules.specs.Locks.{LockTable, AreReleased, is_opened}
use Rattle.ft_undo.specs.Logs.{is_open, AreLists, AreOpen}
use Rattle.ft_history.specs.Logs.{put, handed}
use Rattle.ft_history.specs.History.{over}
use Rattle.ft_history.specs.History.Fate.{Live}
use Rattle.ft_core.specs.declared.request.Event.TheVariants.{Abort as AbortEvent}
use Rattle.ft_core.specs.declared.parts.Parts.{Parts}
use Rattle.ft_core.specs.Journals.{state_of}
use Rattle.ft_core.specs.States.{State, history, fate_of, after_abort, count_standing, count_live}
use Rattle.ft_core.specs.Kept.{IsKept}
use Rattle.ft_core.proofs.Gathered.{state-is}
use Rattle.ft_core.proofs.Known.{call_laws, lock_laws}
use Rattle.ft_core.proofs.Tallies.{AreEnded, none-ended, one-ended, few-ended, all-ended}
use Rattle.ft_core.proofs.Aborts.{IsOnWay, first, was-live, below-is, below-back, can-take, few-more, go-on, asks-are, count-is, core-abort, lists-closed, open-closed}
use Rattle.ft_core.proofs.Ended.{core-ended, state-ended, told-less}
use Rattle.ft_core.proofs.Alone.{aborts-alone}
use Rattle.ft_core.proofs.manager.Core.abort_live.Goals as goal

pub loop-next-init : goal.loop-next-init
loop-next-init c =
    record {
      way = λ W K core live. first W K core c.args.txn live refl;
      last = λ other. absurd (other refl);
      ended = none-ended (history (state_of c.self.inside.parts.forest c.self.inside.journal)) c.args.txn c.self.inside.parts.forest;
    }

pub take_list-calls-requires-clause-can : goal.take_list-calls-requires-clause-can
take_list-calls-requires-clause-can c =
    let i = c.self.inside in
    let s : State = state_of i.parts.forest i.journal in
    let live : fate_of s c.args.txn ≡ Some Live = ap (λ (q : State). fate_of q c.args.txn) (state-is c.self.view_is) ∙ c.requires in
    let way = c.loop-next.invariant.way call_laws lock_laws c.self.invariant.0 live in
    can-take call_laws lock_laws c.self.invariant.0 c.args.txn live way c.in-Some.next c.in-Some.ensures.next.below c.in-Some.ensures.next.live c.in-Some.ensures.lowest

pub take_list-calls-requires-clause-few : goal.take_list-calls-requires-clause-few
take_list-calls-requires-clause-few c =
    let i = c.self.inside in
    let s : State = state_of i.parts.forest i.journal in
    let live : fate_of s c.args.txn ≡ Some Live = ap (λ (q : State). fate_of q c.args.txn) (state-is c.self.view_is) ∙ c.requires in
    let way = c.loop-next.invariant.way call_laws lock_laws c.self.invariant.0 live in
    let few = few-more call_laws lock_laws c.self.invariant.0 c.args.txn live way c.in-Some.next c.in-Some.ensures.next.below c.in-Some.ensures.next.live c.in-Some.ensures.lowest in
    let within = c.self.invariant.0.kept.started.within in
    omega arith

pub overflow_add-calls : goal.overflow_add-calls
overflow_add-calls c =
    let i = c.self.inside in
    let s : State = state_of i.parts.forest i.journal in
    let live : fate_of s c.args.txn ≡ Some Live = ap (λ (q : State). fate_of q c.args.txn) (state-is c.self.view_is) ∙ c.requires in
    let way = c.loop-next.invariant.way call_laws lock_laws c.self.invariant.0 live in
    let few = few-more call_laws lock_laws c.self.invariant.0 c.args.txn live way c.in-Some.next c.in-Some.ensures.next.below c.in-Some.ensures.next.live c.in-Some.ensures.lowest in
    let within = c.self.invariant.0.kept.started.within in
    let count = c.take_list-calls.ensures.count in
    omega arith

pub release-requires : goal.release-requires
release-requires c =
    let i = c.self.inside in
    let live : fate_of (state_of i.parts.forest i.journal) c.args.txn ≡ Some Live = ap (λ (q : State). fate_of q c.args.txn) (state-is c.self.view_is) ∙ c.requires in
    let way = c.loop-next.invariant.way call_laws lock_laws c.self.invariant.0 live in
    ap (λ (p : Parts). is_opened p.locks c.in-Some.next) c.take_list-calls.ensures.others ∙ way.opened c.in-Some.next c.in-Some.ensures.next.live

pub loop-next-preserved : goal.loop-next-preserved
loop-next-preserved c =
    let i = c.self.inside in
    let old = c.loop-next.self-inside.parts in
    let x = c.in-Some.next in
    let taken = c.take_list-calls in
    let left = taken.new.self in
    let lists = c.close.new.self in
    record {
      way = λ W K core live.
          let way = c.loop-next.invariant.way W K core live in
          subst (λ (f : Transactions). IsOnWay W K core c.args.txn live (c.loop-next.calls + taken.result) left.tree f c.release.new.self lists c.forget.new.self) (sym (ap (λ (p : Parts). p.forest) taken.ensures.others))
          (subst (λ n. IsOnWay W K core c.args.txn live (c.loop-next.calls + n) left.tree c.abort_next.new.self c.release.new.self lists c.forget.new.self) (sym taken.ensures.count)
          (go-on W K core c.args.txn live way x c.in-Some.ensures.next.below c.in-Some.ensures.next.live c.in-Some.ensures.lowest left.tree taken.ensures.cells c.abort_next.new.self c.in-Some.ensures.aborted (c.in-Some.ensures.way i.parts.forest way.forest_is)
          c.release.new.self (subst (λ (t : LockTable). AreReleased t c.release.new.self x) (ap (λ (p : Parts). p.locks) taken.ensures.others) c.release.ensures)
          lists (lists-closed old.logs left.logs lists x taken.ensures.lists (subst (λ (n : ℕ). AreLists lists (handed (list_in left.logs) n None)) c.next.view_is c.close.ensures.lists))
          (open-closed old.logs left.logs lists x taken.ensures.opened (subst (λ (n : ℕ). AreOpen lists (put (is_open left.logs) n false)) c.next.view_is c.close.ensures.opened)) c.forget.new.self c.forget.ensures));
      last = subst (λ (f : Transactions). IsLastOf f c.args.txn x) (sym (ap (λ (p : Parts). p.forest) taken.ensures.others)) c.in-Some.ensures.last;
      ended =
          let live : fate_of (state_of i.parts.forest i.journal) c.args.txn ≡ Some Live = ap (λ (q : State). fate_of q c.args.txn) (state-is c.self.view_is) ∙ c.requires in
          let way = c.loop-next.invariant.way call_laws lock_laws c.self.invariant.0 live in
          let low : x < 2 ^ 64 = search rules in
          subst (λ (f : Transactions). AreEnded (history (state_of i.parts.forest i.journal)) c.args.txn i.parts.forest f (c.loop-next.transactions + 1)) (sym (ap (λ (p : Parts). p.forest) taken.ensures.others))
          (one-ended call_laws c.self.invariant.0 c.args.txn old.forest c.abort_next.new.self c.loop-next.transactions x (below-is call_laws lock_laws c.self.invariant.0 c.args.txn live way x c.in-Some.ensures.next.below) c.in-Some.ensures.next.live
          (was-live call_laws lock_laws c.self.invariant.0 c.args.txn live way x c.in-Some.ensures.next.live) low c.in-Some.ensures.aborted c.loop-next.invariant.ended);
    }

pub overflow_add-transactions : goal.overflow_add-transactions
overflow_add-transactions c =
    let i = c.self.inside in
    let live : fate_of (state_of i.parts.forest i.journal) c.args.txn ≡ Some Live = ap (λ (q : State). fate_of q c.args.txn) (state-is c.self.view_is) ∙ c.requires in
    let way = c.loop-next.invariant.way call_laws lock_laws c.self.invariant.0 live in
    let x = c.in-Some.next in
    let low : x < 2 ^ 64 = search rules in
    let few = few-ended call_laws c.self.invariant.0 c.args.txn c.loop-next.self-inside.parts.forest c.abort_next.new.self c.loop-next.transactions x (below-is call_laws lock_laws c.self.invariant.0 c.args.txn live way x c.in-Some.ensures.next.below) c.in-Some.ensures.next.live
    (was-live call_laws lock_laws c.self.invariant.0 c.args.txn live way x c.in-Some.ensures.next.live) low c.in-Some.ensures.aborted c.loop-next.invariant.ended in
    omega arith

pub invariant_of-self : goal.invariant_of-self
invariant_of-self c = (
  (let i = c.self.inside in
      let s : State = state_of i.parts.forest i.journal in
      let live : fate_of s c.args.txn ≡ Some Live = ap (λ (q : State). fate_of q c.args.txn) (state-is c.self.view_is) ∙ c.requires in
      let way = c.loop-next.invariant.way call_laws lock_laws c.self.invariant.0 live in
      let done : HasAborted i.parts.forest c.abort_next.new.self c.args.txn = c.in_default.ensures.done i.parts.forest way.forest_is in
      let last_way = subst (λ (f : Transactions). IsOnWay call_laws lock_laws c.self.invariant.0 c.args.txn live c.loop-next.calls c.loop-next.self-inside.parts.tree f c.loop-next.self-inside.parts.locks c.loop-next.self-inside.parts.logs c.loop-next.self-inside.journal) (sym c.in_default.ensures.same) way in
      core-ended s (state_of c.abort_next.new.self c.tell.new.self) (AbortEvent c.args.txn) c.loop-next.self-inside.journal.asks
      (state-ended i.parts.forest c.abort_next.new.self i.journal c.tell.new.self (AbortEvent c.args.txn) c.loop-next.self-inside.journal.asks done.limits done.base done.last
      (told-less i.journal c.loop-next.self-inside.journal c.tell.new.self (AbortEvent c.args.txn) c.loop-next.self-inside.journal.asks last_way.journal refl c.tell.ensures))
      (core-abort call_laws lock_laws c.self.invariant.0 c.args.txn live last_way done c.in_default.ensures.none c.tell.new.self c.tell.ensures)),
  forgotten c.forget-2.new.self _ _ c.forget-2.ensures,
)

pub returns-clause-calls : goal.returns-clause-calls
returns-clause-calls c =
    let i = c.self.inside in
    let same = state-is c.self.view_is in
    let live : fate_of (state_of i.parts.forest i.journal) c.args.txn ≡ Some Live = ap (λ (q : State). fate_of q c.args.txn) same ∙ c.requires in
    let now = c.loop-next.self-inside in
    let way = c.loop-next.invariant.way call_laws lock_laws c.self.invariant.0 live in
    let done : HasAborted i.parts.forest c.abort_next.new.self c.args.txn = c.in_default.ensures.done i.parts.forest way.forest_is in
    let last_way = subst (λ (f : Transactions). IsOnWay call_laws lock_laws c.self.invariant.0 c.args.txn live c.loop-next.calls now.parts.tree f now.parts.locks now.parts.logs now.journal) (sym c.in_default.ensures.same) way in
    count-is call_laws lock_laws c.self.invariant.0 c.args.txn live last_way done c.in_default.ensures.none ∙ ap (λ (q : State). count_standing q c.args.txn) same

pub returns-clause-transactions : goal.returns-clause-transactions
returns-clause-transactions c =
    let i = c.self.inside in
    let same = state-is c.self.view_is in
    let live : fate_of (state_of i.parts.forest i.journal) c.args.txn ≡ Some Live = ap (λ (q : State). fate_of q c.args.txn) same ∙ c.requires in
    let way = c.loop-next.invariant.way call_laws lock_laws c.self.invariant.0 live in
    let now = c.loop-next.self-inside in
    let last_way = subst (λ (f : Transactions). IsOnWay call_laws lock_laws c.self.invariant.0 c.args.txn live c.loop-next.calls now.parts.tree f now.parts.locks now.parts.logs now.journal) (sym c.in_default.ensures.same) way in
    all-ended call_laws c.self.invariant.0 c.args.txn c.abort_next.new.self c.loop-next.transactions
    (subst (λ (f : Transactions). AreEnded (history (state_of i.parts.forest i.journal)) c.args.txn i.parts.forest f c.loop-next.transactions) (sym c.in_default.ensures.same) c.loop-next.invariant.ended)
    (λ x over. c.in_default.ensures.none x (below-back call_laws lock_laws c.self.invariant.0 c.args.txn live last_way x over))
    ∙ ap (λ (q : State). count_live q c.args.txn) same

pub returns-clause-ended : goal.returns-clause-ended
returns-clause-ended c =
    let i = c.self.inside in
    let s : State = state_of i.parts.forest i.journal in
    let same = state-is c.self.view_is in
    let live : fate_of s c.args.txn ≡ Some Live = ap (λ (q : State). fate_of q c.args.txn) same ∙ c.requires in
    let now = c.loop-next.self-inside in
    let way = c.loop-next.invariant.way call_laws lock_laws c.self.invariant.0 live in
    let done : HasAborted i.parts.forest c.abort_next.new.self c.args.txn = c.in_default.ensures.done i.parts.forest way.forest_is in
    let last_way = subst (λ (f : Transactions). IsOnWay call_laws lock_laws c.self.invariant.0 c.args.txn live c.loop-next.calls now.parts.tree f now.parts.locks now.parts.logs now.journal) (sym c.in_default.ensures.same) way in
    let asks = finite.retain_keys s.asks (λ u. not (over posix_calls (history s) c.args.txn u)) in
    let are = asks-are call_laws lock_laws c.self.invariant.0 c.args.txn live last_way done c.in_default.ensures.none in
    state-ended i.parts.forest c.abort_next.new.self i.journal c.tell.new.self (AbortEvent c.args.txn) asks done.limits done.base done.last
    (told-less i.journal now.journal c.tell.new.self (AbortEvent c.args.txn) asks last_way.journal are c.tell.ensures)
    ∙ ap (λ (q : State). after_abort q c.args.txn) same

pub returns-clause-alone : goal.returns-clause-alone
returns-clause-alone c = λ before alone.
    aborts-alone call_laws before c.args.self.now.state c.args.txn c.self.inside.parts.tree c.self.invariant.0.log
    (subst (λ (s : State). IsKept s.base (history s) s.last_txn s.last_stamp c.self.inside.parts.tree c.self.invariant.0.log) (state-is c.self.view_is) c.self.invariant.0.kept) alone
