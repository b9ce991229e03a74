use Rattle.std.proofs.Common.{◌≡◌, ◌+◌, ◌++◌, ◌∷◌, [], ◌==◌, ℕ, Option, cond, reverse, Vec, Global, ap, sym, ◌∙◌, arith}
use Rattle.std.specs.FinMap as finite
use Rattle.ft_posix.specs.declared.call.Call.{Call as CallOf}
use Rattle.ft_posix.specs.Posix.{posix_calls}
use Rattle.ft_history.specs.History.{Base as HistoryBase}
use Rattle.ft_history.proofs.Living.{lived}
use Rattle.ft_core.specs.declared.request.Event.{Event}
use Rattle.ft_core.specs.declared.request.Event.TheVariants.{Begin, Call, Undo, Commit, Abort}
use Rattle.ft_core.specs.Histories.{granted, told}
use Rattle.ft_core.specs.States.{StoredState}
use Rattle.ft_serial.specs.declared.walk.Walk.{Walk}
use Rattle.ft_serial.specs.declared.asked.Asked.{Asked}
use Rattle.ft_serial.specs.Asked.{listed, asked, calls_in}
use Rattle.ft_serial.specs.Walks.{without_calls}
use Rattle.ft_serial.proofs.Reaching.{start, values}
use Rattle.ft_serial.proofs.Passing.{event-at, first, next-legal, same-top, gone-over}
use Rattle.ft_serial.proofs.Walking.{walk-begun, walk-granted, walk-undone, walk-committed, walk-aborted}
use Rattle.ft_serial.proofs.walk.Walk.pass.Goals as goal
use Rattle.ft_serial.proofs.walk.Walk.pass.Goals.{in-Call+in_ok-call-in-Call+in_ok-push_call-in-Call, in-Undo+in_ok-insert-in-Undo, in-Commit+in-Some, in-Commit+in_default, in-Abort+in-Some-remove, in-Abort+in_default-remove, in-Begin}

pub returns-clause-ok : goal.returns-clause-ok
returns-clause-ok c = λ given n all was none.
    let core : StoredState = c.args.core.now in
    let reached = c.requires.reached in
    let old : Walk = c.args.self.now in
    let base : HistoryBase posix_calls = start core reached in
    let sound = values core reached in
    let m : Walk = c.match-events-self.self in
    let new : Walk = record m { passed = m.passed + 1 } in
    let at : (e : Event) → c.index-events-self.result ≡ e → _ = λ e is. event-at c.args.events.now core.state.events n old.passed c.index-events-self.result e all c.requires.next c.index-events-self.is is in
    elim c.match-events-self.branch [
      | in-Call+in_ok-call-in-Call+in_ok-push_call-in-Call w ↦
          let a = w.in-Call in
          let e : Event = Call a.stamp a.txn a.call a.reply a.accesses in
          let legal = next-legal core reached (n + old.passed) e (at e a.is) in
          let one : new.passed ≡ old.passed + 1 = ap (λ (x : Walk). x.passed + 1) w.self-is in
          let on : n + new.passed ≡ (n + old.passed) + 1 = omega (arith, one) in
          gone-over core reached (n + old.passed) e (at e a.is) n new given on
          (walk-granted base sound (first core reached (n + old.passed) e (at e a.is)) given n old new was none one a.stamp a.txn a.call a.reply a.accesses legal (ap (λ (x : Walk). x.undone) w.self-is)
          (λ t.
          ap (λ (x : Walk). calls_in x.under t) w.self-is ∙ w.in_ok-push_call-in-Call.ensures.ok t
          ∙ ap (λ (k : CallOf). cond (t == w.find_top-top.result.top) (calls_in old.under t ++ record { txn = a.txn; call = record { stamp = a.stamp; call = k } } ∷ []) (calls_in old.under t)) w.in_ok-call-in-Call.ensures
          ∙ ap (λ (n : ℕ). cond (t == n) (calls_in old.under t ++ asked (granted a.stamp a.txn a.call a.reply a.accesses) ∷ []) (calls_in old.under t))
          (w.find_top-top.ensures.top ∙ same-top core reached (n + old.passed) e (at e a.is) a.txn (lived posix_calls core.state.base.last_txn (told (first core reached (n + old.passed) e (at e a.is))) a.txn legal.0.live).begun))
          (ap (λ (x : Walk). x.closing.items) w.self-is ∙ none))
      | in-Undo+in_ok-insert-in-Undo w ↦
          let a = w.in-Undo in
          let e : Event = Undo a.stamp in
          let one : new.passed ≡ old.passed + 1 = ap (λ (x : Walk). x.passed + 1) w.self-is in
          let on : n + new.passed ≡ (n + old.passed) + 1 = omega (arith, one) in
          gone-over core reached (n + old.passed) e (at e a.is) n new given on
          (walk-undone base sound (first core reached (n + old.passed) e (at e a.is)) given n old new was none one a.stamp (next-legal core reached (n + old.passed) e (at e a.is))
          (ap (λ (x : Walk). x.undone) w.self-is ∙ w.in_ok-insert-in-Undo.ensures.ok) (ap (λ (x : Walk). x.under) w.self-is) (ap (λ (x : Walk). x.closing.items) w.self-is ∙ none))
      | in-Commit+in-Some w ↦
          let a = w.in-Commit in
          let e : Event = Commit a.txn in
          let one : new.passed ≡ old.passed + 1 = ap (λ (x : Walk). x.passed + 1) w.self-is in
          let on : n + new.passed ≡ (n + old.passed) + 1 = omega (arith, one) in
          gone-over core reached (n + old.passed) e (at e a.is) n new given on
          (walk-committed base sound (first core reached (n + old.passed) e (at e a.is)) given n old new was none one a.txn (next-legal core reached (n + old.passed) e (at e a.is))
          (ap (λ (x : Walk). x.undone) w.self-is) (ap (λ (x : Walk). x.under) w.self-is ∙ w.remove.ensures.after ∙ ap (finite.remove old.under) w.txn.view_is)
          (ap (λ (x : Walk). x.closing.items) w.self-is ∙ w.reverse.ensures.items
          ∙ ap (λ (o : Option (Vec Asked Global)). reverse (listed o)) (sym w.in-Some.is ∙ w.remove.ensures.value ∙ ap (finite.get old.under) w.txn.view_is)))
      | in-Commit+in_default w ↦
          let a = w.in-Commit in
          let e : Event = Commit a.txn in
          let one : new.passed ≡ old.passed + 1 = ap (λ (x : Walk). x.passed + 1) w.self-is in
          let on : n + new.passed ≡ (n + old.passed) + 1 = omega (arith, one) in
          gone-over core reached (n + old.passed) e (at e a.is) n new given on
          (walk-committed base sound (first core reached (n + old.passed) e (at e a.is)) given n old new was none one a.txn (next-legal core reached (n + old.passed) e (at e a.is))
          (ap (λ (x : Walk). x.undone) w.self-is) (ap (λ (x : Walk). x.under) w.self-is ∙ w.remove.ensures.after ∙ ap (finite.remove old.under) w.txn.view_is)
          (ap (λ (x : Walk). x.closing.items) w.self-is ∙ none
          ∙ ap (λ (o : Option (Vec Asked Global)). reverse (listed o)) (sym w.in_default.is ∙ w.remove.ensures.value ∙ ap (finite.get old.under) w.txn.view_is)))
      | in-Abort+in-Some-remove w ↦
          let a = w.in-Abort in
          let e : Event = Abort a.txn in
          let one : new.passed ≡ old.passed + 1 = ap (λ (x : Walk). x.passed + 1) w.self-is in
          let on : n + new.passed ≡ (n + old.passed) + 1 = omega (arith, one) in
          gone-over core reached (n + old.passed) e (at e a.is) n new given on
          (walk-aborted base sound (first core reached (n + old.passed) e (at e a.is)) given n old new was none one a.txn (next-legal core reached (n + old.passed) e (at e a.is))
          (ap (λ (x : Walk). x.undone) w.self-is ∙ w.forget_all.ensures
          ∙ ap (without_calls old.undone)
          (w.deref.ensures.value ∙ ap listed (sym w.in-Some-remove.is ∙ w.remove-in-Abort.ensures.value ∙ ap (finite.get old.under) w.txn-in-Abort.view_is)))
          (ap (λ (x : Walk). x.under) w.self-is ∙ w.remove-in-Abort.ensures.after ∙ ap (finite.remove old.under) w.txn-in-Abort.view_is)
          (ap (λ (x : Walk). x.closing.items) w.self-is ∙ none))
      | in-Abort+in_default-remove w ↦
          let a = w.in-Abort in
          let e : Event = Abort a.txn in
          let one : new.passed ≡ old.passed + 1 = ap (λ (x : Walk). x.passed + 1) w.self-is in
          let on : n + new.passed ≡ (n + old.passed) + 1 = omega (arith, one) in
          gone-over core reached (n + old.passed) e (at e a.is) n new given on
          (walk-aborted base sound (first core reached (n + old.passed) e (at e a.is)) given n old new was none one a.txn (next-legal core reached (n + old.passed) e (at e a.is))
          (ap (λ (x : Walk). x.undone) w.self-is
          ∙ ap (λ (o : Option (Vec Asked Global)). without_calls old.undone (listed o))
          (sym w.in_default-remove.is ∙ w.remove-in-Abort.ensures.value ∙ ap (finite.get old.under) w.txn-in-Abort.view_is))
          (ap (λ (x : Walk). x.under) w.self-is ∙ w.remove-in-Abort.ensures.after ∙ ap (finite.remove old.under) w.txn-in-Abort.view_is)
          (ap (λ (x : Walk). x.closing.items) w.self-is ∙ none))
      | in-Begin w ↦
          let a = w.in-Begin in
          let e : Event = Begin a.txn a.parent in
          let one : new.passed ≡ old.passed + 1 = ap (λ (x : Walk). x.passed + 1) w.self-is in
          let on : n + new.passed ≡ (n + old.passed) + 1 = omega (arith, one) in
          gone-over core reached (n + old.passed) e (at e a.is) n new given on
          (walk-begun base sound (first core reached (n + old.passed) e (at e a.is)) given n old new was none one a.txn a.parent (next-legal core reached (n + old.passed) e (at e a.is))
          (ap (λ (x : Walk). x.undone) w.self-is) (ap (λ (x : Walk). x.under) w.self-is) (ap (λ (x : Walk). x.closing.items) w.self-is ∙ none))
    ]
