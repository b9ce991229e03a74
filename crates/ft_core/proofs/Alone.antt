-- An undo of the call just made and an abort of one that ran alone give back the tree from before.
use Rattle.std.proofs.Common.{◌≡◌, ℕ, false, List, [], ◌∷◌, ◌++◌, Option, Some, MatchOption, append_assoc, length, arith, refl, sym, ap, subst, ◌∙◌}
use Rattle.std.specs.Prelude.{nat_lt}
use Rattle.std.proofs.lemmas.Bool.{false≢true, lt-ltb}
use Rattle.ft_cells.specs.Cells.{Cells}
use Rattle.ft_posix.specs.Posix.{posix_calls}
use Rattle.ft_posix.specs.RunLaws.{tree_after}
use Rattle.ft_history.specs.History.{Base as HistoryBase, Fate, standing, live_children, IsLive}
use Rattle.ft_history.specs.History.Fate.{Live}
use Rattle.ft_history.specs.History.Event.{Begin as WasBegun, Call as WasGranted, Undo as WasUndone}
use Rattle.ft_history.specs.Undoing.{Target, undo_target}
use Rattle.ft_history.specs.Undoing.Target.{Found}
use Rattle.ft_history.specs.Legal.{Legal}
use Rattle.ft_history.proofs.Promises.{just_made, abort_alone}
use Rattle.ft_history.proofs.Words.{by_list}
use Rattle.ft_core.specs.declared.fault.Fault.TheVariants.{ChildLive}
use Rattle.ft_core.specs.declared.request.Request.TheVariants.{Undo as UndoRequest}
use Rattle.ft_core.specs.declared.request.Answer.{Answer}
use Rattle.ft_core.specs.declared.request.Answer.TheVariants.{Txn, Granted as GrantedAnswer, Waits, Dropped, Committed, Aborted, Undone, Cleared, Refused}
use Rattle.ft_core.specs.declared.request.Event.{Event}
use Rattle.ft_core.specs.declared.request.Event.TheVariants.{Begin, Call as CallEvent, Undo, Abort}
use Rattle.ft_core.specs.Histories.{History, Granted, granted, as_happening, told, told_after}
use Rattle.ft_core.specs.States.{State, history, fate_of, has_live_child, tree_of, after_undo, after_abort}
use Rattle.ft_core.specs.Promises.{IsJustMade, RanAlone}
use Rattle.ft_core.specs.Steps.{BlockingRule, IsStep, IsAnswered, IsUndone, fault_if, fault_of_fate, fault_of_target}
use Rattle.ft_core.specs.Kept.{Item, IsKept}
use Rattle.ft_core.specs.Laws.{CallLaws}
use Rattle.ft_core.proofs.Told.{told-push, told_after-append}
use Rattle.ft_core.proofs.Joining.{start, values}

abbrev KeptIn : State → Cells → (ℕ → List Item) → Type 0
KeptIn s cells log = IsKept s.base (history s) s.last_txn s.last_stamp cells log

-- no child where the list of children is not longer than nothing
pub childless : (xs : List ℕ) → nat_lt 0 (length xs) ≡ false → xs ≡ []
childless xs none = by_list xs (λ e. e) (λ y ys e. absurd (false≢true (sym none ∙ ap (λ zs. nat_lt 0 (length zs)) e ∙ lt-ltb 0 (length (y ∷ ys)) (omega arith))))

-- the events after others stand in front
told-front : (h : History) (events : List Event) → told_after h events ≡ told events ++ h
told-front h [] = refl
told-front h (e ∷ events) =
    told-front (as_happening e ∷ h) events
    ∙ sym (append_assoc (told events) (as_happening e ∷ []) h) ∙ ap (λ g. g ++ h) (sym (told-front (as_happening e ∷ []) events))

told-both : (first later : List Event) → told (first ++ later) ≡ told later ++ told first
told-both first later = told_after-append [] first later ∙ told-front (told first) later

module _ (W : CallLaws) where
  -- The call just made is what an undo comes upon, and the undo gives back the tree before it.
  pub record UndoesLast (before s : State) (t k : ℕ) (c : Granted) : Type 0 where
    pub live : fate_of s t ≡ Some Live
    pub target : undo_target posix_calls (history s) t ≡ Found c
    pub stamp : c.call.stamp ≡ k
    pub tree : tree_of (after_undo s k) ≡ tree_of before

  undoes-last : (before s : State) (t k : ℕ) (cells : Cells) (log : ℕ → List Item) → KeptIn s cells log → (just : IsJustMade before s t k) → UndoesLast before s t k (granted k t just.call just.reply just.accesses)
  undoes-last before s t k cells log kept just =
      let c : Granted = granted k t just.call just.reply just.accesses in
      let e : Event = CallEvent k t just.call just.reply just.accesses in
      let past : history s ≡ WasGranted c ∷ history before = ap told just.made ∙ told-push before.events e in
      let from : HistoryBase posix_calls = start W kept in
      let legal : Legal posix_calls from (WasGranted c ∷ history before) = subst (Legal posix_calls from) past kept.core.legal in
      let alone : live_children posix_calls s.base.last_txn (WasGranted c ∷ history before) t ≡ [] = subst (λ g. live_children posix_calls s.base.last_txn g t ≡ []) past (childless (live_children posix_calls s.base.last_txn (history s) t) just.alone) in
      let made = just_made posix_calls W.lawful from (values W kept) (history before) c legal alone in
      record {
        live = subst (λ g. IsLive posix_calls s.base.last_txn g t) (sym past) made.0.live;
        target = ap (λ g. undo_target posix_calls g t) past ∙ made.0.target;
        stamp = refl;
        tree = ap (λ g. tree_after s.base.tree (standing posix_calls g)) (told-push s.events (Undo k) ∙ ap (λ g. WasUndone k ∷ g) past) ∙ (λ i. tree_after (just.base i).tree (made.1.standing i));
      }

  pub just-live : (before s : State) (t k : ℕ) (cells : Cells) (log : ℕ → List Item) → KeptIn s cells log → IsJustMade before s t k → fate_of s t ≡ Some Live
  just-live before s t k cells log kept just = (undoes-last before s t k cells log kept just).live

  pub step-last : (rule : BlockingRule) (before s s' : State) (t k : ℕ) (a : Answer) (cells : Cells) (log : ℕ → List Item) → KeptIn s cells log → IsJustMade before s t k → IsStep rule s (UndoRequest t) a s'
      → (a ≡ Undone k) × (tree_of s' ≡ tree_of before)
  step-last rule before s s' t k a cells log kept just step =
      let c : Granted = granted k t just.call just.reply just.accesses in
      let undoes = undoes-last before s t k cells log kept just in
      let allowed : MatchOption (fault_of_fate (Some Live) (fault_if false ChildLive (fault_of_target (undo_target posix_calls (history s) t)))) (IsAnswered rule s (UndoRequest t) a s') (λ fault. (a ≡ Refused fault) × (s' ≡ s)) =
      subst (λ b. MatchOption (fault_of_fate (Some Live) (fault_if b ChildLive (fault_of_target (undo_target posix_calls (history s) t)))) (IsAnswered rule s (UndoRequest t) a s') (λ fault. (a ≡ Refused fault) × (s' ≡ s))) just.alone
      (subst (λ (o : Option Fate). MatchOption (fault_of_fate o (fault_if (has_live_child s t) ChildLive (fault_of_target (undo_target posix_calls (history s) t)))) (IsAnswered rule s (UndoRequest t) a s') (λ fault. (a ≡ Refused fault) × (s' ≡ s))) undoes.live step) in
      let answered : IsAnswered rule s (UndoRequest t) a s' =
      subst (λ (d : Target posix_calls). MatchOption (fault_of_target d) (IsAnswered rule s (UndoRequest t) a s') (λ fault. (a ≡ Refused fault) × (s' ≡ s))) undoes.target allowed in
      let told = undone a answered in
      let is = subst (λ (d : Target posix_calls). IsUndone s d told.0 s') undoes.target told.2 in (
        told.1 ∙ ap Undone is.0,
        ap tree_of (is.1 ∙ ap (after_undo s) is.0) ∙ undoes.tree,
      )
    where
      undone : (a : Answer) → IsAnswered rule s (UndoRequest t) a s' → (k : ℕ) × (a ≡ Undone k) × IsUndone s (undo_target posix_calls (history s) t) k s'
      undone (Refused fault) h = absurd h.1
      undone (Undone k) h = (k, refl, h)
      undone (Txn u) h = absurd h
      undone (GrantedAnswer k reply) h = absurd h
      undone (Waits blockers) h = absurd h
      undone Dropped h = absurd h
      undone Committed h = absurd h
      undone (Aborted n) h = absurd h
      undone Cleared h = absurd h

  -- The abort of a transaction that ran alone gives back the tree of its begin.
  pub aborts-alone : (before s : State) (t : ℕ) (cells : Cells) (log : ℕ → List Item) → KeptIn s cells log → RanAlone before s t → tree_of (after_abort s t) ≡ tree_of before
  aborts-alone before s t cells log kept alone =
      let from : HistoryBase posix_calls = start W kept in
      let split : history s ≡ told alone.later ++ WasBegun t alone.up ∷ history before =
      ap told alone.split ∙ told-both before.events (Begin t alone.up ∷ alone.later) ∙ ap (λ g. g ++ history before) (told-front (WasBegun t alone.up ∷ []) alone.later) ∙ append_assoc (told alone.later) (WasBegun t alone.up ∷ []) (history before) in
      let same = abort_alone posix_calls W.lawful from (values W kept) (history s) kept.core.legal t (history before)
      (record { live = alone.live; up = alone.up; later = told alone.later; split = split; within = alone.within }) in
      (λ i. tree_after s.base.tree (standing posix_calls (told-push s.events (Abort t) i))) ∙ (λ i. tree_after (alone.base i).tree (same.standing i))
