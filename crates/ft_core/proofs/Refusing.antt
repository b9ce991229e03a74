-- The refusals of the transactions are those of the state.
use Rattle.std.proofs.Common.{◌≡◌, ◌||◌, ℕ, Bool, true, false, nat_le, Option, Some, None, Result, Ok, Err, IfErr, IsErrAnd, MatchOption, length, arith, refl, sym, ap, subst, ◌∙◌}
use Rattle.std.specs.Prelude.{nat_lt}
use Rattle.std.specs.Option.{option_map}
use Rattle.std.proofs.lemmas.Bool.{ltb-false}
use Rattle.ft_posix.specs.Posix.{posix_calls}
use Rattle.ft_forest.specs.declared.TheConstants.{LAST_NUMBER}
use Rattle.ft_forest.specs.declared.fault.ForestFault.{ForestFault}
use Rattle.ft_forest.specs.declared.fault.ForestFault.TheVariants as forest_fault
use Rattle.ft_forest.specs.declared.state.State.{State as Life}
use Rattle.ft_forest.specs.declared.state.State.TheVariants.{Live as LiveState, Committed as CommittedState, Aborted as AbortedState}
use Rattle.ft_forest.specs.Transactions.{Transactions, state_in, last_in, depth_in, depth_within, live_children_in, IsLiveChild}
use Rattle.ft_forest.specs.Refusals.{refusal_of as refusal_after, fault_if as forest_fault_if, is_full, begin_refusal, sub_refusal, commit_refusal, IsRefusal}
use Rattle.ft_history.specs.History.{begun}
use Rattle.ft_history.specs.History.Fate.{Live}
use Rattle.ft_core.specs.declared.fault.Fault.{Fault}
use Rattle.ft_core.specs.declared.fault.Fault.TheVariants.{Memory, ChildLive, Full, Deep}
use Rattle.ft_core.specs.declared.parts.Parts.{Parts}
use Rattle.ft_core.specs.declared.request.Request.{Request}
use Rattle.ft_core.specs.declared.request.Request.TheVariants.{Begin, Sub, Commit}
use Rattle.ft_core.specs.declared.request.Answer.{Answer}
use Rattle.ft_core.specs.declared.request.Answer.TheVariants.{Refused}
use Rattle.ft_core.specs.Faults.{fault_from}
use Rattle.ft_core.specs.States.{State, history, has_most_transactions, has_live_child, is_deepest, fate_of, fate_in}
use Rattle.ft_core.specs.Journals.{Journaled, state_of}
use Rattle.ft_core.specs.Opens.{add_refusal}
use Rattle.ft_core.specs.Steps.{fault_if, fault_of_fate, refusal_of, begin_request, IsAnswered, IsStep, exact_rule, answer_with}
use Rattle.ft_core.specs.Kept.{IsStarted, AreTransactions, IsCoreOf}
use Rattle.ft_core.specs.Laws.{CallLaws}
use Rattle.ft_core.proofs.Children.{child-same}
use Rattle.ft_core.proofs.Counted.{none-counted}

from-if : (b : Bool) (f : ForestFault) (later : Option ForestFault) → option_map fault_from (forest_fault_if b f later) ≡ fault_if b (fault_from f) (option_map fault_from later)
from-if true f later = refl
from-if false f later = refl

from-state : (o : Option Life) (later : Option ForestFault) → option_map fault_from (refusal_after o later) ≡ fault_of_fate (fate_in o) (option_map fault_from later)
from-state None later = refl
from-state (Some LiveState) later = refl
from-state (Some CommittedState) later = refl
from-state (Some AbortedState) later = refl

module _ (j : Journaled) (forest : Transactions) (are : AreTransactions (state_of forest j).base (history (state_of forest j)) (last_in forest) forest) (started : IsStarted (state_of forest j).base (history (state_of forest j)) (last_in forest) j.last_stamp) where
  abbrev s : State
  s = state_of forest j

  full-same : is_full forest ≡ has_most_transactions s
  full-same =
      let base_is = are.base_is in
      let last = are.last in
      let counted = started.counted in
      let count : length forest.list ≡ length (begun posix_calls (history s)) = omega arith in
      (λ i. nat_le forest.limits.transactions (count i) || nat_le LAST_NUMBER (last i))

  deep-same : (t : ℕ) → nat_le forest.limits.depth (depth_in forest t) ≡ is_deepest s t
  deep-same t = λ i. nat_le forest.limits.depth (depth_within (λ x. are.parents x i) t t)

  pub begin-same : option_map fault_from (begin_refusal forest) ≡ refusal_of s Begin
  begin-same = from-if (is_full forest) forest_fault.Full None ∙ ap (λ b. fault_if b Full None) full-same

  pub sub-same : (t : ℕ) → option_map fault_from (sub_refusal forest t) ≡ refusal_of s (Sub t)
  sub-same t =
      from-state (state_in forest t) (forest_fault_if (nat_le forest.limits.depth (depth_in forest t)) forest_fault.Deep (begin_refusal forest))
      ∙ ap (fault_of_fate (fate_in (state_in forest t))) (from-if (nat_le forest.limits.depth (depth_in forest t)) forest_fault.Deep (begin_refusal forest) ∙ (λ i. fault_if (deep-same t i) Deep (begin-same i)))
      ∙ ap (λ o. fault_of_fate o (fault_if (is_deepest s t) Deep (refusal_of s Begin))) (are.fates t)

  pub add-same : (up : Option ℕ) → option_map fault_from (add_refusal forest up) ≡ refusal_of s (begin_request up)
  add-same None = begin-same
  add-same (Some t) = sub-same t

module _ (W : CallLaws) (p : Parts) (j : Journaled) (core : IsCoreOf (state_of p.forest j) p j) (t : ℕ) where
  pub commit-same : option_map fault_from (commit_refusal p.forest t) ≡ refusal_of (state_of p.forest j) (Commit t)
  commit-same =
      let some = nat_lt 0 (live_children_in p.forest t) in
      from-state (state_in p.forest t) (forest_fault_if some forest_fault.ChildLive None)
      ∙ ap (fault_of_fate (fate_in (state_in p.forest t))) (from-if some forest_fault.ChildLive None ∙ ap (λ b. fault_if b ChildLive None) (child-same W core t))
      ∙ ap (λ o. fault_of_fate o (fault_if (has_live_child (state_of p.forest j) t) ChildLive None)) (core.transactions.fates t)

  -- If the forest refuses no commit of it, it is live and has no live child.
  pub commit-allowed : commit_refusal p.forest t ≡ None → (fate_of (state_of p.forest j) t ≡ Some Live) × ((x : ℕ) → IsLiveChild p.forest t x → ⊥)
  commit-allowed fine =
      let is = allowed (state_in p.forest t) (nat_lt 0 (live_children_in p.forest t)) fine in
      let few = ltb-false 0 (live_children_in p.forest t) is.1 in
      (sym (core.transactions.fates t) ∙ ap fate_in is.0, none-counted p.forest t (omega arith))
    where
      some : {A : Type 0} {x : A} → Some x ≡ None → ⊥
      some e = cc

      allowed : (o : Option Life) (b : Bool) → refusal_after o (forest_fault_if b forest_fault.ChildLive None) ≡ None → (o ≡ Some LiveState) × (b ≡ false)
      allowed None b e = absurd (some e)
      allowed (Some LiveState) true e = absurd (some e)
      allowed (Some LiveState) false e = (refl, refl)
      allowed (Some CommittedState) b e = absurd (some e)
      allowed (Some AbortedState) b e = absurd (some e)

-- where nothing refuses it but memory, it is memory
pub only-memory : (o : Option ForestFault) (due : Option Fault) (fault : ForestFault) → option_map fault_from o ≡ due → due ≡ None → IsRefusal o fault → fault_from fault ≡ Memory
only-memory None due fault same none is = ap fault_from is
only-memory (Some f) due fault same none is = absurd (some (same ∙ none))
  where
    some : {A : Type 0} {x : A} → Some x ≡ None → ⊥
    some e = cc

-- what `?` hands on is this fault
pub err-is : {A : Type 0} (r : Result A Fault) (f g : Fault) → IsErrAnd r (λ e. e ≡ f) → f ≡ g → IfErr r (λ e. e ≡ g)
err-is (Ok x) f g h e = tt
err-is (Err y) f g h e = h ∙ e

-- a refusal that is due is a legal step
pub step-refused : {A : Type 0} (s : State) (r : Request) (told : A → Answer) (result : Result A Fault) (f : Fault) → IsErrAnd result (λ e. e ≡ f) → refusal_of s r ≡ Some f → IsStep exact_rule s r (answer_with told result) s
step-refused s r told (Ok x) f is due = absurd is
step-refused s r told (Err y) f is due = subst (λ o. MatchOption o (IsAnswered exact_rule s r (Refused y) s) (λ fault. (Refused y ≡ Refused fault) × (s ≡ s))) (sym due) (ap Refused is, refl)
