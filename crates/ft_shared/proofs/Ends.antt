-- What a core says of an abort and of an undo is said of their answers.
use Rattle.std.proofs.Common.{◌≡◌, ℕ, Result, Ok, ap}
use Rattle.ft_core.specs.declared.fault.Fault.{Fault}
use Rattle.ft_core.specs.declared.request.Answer.TheVariants.{Aborted, Undone}
use Rattle.ft_core.specs.declared.request.Request.TheVariants.{Abort, Undo}
use Rattle.ft_core.specs.Promises.{IsJustMade, RanAlone}
use Rattle.ft_core.specs.States.{State, tree_of, count_standing}
use Rattle.ft_core.specs.Steps.{IsStep, exact_rule, answer_with}
use Rattle.ft_shared.specs.Guarded.{IsAborted, IsUndone}

module _ (old new : State) (t : ℕ) (result : Result ℕ Fault) where
  pub aborted_is : IsStep exact_rule old (Abort t) (answer_with Aborted result) new
      → ((before : State) → RanAlone before old t → (result ≡ Ok (count_standing old t)) × (tree_of new ≡ tree_of before)) → IsAborted old t (answer_with Aborted result) new
  aborted_is step alone = (step, λ before ran. let so = alone before ran in (ap (answer_with Aborted) so.0, so.1))

  pub undone_is : IsStep exact_rule old (Undo t) (answer_with Undone result) new
      → ((before : State) (k : ℕ) → IsJustMade before old t k → (result ≡ Ok k) × (tree_of new ≡ tree_of before)) → IsUndone old t (answer_with Undone result) new
  undone_is step made = (step, λ before k just. let so = made before k just in (ap (answer_with Undone) so.0, so.1))
