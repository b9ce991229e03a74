-- What is said of a line where there was no memory for its reply.
use Rattle.std.proofs.Common.{◌≡◌, ◌||◌, ℕ, Bool, List, [], ◌∷◌, ◌++◌, Option, Result, Ok, Err, IfOk, OnErr, inl, inr, refl, subst}
use Rattle.ft_core.specs.States.{State}
use Rattle.ft_transfer.specs.declared.transfer.Transfer.{Transfer}
use Rattle.ft_transfer.specs.declared.transfer.TransferAnswer.{TransferAnswer}
use Rattle.ft_transfer.specs.Answers.{did_well, transfer_text}
use Rattle.ft_transfer.specs.Disk.{FileTold}
use Rattle.ft_transfer.specs.Transfers.{IsTransfer}
use Rattle.ft_names.specs.declared.meaning.LineMeaning.{LineMeaning}
use Rattle.ft_names.specs.declared.meaning.LineMeaning.TheVariants as means
use Rattle.ft_names.specs.Names.{Moment, Naming}
use Rattle.ft_strict.specs.Strict.{MayAnswerStrictly, MeaningDoes, MeaningMayDo, TransferDoes, may_fail, strict_meaning_of}

-- what holds of any outcome holds of an error
pub on_err : {T E Q : Type 0} (r : Result T E) → Q → OnErr r Q
on_err (Ok x) q = tt
on_err (Err e) q = q

-- a core and names are the same if each of them is
pub same_moment : (state state_after : State) (names names_after : Naming) → state_after ≡ state → names_after ≡ names → ◌≡◌ {A = Moment} (state_after, names_after) (state, names)
same_moment state state_after names names_after one other = λ i. (one i, other i)

module _ (tells : FileTold → Type 0) where
  -- what the line means was carried out or not, and so was the line
  pub strictly : (old new : Moment) (bytes : List ℕ) (named : LineMeaning × Option (List ℕ)) → named ≡ strict_meaning_of old.1 bytes → MeaningMayDo tells old named.0 named.1 new → MayAnswerStrictly tells old bytes new
  strictly old new bytes named is (inl h) = inl h
  strictly old new bytes named is (inr h) = inr (h.0 || may_fail old.1 bytes, h.1, (h.0, subst (λ (n : LineMeaning × Option (List ℕ)). MeaningDoes tells h.0 old n.0 n.1 h.1 new) is h.2, refl))

  -- a transfer changes no name
  pub transfer_does : {T E : Type 0} (text : T → List ℕ) (well : T → Bool) (r : Result T E) (old : Moment) (new : State) (transfer : Transfer) (given : Option (List ℕ)) → IfOk r (λ reply. TransferDoes tells (well reply) old.0 transfer (text reply) new) → IfOk r (λ reply. MeaningDoes tells (well reply) old (means.Transfer transfer) given (text reply) (new, old.1))
  transfer_does text well (Ok x) old new transfer given h = (h, refl)
  transfer_does text well (Err e) old new transfer given h = tt

  pub transfer_may_do : {T E : Type 0} (r : Result T E) (old : Moment) (new : State) (transfer : Transfer) (given : Option (List ℕ)) → OnErr r ((well : Bool) × (text : List ℕ) × TransferDoes tells well old.0 transfer text new) → OnErr r (MeaningMayDo tells old (means.Transfer transfer) given (new, old.1))
  transfer_may_do (Ok x) old new transfer given h = tt
  transfer_may_do (Err e) old new transfer given h = inr (h.0, h.1, (h.2, refl))

  -- a transfer was answered, and there was no memory for its text
  pub transfer_untold : {T E : Type 0} (r : Result T E) (old new : State) (transfer : Transfer) (answer : TransferAnswer) → IsTransfer tells old transfer answer new → OnErr r ((well : Bool) × (text : List ℕ) × TransferDoes tells well old transfer text new)
  transfer_untold (Ok x) old new transfer answer h = tt
  transfer_untold (Err e) old new transfer answer h = (did_well answer, transfer_text answer ++ 10 ∷ [], (answer, h, refl, refl))
