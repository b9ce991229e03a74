-- What is said of a line once its meaning is carried out.
use Rattle.std.proofs.Common.{◌≡◌, ℕ, List, [], ◌∷◌, ◌++◌, Option, Result, Ok, Err, OnErr, OnOk, inl, inr, refl, subst}
use Rattle.ft_core.specs.States.{State}
use Rattle.ft_transfer.specs.declared.transfer.Transfer.{Transfer}
use Rattle.ft_transfer.specs.declared.transfer.TransferAnswer.{TransferAnswer}
use Rattle.ft_transfer.specs.Answers.{transfer_text}
use Rattle.ft_transfer.specs.Disk.{FileTold}
use Rattle.ft_transfer.specs.Transfers.{IsTransfer}
use Rattle.ft_names.specs.declared.meaning.LineMeaning.{LineMeaning}
use Rattle.ft_names.specs.declared.meaning.LineMeaning.TheVariants as means
use Rattle.ft_names.specs.Names.{Moment}
use Rattle.ft_names.specs.Meanings.{meaning_in}
use Rattle.ft_names.specs.Lines.{GivesText, MayGiveText, MeaningGives, MeaningMayGive, TransferGives}

-- what holds of any outcome holds of an error
pub on_err : {T E Q : Type 0} (r : Result T E) → Q → OnErr r Q
on_err (Ok x) q = tt
on_err (Err e) q = q

module _ (tells : FileTold → Type 0) where
  pub gives_text : {T E : Type 0} (r : Result T E) (old new : Moment) (bytes text : List ℕ) (named : LineMeaning × Option (List ℕ)) → named ≡ meaning_in old.1 bytes → OnOk r (MeaningGives tells old named.0 named.1 text new) → OnOk r (GivesText tells old bytes text new)
  gives_text (Err e) old new bytes text named is h = tt
  gives_text (Ok x) old new bytes text named is h = subst (λ (n : LineMeaning × Option (List ℕ)). MeaningGives tells old n.0 n.1 text new) is h

  may : (old new : Moment) (bytes : List ℕ) (named : LineMeaning × Option (List ℕ)) → named ≡ meaning_in old.1 bytes → MeaningMayGive tells old named.0 named.1 new → MayGiveText tells old bytes new
  may old new bytes named is (inl h) = inl h
  may old new bytes named is (inr h) = inr (h.0, subst (λ (n : LineMeaning × Option (List ℕ)). MeaningGives tells old n.0 n.1 h.0 new) is h.1)

  pub may_give_text : {T E : Type 0} (r : Result T E) (old new : Moment) (bytes : List ℕ) (named : LineMeaning × Option (List ℕ)) → named ≡ meaning_in old.1 bytes → OnErr r (MeaningMayGive tells old named.0 named.1 new) → OnErr r (MayGiveText tells old bytes new)
  may_give_text (Ok x) old new bytes named is h = tt
  may_give_text (Err e) old new bytes named is h = may old new bytes named is h

  -- a transfer changes no name
  pub transfer_gives : {T E : Type 0} (r : Result T E) (old : Moment) (new : State) (transfer : Transfer) (given : Option (List ℕ)) (text : List ℕ) → OnOk r (TransferGives tells old.0 transfer text new) → OnOk r (MeaningGives tells old (means.Transfer transfer) given text (new, old.1))
  transfer_gives (Ok x) old new transfer given text h = (h, refl)
  transfer_gives (Err e) old new transfer given text h = tt

  pub transfer_may_give : {T E : Type 0} (r : Result T E) (old : Moment) (new : State) (transfer : Transfer) (given : Option (List ℕ)) → OnErr r ((text : List ℕ) × TransferGives tells old.0 transfer text new) → OnErr r (MeaningMayGive tells old (means.Transfer transfer) given (new, old.1))
  transfer_may_give (Ok x) old new transfer given h = tt
  transfer_may_give (Err e) old new transfer given h = inr (h.0, (h.1, refl))

  -- a transfer was answered, and there was no memory for its text
  pub transfer_untold : {T E : Type 0} (r : Result T E) (old new : State) (transfer : Transfer) (answer : TransferAnswer) → IsTransfer tells old transfer answer new → OnErr r ((text : List ℕ) × TransferGives tells old transfer text new)
  transfer_untold (Ok x) old new transfer answer h = tt
  transfer_untold (Err e) old new transfer answer h = (transfer_text answer ++ 10 ∷ [], (answer, h, refl))
