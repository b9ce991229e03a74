-- What a transfer needs of the answer to a request, or the answer if it does not have that; and the
-- answer to a transfer.
use Rattle.std.specs.Prelude.{ℕ, Bool, false, List, codes, if◌then◌else◌, Result, Ok, Err}
use Rattle.ft_posix.specs.declared.call.Reply.TheVariants.{Number, Bytes}
use Rattle.ft_core.specs.declared.request.Answer.{Answer}
use Rattle.ft_core.specs.declared.request.Answer.TheVariants.{Txn, Granted}
use Rattle.ft_line.specs.Texts.{text_of}
use Rattle.ft_line.specs.Wells.{is_well}
use Rattle.ft_transfer.specs.declared.transfer.TransferAnswer.{TransferAnswer}
use Rattle.ft_transfer.specs.declared.transfer.TransferAnswer.TheVariants.{Request, File}

-- nothing, if a request did what it requests
abbrev pub done : Answer → Result (Unit {0}) Answer
done answer = if is_well answer then Ok tt else Err answer

-- the answer to a request that did what it requests
abbrev pub well_in : Answer → Result Answer Answer
well_in answer = if is_well answer then Ok answer else Err answer

-- the transaction that was begun
abbrev pub txn_in : Answer → Result ℕ Answer
txn_in (Txn txn) = Ok txn
txn_in other = Err other

-- the number that a call returned
abbrev pub number_in : Answer → Result ℕ Answer
number_in (Granted stamp (Number number)) = Ok number
number_in other = Err other

-- the bytes that a call returned
abbrev pub bytes_in : Answer → Result (List ℕ) Answer
bytes_in (Granted stamp (Bytes bytes)) = Ok bytes
bytes_in other = Err other

-- a transfer was made
abbrev pub did_well : TransferAnswer → Bool
did_well (Request answer) = is_well answer
did_well File = false

-- the text of its answer, without the line feed after it
abbrev pub transfer_text : TransferAnswer → List ℕ
transfer_text (Request answer) = text_of answer
transfer_text File = codes "refused File"
