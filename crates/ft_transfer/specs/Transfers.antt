-- A transfer: a run of requests in one subtransaction, which is done whole or not at all. (The rules
-- for transfers are this project's own: docs/SCRIPT.md.)
use Rattle.std.specs.Prelude.{◌≡◌, ◌⊎◌, ℕ, pos, ◌-◌, ◌^◌, true, false, List, length, None, Result, Ok, Err}
use Rattle.ft_cells.specs.declared.open_file.AccessMode.TheVariants.{ReadOnly, WriteOnly}
use Rattle.ft_posix.specs.declared.call.Call.TheVariants.{Open, Ftruncate, Write, Read, Close}
use Rattle.ft_posix.specs.declared.call.OpenFlags.{OpenFlags}
use Rattle.ft_core.specs.declared.request.Request.{Request}
use Rattle.ft_core.specs.declared.request.Request.TheVariants.{Sub, Ask, Commit, Abort}
use Rattle.ft_core.specs.declared.request.Answer.{Answer}
use Rattle.ft_core.specs.States.{State}
use Rattle.ft_line.specs.Lines.{IsLegal}
use Rattle.ft_transfer.specs.declared.transfer.Direction.{Direction}
use Rattle.ft_transfer.specs.declared.transfer.Direction.TheVariants.{Put, Get}
use Rattle.ft_transfer.specs.declared.transfer.Transfer.{Transfer}
use Rattle.ft_transfer.specs.declared.transfer.TransferAnswer.{TransferAnswer}
use Rattle.ft_transfer.specs.declared.transfer.TransferAnswer.TheVariants as answers
use Rattle.ft_transfer.specs.Answers.{bytes_in, done, number_in, txn_in, well_in}
use Rattle.ft_transfer.specs.Disk.{FileTold, Reads, Writes, Fails}

-- How a part of a transfer ends: the answer to its last request, if each did what it requests, or
-- the answer with which the transfer ends.
abbrev pub Made : Type 0
Made = Result Answer TransferAnswer

-- a part of a transfer: how it ends, and the state then
abbrev pub Part : Type 1
Part = Made → State → Type 0

-- A request is answered by a legal step. Got is what is needed of the answer, or the whole answer if
-- it does not have that.
pub record Obtains {A : Type 0} (old : State) (request : Request) (needed : Answer → Result A Answer) (got : Result A Answer) (new : State) : Type 0 where
  pub answer : Answer
  pub legal : IsLegal old request answer new
  pub got_is : got ≡ needed answer

-- A request is made. If its answer has what is needed, the rest follows with that; otherwise it is
-- the answer to the transfer.
abbrev pub Requests : {A : Type 0} → State → Request → (Answer → Result A Answer) → (A → State → Part) → Part
Requests {A} old request needed rest made new =
    ((value : A) × (next : State) × Obtains old request needed (Ok value) next × rest value next made new)
    ⊎ ((failed : Answer) × Obtains old request needed (Err failed) new × (made ≡ Err (answers.Request failed)))

-- no more requests follow
abbrev pub Ends : Answer → State → Part
Ends last old made new = (made ≡ Ok last) × (new ≡ old)

-- ---- in the subtransaction

-- O_WRONLY, O_CREAT and O_TRUNC, and no mode
abbrev pub writing : OpenFlags
writing = record { access = WriteOnly; create = true; excl = false; trunc = true; append = false; mode = None }

-- O_RDONLY
abbrev pub reading : OpenFlags
reading = record { access = ReadOnly; create = false; excl = false; trunc = false; append = false; mode = None }

-- A file of the tree gets these bytes. It gets their length before they are written, so a file that
-- is too large is not cut short.
abbrev pub PutsIn : List ℕ → List ℕ → ℕ → State → Part
PutsIn path bytes sub old =
    Requests old (Ask sub (Open path writing)) number_in (λ fd opened.
    Requests opened (Ask sub (Ftruncate fd (pos (length bytes)))) done (λ was_sized sized.
    Requests sized (Ask sub (Write fd bytes)) done (λ was_written written.
    Requests written (Ask sub (Close fd)) well_in Ends)))

module _ (tells : FileTold → Type 0) where
  -- a file of the disk gets these bytes, or it can't be written
  abbrev pub WritesFile : List ℕ → List ℕ → Answer → State → Part
  WritesFile file bytes last old made new = (((made ≡ Ok last) × tells (Writes file bytes)) ⊎ ((made ≡ Err answers.File) × tells (Fails file))) × (new ≡ old)

  -- a file of the disk gets all bytes of a file of the tree
  abbrev pub GetsIn : List ℕ → List ℕ → ℕ → State → Part
  GetsIn path file sub old =
      Requests old (Ask sub (Open path reading)) number_in (λ fd opened.
      Requests opened (Ask sub (Read fd (2 ^ 64 - 1))) bytes_in (λ bytes read.
      Requests read (Ask sub (Close fd)) well_in (WritesFile file bytes)))

-- ---- around it

-- The subtransaction commits if all was done in it, and otherwise aborts.
abbrev pub EndsSub : ℕ → State → Made → Part
EndsSub sub old (Ok last) made new = Requests old (Commit sub) done (λ committed. Ends last) made new
EndsSub sub old (Err answer) made new = (aborted : Answer) × IsLegal old (Abort sub) aborted new × (made ≡ Err answer)

-- A subtransaction begins, something is done in it, and it ends.
abbrev pub InSub : State → ℕ → (ℕ → State → Part) → Part
InSub old txn does =
    Requests old (Sub txn) txn_in (λ sub begun made new.
    (inside : Made) × (worked : State) × does sub begun inside worked × EndsSub sub worked inside made new)

-- ---- the transfer

-- the answer to a transfer
abbrev pub answer_of : Made → TransferAnswer
answer_of (Ok last) = answers.Request last
answer_of (Err answer) = answer

module _ (tells : FileTold → Type 0) where
  -- Bytes of the disk are put into the tree. If they can't be read, nothing is requested.
  abbrev pub Puts : Transfer → State → Part
  Puts transfer old made new =
      ((made ≡ Err answers.File) × tells (Fails transfer.file) × (new ≡ old))
      ⊎ ((bytes : List ℕ) × tells (Reads transfer.file bytes) × InSub old transfer.txn (PutsIn transfer.path bytes) made new)

  -- Bytes of the tree are put on the disk.
  abbrev pub Gets : Transfer → State → Part
  Gets transfer old = InSub old transfer.txn (GetsIn tells transfer.path transfer.file)

  -- a transfer in a direction
  abbrev pub Moves : Direction → Transfer → State → Part
  Moves Put = Puts
  Moves Get = Gets

-- A transfer from one state to the next, and its answer.
pub record IsTransfer (tells : FileTold → Type 0) (old : State) (transfer : Transfer) (answer : TransferAnswer) (new : State) : Type 0 where
  pub made : Made
  pub moved : Moves tells transfer.direction transfer old made new
  pub answer_is : answer ≡ answer_of made
