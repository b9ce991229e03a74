-- A call on a descriptor that has to be open for it.
use Rattle.std.proofs.Common.{◌≡◌, ℕ, Bool, true, false, cond, Option, Some, None, Result, Ok, Err, refl, subst}
use Rattle.ft_path.specs.declared.errno.Errno.TheVariants.{EBADF}
use Rattle.ft_cells.specs.declared.cell.Cell.TheVariants.{Fd}
use Rattle.ft_cells.specs.declared.open_file.OpenFile.{OpenFile}
use Rattle.ft_cells.specs.Looks.{Looks, Answer, Look, then, or_else}
use Rattle.ft_posix.specs.declared.intent.Intent.{Intent}
use Rattle.ft_posix.specs.declared.intent.CallError.{CallError}
use Rattle.ft_posix.specs.declared.intent.CallError.TheVariants.{Memory as NoMemory, Errno as Fails}
use Rattle.ft_posix.specs.Outcomes.{Outcome, failed}
use Rattle.ft_posix.specs.Descriptors.{on_open, with_open}
use Rattle.ft_posix.specs.Looking.{Looking}
use Rattle.ft_posix.specs.Computes.{Computes}
use Rattle.ft_posix.proofs.Looking.{finds_then}
use Rattle.ft_calls.specs.Opened.{open_or_fault, open_for, Opens}

-- a description that fits or not
fitting-on : (go : OpenFile → Looks Outcome) (o : OpenFile) (fits : Bool) → or_else failed go (cond fits (Ok o) (Err EBADF)) ≡ cond fits (go o) (Answer (failed EBADF))
fitting-on go o true = refl
fitting-on go o false = refl

-- to go on with what is open
open-on : (fits : OpenFile → Bool) (go : OpenFile → Looks Outcome) (place : Option OpenFile) → or_else failed go (open_or_fault fits place) ≡ on_open fits go place
open-on fits go None = refl
open-on fits go (Some o) = fitting-on go o (fits o)

-- to look and to go on is the call
open-then : (fd : ℕ) (fits : OpenFile → Bool) (go : OpenFile → Looks Outcome) → then (open_for fd fits) (or_else failed go) ≡ with_open fd fits go
open-then fd fits go = λ i. Look (Fd fd) (λ place. open-on fits go place i)

module _ (old : Looking) (fd : ℕ) (fits : OpenFile → Bool) (go : OpenFile → Looks Outcome) (mid : Looking) where
  -- the call goes on with the description
  pub opened_on : (o : OpenFile) → Opens old (open_for fd fits) mid (Ok o) → (new : Looking) (r : Result Intent CallError) → Computes mid (go o) new r → Computes old (with_open fd fits go) new r
  opened_on o h new r comes =
      subst (λ (s : Looks Outcome). Computes old s new r) (open-then fd fits go)
      (finds_then old (open_for fd fits) (or_else failed go) (Ok o) mid new r h.0 h.1 comes)

  -- the descriptor is not open for the call, or memory was wanting
  pub opened_lost : (d : CallError) → Opens old (open_for fd fits) mid (Err d) → Computes old (with_open fd fits go) mid (Err d)
  opened_lost (Fails e) h =
      subst (λ (s : Looks Outcome). Computes old s mid (Err (Fails e))) (open-then fd fits go)
      (finds_then old (open_for fd fits) (or_else failed go) (Err e) mid mid (Err (Fails e)) h.0 h.1 (refl, refl))
  opened_lost NoMemory h = tt
