-- The open file description that a call on a descriptor needs.
use Rattle.std.specs.Prelude.{◌≡◌, ℕ, Bool, cond, Option, None, Some, Result, Ok, Err}
use Rattle.ft_path.specs.declared.errno.Errno.{Errno}
use Rattle.ft_path.specs.declared.errno.Errno.TheVariants.{EBADF}
use Rattle.ft_cells.specs.declared.cell.Cell.TheVariants.{Fd}
use Rattle.ft_cells.specs.declared.open_file.OpenFile.{OpenFile}
use Rattle.ft_cells.specs.Looks.{Looks, Answer, Look, answer}
use Rattle.ft_tree.specs.Views.{view_of}
use Rattle.ft_posix.specs.declared.intent.CallError.{CallError}
use Rattle.ft_posix.specs.declared.intent.CallError.TheVariants.{Memory as NoMemory, Errno as Fails}
use Rattle.ft_posix.specs.Descriptors.{any_open, is_readable, is_writable}
use Rattle.ft_posix.specs.Looking.{Looking, noted}
use Rattle.ft_calls.specs.declared.purpose.Purpose.{Purpose}
use Rattle.ft_calls.specs.declared.purpose.Purpose.TheVariants.{Any, Reading, Writing}

-- whether a description is open for a purpose
abbrev pub is_open_for : Purpose → OpenFile → Bool
is_open_for Any = any_open
is_open_for Reading = is_readable
is_open_for Writing = is_writable

-- a descriptor that is not open, or not open for the call, is EBADF
abbrev pub open_or_fault : (OpenFile → Bool) → Option OpenFile → Result OpenFile Errno
open_or_fault fits None = Err EBADF
open_or_fault fits (Some description) = cond (fits description) (Ok description) (Err EBADF)

-- a look at what a descriptor has open
abbrev pub open_for : ℕ → (OpenFile → Bool) → Looks (Result OpenFile Errno)
open_for fd fits = Look (Fd fd) (λ place. Answer (open_or_fault fits place))

-- the look returns the description or the fault, or there is not enough memory
abbrev pub Opens : Looking → Looks (Result OpenFile Errno) → Looking → Result OpenFile CallError → Type 0
Opens old looks new (Ok description) = (Ok description ≡ answer looks (view_of old.cells)) × (new ≡ noted old looks)
Opens old looks new (Err (Fails e)) = (Err e ≡ answer looks (view_of old.cells)) × (new ≡ noted old looks)
Opens old looks new (Err NoMemory) = Unit {0}
