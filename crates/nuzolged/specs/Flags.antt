-- The flags of an open, in one word: those of fcntl.h, as Linux numbers them.
use Rattle.std.specs.Prelude.{ℕ, ◌==◌, Bool, not, cond, List, Option, Some, None, option_map, suc, zero, bit_and}
use Rattle.ft_cells.specs.declared.open_file.AccessMode.{AccessMode}
use Rattle.ft_cells.specs.declared.open_file.AccessMode.TheVariants.{ReadOnly, WriteOnly, ReadWrite}
use Rattle.ft_posix.specs.declared.call.Call.{Call}
use Rattle.ft_posix.specs.declared.call.Call.TheVariants.{Open}
use Rattle.ft_posix.specs.declared.call.OpenFlags.{OpenFlags}
use Rattle.nuzolged.specs.declared.flags.Opening.{Opening}
use Rattle.nuzolged.specs.declared.flags.TheConstants.{ACCESS, CREATE, EXCL, TRUNC, APPEND, FLAGS}

-- a word has a flag
abbrev pub has_flag : ℕ → ℕ → Bool
has_flag flags flag = not (bit_and flags flag == 0)

-- the access of a number, as O_RDONLY, O_WRONLY and O_RDWR
abbrev pub access_of : ℕ → Option AccessMode
access_of zero = Some ReadOnly
access_of (suc zero) = Some WriteOnly
access_of (suc (suc zero)) = Some ReadWrite
access_of (suc (suc (suc number))) = None

-- an access with the other flags of a word
abbrev pub opening_with : ℕ → AccessMode → Opening
opening_with flags access = record {
  access = access;
  create = has_flag flags CREATE;
  excl = has_flag flags EXCL;
  trunc = has_flag flags TRUNC;
  append = has_flag flags APPEND;
}

-- how a file is opened by the flags of a word, if it has no other bit
abbrev pub opening_of : ℕ → Option Opening
opening_of flags = cond (bit_and flags FLAGS == flags) (option_map (opening_with flags) (access_of (bit_and flags ACCESS))) None

-- how a file is opened, with the mode of a file that is made
abbrev pub with_mode : Opening → Option ℕ → OpenFlags
with_mode opening mode = record { access = opening.access; create = opening.create; excl = opening.excl; trunc = opening.trunc; append = opening.append; mode = mode }

-- the call that opens a file so
abbrev pub open_call : List ℕ → Opening → Option ℕ → Call
open_call path opening mode = Open path (with_mode opening mode)
