-- The calls whose answer is read into a buffer.
use Rattle.std.specs.Prelude.{ℕ, List}
use Rattle.ft_posix.specs.declared.call.Call.{Call}
use Rattle.ft_posix.specs.declared.call.Call.TheVariants.{List as ListDir, Readlink}
use Rattle.nuzolged.specs.declared.paths.Reads.{Reads}
use Rattle.nuzolged.specs.declared.paths.Reads.TheVariants.{Names, Target}

-- the call on a path
abbrev pub read_call : Reads → List ℕ → Call
read_call Names path = ListDir path
read_call Target path = Readlink path
