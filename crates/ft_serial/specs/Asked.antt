-- Granted calls in lists by top-level transactions: what a walk keeps, inside the crate.
use Rattle.std.specs.Prelude.{ℕ, List, [], ◌==◌, Option, Some, None, map}
use Rattle.std.specs.Ordering.{nat_cmp}
use Rattle.std.specs.FinMap as finite
use Rattle.std.proofs.Common.{Vec, Global}
use Rattle.ft_posix.specs.Posix.{posix_calls}
use Rattle.ft_history.specs.Logs.{passing}
use Rattle.ft_history.specs.History.{grants}
use Rattle.ft_history.specs.Serial.{root_of}
use Rattle.ft_core.specs.Histories.{History, Granted}
use Rattle.ft_serial.specs.declared.asked.Asked.{Asked}
use Rattle.ft_serial.specs.Serials.{stamped}

-- for each top-level transaction its calls
abbrev pub Lists : Type 0
Lists = finite.FinMap nat_cmp (Vec Asked Global)

-- the list of one top-level transaction, empty if it has none
abbrev pub listed : Option (Vec Asked Global) → List Asked
listed None = []
listed (Some calls) = calls.items

-- the calls of a top-level transaction
abbrev pub calls_in : Lists → ℕ → List Asked
calls_in table top = listed (finite.get table top)

-- a granted call with its stamp and its asker alone
abbrev pub asked : Granted → Asked
asked c = record { txn = c.asker; call = stamped c }

-- all calls granted to a top-level transaction and to those below it, oldest first
abbrev pub granted_under : History → ℕ → List Asked
granted_under h top = map asked (passing (λ c. root_of posix_calls h c == top) (grants posix_calls h))
