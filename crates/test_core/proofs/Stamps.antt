-- The stamps of a serial list, with the calls alone.
use Rattle.std.proofs.Common.{◌≢◌, ℕ, List, map, [], ◌∷◌}
use Rattle.ft_laws.specs.Lists.{Each, Pairs}
use Rattle.ft_core.specs.Histories.{Granted}
use Rattle.ft_serial.specs.Serials.{stamped}

-- what is true of the stamps of granted calls is true of them with the calls alone
pub each_stamp : (P : ℕ → Type 0) (calls : List Granted) → Each (λ c. P c.call.stamp) calls → Each (λ c. P c.stamp) (map stamped calls)
each_stamp P [] each = tt
each_stamp P (c ∷ cs) each = (each.0, each_stamp P cs each.1)

pub distinct_stamps : (calls : List Granted) → Pairs (λ a b. a.call.stamp ≢ b.call.stamp) calls → Pairs (λ a b. a.stamp ≢ b.stamp) (map stamped calls)
distinct_stamps [] pairs = tt
distinct_stamps (c ∷ cs) pairs = (each_stamp (λ stamp. c.call.stamp ≢ stamp) cs pairs.0, distinct_stamps cs pairs.1)
