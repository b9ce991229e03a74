use Rattle.std.proofs.Common.{◌≡◌, ℕ, List, ◌+◌, ◌*◌, ◌<◌, ◌++◌, get_or, length}
use Prim.Native.Nat.{min, max}
use Rattle.ft_body.specs.Paging.{byte_in}
use Rattle.ft_body.proofs.pages.read.Given as goal

abbrev pub invariant-loop-index : goal.invariant-loop-index
invariant-loop-index l = (out : List ℕ) × (l.read.items ≡ l.initial.read.items ++ out) × (l.start + length out ≡ min l.end (max l.start (l.index * 4096)))
    × ((k : ℕ) → k < length out → get_or out k 0 ≡ byte_in l.pages (l.start + k))
