-- The depth of a new transaction below a place, and what listing the live children adds to a list.
-- These definitions are internal to the crate.
use Rattle.std.specs.Prelude.{◌≡◌, ◌+◌, ◌==◌, ◌++◌, ℕ, List, Contains, Option, Some, None}
use Rattle.std.specs.List.{IsDistinct}
use Rattle.std.specs.Option.{option_map}
use Rattle.ft_forest.specs.Transactions.{Transactions, depth_in, IsLiveUnder}
use Rattle.ft_forest.specs.Records.{number_at}

-- one more than the depth of its parent, or 1 at the top level
abbrev pub IsDepthBelow : Transactions → Option ℕ → ℕ → Type 0
IsDepthBelow m None depth = depth ≡ 1
IsDepthBelow m (Some p) depth = depth ≡ depth_in m (number_at m.base p) + 1

-- the number of the transaction at a place, if there is a place
abbrev pub number_of : Transactions → Option ℕ → Option ℕ
number_of m place = option_map (number_at m.base) place

-- the new list is the old one, then the live children of a transaction, or the live top-level ones,
-- and nothing is listed twice
pub record HasChildrenBehind (m : Transactions) (parent : Option ℕ) (old new : List ℕ) : Type 0 where
  pub children : List ℕ
  pub behind : new ≡ old ++ children
  pub sound : (x : ℕ) → Contains children x → IsLiveUnder m parent x
  pub all : (x : ℕ) → IsLiveUnder m parent x → Contains children x
  pub once : IsDistinct ◌==◌ new
