-- When each call of a forest is refused. (The order of refusals and the limits are rules of this
-- project.)
use Rattle.std.specs.Prelude.{◌≡◌, ◌||◌, ℕ, Bool, cond, nat_le, nat_lt, Option, Some, None, length}
use Rattle.ft_forest.specs.declared.TheConstants.{LAST_NUMBER}
use Rattle.ft_forest.specs.declared.fault.ForestFault.{ForestFault}
use Rattle.ft_forest.specs.declared.fault.ForestFault.TheVariants.{Memory, NoTxn, Ended, ChildLive, Full, Deep}
use Rattle.ft_forest.specs.declared.state.State.{State}
use Rattle.ft_forest.specs.declared.state.State.TheVariants.{Live, Committed, Aborted}
use Rattle.ft_forest.specs.Transactions.{Transactions, state_in, last_in, depth_in, live_children_in}

-- `NoTxn` if there is no such transaction, `Ended` if it has ended, and else what comes later
abbrev pub refusal_of : Option State → Option ForestFault → Option ForestFault
refusal_of None later = Some NoTxn
refusal_of (Some Live) later = later
refusal_of (Some Committed) later = Some Ended
refusal_of (Some Aborted) later = Some Ended

-- the fault if the test holds, and else what comes later
abbrev pub fault_if : Bool → ForestFault → Option ForestFault → Option ForestFault
fault_if b fault later = cond b (Some fault) later

-- there are as many transactions since the base as are allowed, or the number 2^63 - 1 is used up
abbrev pub is_full : Transactions → Bool
is_full m = nat_le m.limits.transactions (length m.list) || nat_le LAST_NUMBER (last_in m)

-- the refusal of a begin: `Full`
abbrev pub begin_refusal : Transactions → Option ForestFault
begin_refusal m = fault_if (is_full m) Full None

-- the refusal of a begin below t, in this order: `NoTxn`, `Ended`, `Deep`, `Full`
abbrev pub sub_refusal : Transactions → ℕ → Option ForestFault
sub_refusal m t = refusal_of (state_in m t) (fault_if (nat_le m.limits.depth (depth_in m t)) Deep (begin_refusal m))

-- the refusal of a commit, in this order: `NoTxn`, `Ended`, `ChildLive`
abbrev pub commit_refusal : Transactions → ℕ → Option ForestFault
commit_refusal m t = refusal_of (state_in m t) (fault_if (nat_lt 0 (live_children_in m t)) ChildLive None)

-- the refusal of an abort, in this order: `NoTxn`, `Ended`
abbrev pub abort_refusal : Transactions → ℕ → Option ForestFault
abort_refusal m t = refusal_of (state_in m t) None

-- this refusal, or `Memory` if there is none
abbrev pub IsRefusal : Option ForestFault → ForestFault → Type 0
IsRefusal (Some due) fault = fault ≡ due
IsRefusal None fault = fault ≡ Memory
