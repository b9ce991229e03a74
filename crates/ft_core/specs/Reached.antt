-- Facts of every core. (They include which transactions wait, not which calls wait.)
use Rattle.std.specs.Prelude.{◌≡◌, ℕ, true, Some, is_some}
use Rattle.std.specs.FinMap as finite
use Rattle.ft_tree.specs.Sound.{AreSoundCells}
use Rattle.ft_posix.specs.Posix.{posix_calls}
use Rattle.ft_history.specs.History.Fate.{Live}
use Rattle.ft_history.specs.Legal.{Legal}
use Rattle.ft_core.specs.Histories.{History}
use Rattle.ft_core.specs.States.{Base, State, StoredState, history, fate_of}
use Rattle.ft_core.specs.Promises.{IsHeadline}
use Rattle.ft_core.specs.Kept.{IsStarted, start_of}

-- From the cells of a sound base each event was allowed when it came: the stamps rise, and nobody
-- blocked a granted call, which has the reply and the accesses that are noted of it.
pub record IsLegalFrom (base : Base) (h : History) (last_txn last_number : ℕ) : Type 0 where
  pub started : IsStarted base h last_txn last_number
  pub legal : Legal posix_calls (start_of base started.store) h

-- what has happened in a state was legal
abbrev pub IsLegalAt : State → Type 0
IsLegalAt s = IsLegalFrom s.base (history s) s.last_txn s.last_stamp

-- The state of a core, with its tree stored in these cells: what has happened was legal.
pub record IsReached (core : StoredState) : Type 0 where
  -- the base is a sound tree, and the numbers go on from its last ones up to
  -- the state's, with none left out
  pub started : IsStarted core.state.base (history core.state) core.state.last_txn core.state.last_stamp
  -- each event was allowed when it came: the stamps rise, and a granted call had nobody in its way
  -- and the reply and accesses that were recorded
  pub legal : Legal posix_calls (start_of core.state.base started.store) (history core.state)
  -- only live transactions wait
  pub waiting : (t : ℕ) → is_some (finite.get core.state.asks t) ≡ true → fate_of core.state t ≡ Some Live
  pub headline : IsHeadline core.state core.cells
  pub sound : AreSoundCells core.cells
