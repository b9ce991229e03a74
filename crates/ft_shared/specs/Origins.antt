-- The shared state, as a name in the proofs gives it.
use Rattle.std.specs.Prelude.{◌≡◌, ◌⊎◌, Bool, false, List, []}
use Rattle.logbook.specs.Pages.{Book}
use Rattle.ft_posix.specs.declared.stamped.StampedCall.{StampedCall}
use Rattle.ft_lock_rules.specs.declared.rule.Rule.TheVariants.{Profile}
use Rattle.ft_core.specs.Limits.{default_limits}
use Rattle.ft_core.specs.States.{State, first_state}
use Rattle.ft_view.specs.ViewNames.{Views, no_views}
use Rattle.ft_serial.specs.Serials.{committed_calls}
use Rattle.ft_shared.specs.Guarded.{OfCoreFrom}

-- what was shared: the state of the core at that time, whether it has views, and their book
pub record Origin : Type 0 where
  pub from : State
  pub shown : Bool
  pub book : Book

-- a core in this state that has no views
abbrev pub without_views : State → Origin
without_views s = record { from = s; shown = false; book = no_views.book }

-- a new core, by the rule of this project and with the default limits, that has no views
abbrev pub new_core : Origin
new_core = without_views (first_state Profile default_limits)

-- the views of a core start from its base
abbrev pub views_of : Origin → Views
views_of o = record { book = o.book; base = o.from.base.tree }

-- The list that readers are shown: nothing yet; or the committed calls of some core that went on
-- from this state: those of whole top-level transactions, in the order of their commits.
abbrev pub IsWhole : State → List StampedCall → Type 0
IsWhole from calls = (calls ≡ []) ⊎ OfCoreFrom from (λ s. calls ≡ committed_calls s)
