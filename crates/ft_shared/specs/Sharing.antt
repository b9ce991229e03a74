-- The events that a shared core keeps.
use Rattle.std.specs.Prelude.{ℕ, List, [], drop, Option, Some, None}
use Rattle.ft_core.specs.declared.request.Event.{Event}
use Rattle.ft_core.specs.States.{State}

-- the events of a state except the forgotten ones, if any are kept
abbrev pub events_kept : Option ℕ → State → List Event
events_kept None s = []
events_kept (Some forgotten) s = drop forgotten s.events
