-- Every core can be reached.
use Rattle.ft_core.specs.Journals.{Journaled}
use Rattle.ft_core.specs.Kept.{IsCoreOf}
use Rattle.ft_core.specs.declared.parts.Parts.{Parts}
use Rattle.ft_core.specs.Reached.{IsReached}
use Rattle.ft_core.specs.States.{State}
use Rattle.ft_core.proofs.Joining.{tree_is, replies_are, order_is}
use Rattle.ft_core.proofs.Known.{call_laws}

-- what a core keeps is what is true of every core
pub is-reached : (s : State) (p : Parts) (j : Journaled) → IsCoreOf s p j → IsReached (record { state = s; cells = p.tree })
is-reached s p j core = record {
  started = core.kept.started;
  legal = core.kept.core.legal;
  waiting = core.waiting;
  headline = record { tree = tree_is call_laws core.kept; replies = replies_are call_laws core.kept; order = order_is call_laws core.kept };
  sound = core.kept.sound;
}
