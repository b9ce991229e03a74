-- The promises of every state that a core can reach.
use Rattle.std.specs.Prelude.{◌≡◌, ◌<◌, ℕ, false, List, [], ◌∷◌, ◌++◌, Option, Some, Result, Ok}
use Rattle.ft_laws.specs.Lists.{Each, Pairs}
use Rattle.ft_cells.specs.Cells.{Cells}
use Rattle.ft_tree.specs.Tidy.{tidy}
use Rattle.ft_posix.specs.Posix.{posix_calls}
use Rattle.ft_posix.specs.RunLaws.{GiveReplies}
use Rattle.ft_posix.specs.declared.call.Call.{Call}
use Rattle.ft_posix.specs.declared.call.Reply.{Reply}
use Rattle.ft_posix.specs.declared.call.Access.{Access}
use Rattle.ft_history.specs.History.Fate.{Live}
use Rattle.ft_history.specs.Undoing.{IsWithin}
use Rattle.ft_core.specs.declared.fault.Fault.{Fault}
use Rattle.ft_core.specs.declared.request.Event.{Event}
use Rattle.ft_core.specs.declared.request.Event.TheVariants.{Begin, Call as CallEvent}
use Rattle.ft_core.specs.Histories.{told}
use Rattle.ft_core.specs.States.{State, history, fate_of, has_live_child, standing_calls, tree_of, count_standing}

-- The headline: tidied, the cells are the tree of the state, which is what the plain tree holds
-- after only the standing calls, from the base. Made in turn, these calls give the replies that
-- they got, and they are in the order of their stamps.
pub record IsHeadline (s : State) (cells : Cells) : Type 0 where
  pub tree : tidy cells ≡ tree_of s
  pub replies : GiveReplies s.base.tree (standing_calls s)
  pub order : Pairs (λ b a. b.call.stamp < a.call.stamp) (standing_calls s)

-- The last event is a granted call of t with this stamp, before which the state was the one given,
-- and t has no live child. The pending asks do not matter.
pub record IsJustMade (before s : State) (t k : ℕ) : Type 0 where
  pub base : s.base ≡ before.base
  pub call : Call
  pub reply : Reply
  pub accesses : List Access
  pub made : s.events ≡ before.events ++ CallEvent k t call reply accesses ∷ []
  pub alone : has_live_child s t ≡ false

-- An undo of the call just made succeeds with its stamp, and the tree is the one before it.
abbrev pub RestoresIfJustMade : State → State → ℕ → Result ℕ Fault → Type 0
RestoresIfJustMade old new t result = (before : State) (k : ℕ) → IsJustMade before old t k → (result ≡ Ok k) × (tree_of new ≡ tree_of before)

-- t is live, and since its begin, before which the state was the one given, the calls, undos and
-- aborts are only of t's subtree. (A rule of this project.)
pub record RanAlone (before s : State) (t : ℕ) : Type 0 where
  pub live : fate_of s t ≡ Some Live
  pub base : s.base ≡ before.base
  pub up : Option ℕ
  pub later : List Event
  pub split : s.events ≡ before.events ++ Begin t up ∷ later
  pub within : Each (IsWithin posix_calls (history s) t) (told later)

-- An abort of a transaction that ran alone succeeds with the count of its standing calls, and the
-- tree is that of its begin.
abbrev pub RestoresIfAlone : State → State → ℕ → Result ℕ Fault → Type 0
RestoresIfAlone old new t result = (before : State) → RanAlone before old t → (result ≡ Ok (count_standing old t)) × (tree_of new ≡ tree_of before)
