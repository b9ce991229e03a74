-- Transactions that are aborted to break a deadlock. (Moss, Nested Transactions, MIT 1981: a
-- deadlock is broken by an abort of one transaction on the cycle. Which one it is, is a rule of this
-- project.)
use Rattle.std.specs.Prelude.{◌≡◌, ◌==◌, ◌≤◌, ◌+◌, ◌^◌, ◌&&◌, ℕ, Bool, true, false, cond, List, All, Contains, Option, None, Some}
use Rattle.std.specs.List.{list_any}
use Rattle.ft_core.specs.declared.request.Request.TheVariants.{Abort}
use Rattle.ft_core.specs.declared.request.Answer.TheVariants.{Aborted}
use Rattle.ft_core.specs.States.{State, StoredState}
use Rattle.ft_core.specs.Reached.{IsReached}
use Rattle.ft_core.specs.Steps.{IsStep, exact_rule}
use Rattle.ft_record.specs.Going.{GoesOn}
use Rattle.ft_waits.specs.declared.edge.Edge.{Edge}
use Rattle.ft_waits.specs.declared.edge.EdgeKind.{EdgeKind}
use Rattle.ft_waits.specs.declared.edge.EdgeKind.TheVariants.{Lock, Child}
use Rattle.ft_waits.specs.Cycles.{HasNoDeadlock}
use Rattle.ft_waits.specs.Edges.{AreEdgesOf}
use Rattle.ft_waits.specs.Waits.{IsCycle}

-- ---- which one on a cycle

-- the reason of a wait is a lock
abbrev pub is_lock : EdgeKind → Bool
is_lock Lock = true
is_lock Child = false

-- t is one of these transactions
abbrev pub is_member : List ℕ → ℕ → Bool
is_member members t = list_any (λ u. u == t) members

-- one of these transactions waits for a lock of t
abbrev pub keeps_waiting : List Edge → List ℕ → ℕ → Bool
keeps_waiting edges members t = list_any (λ edge. is_lock edge.kind && (edge.to == t && is_member members edge.from)) edges

-- t waits for a lock of one of them
abbrev pub waits_itself : List Edge → List ℕ → ℕ → Bool
waits_itself edges members t = list_any (λ edge. is_lock edge.kind && (edge.from == t && is_member members edge.to)) edges

-- both
abbrev pub is_between : List Edge → List ℕ → ℕ → Bool
is_between edges members t = keeps_waiting edges members t && waits_itself edges members t

-- A younger transaction has a greater number (numbers are below 2 ^ 64), and one between locks
-- counts as younger than any that is not.
abbrev pub victim_rank : List Edge → List ℕ → ℕ → ℕ
victim_rank edges members t = cond (is_between edges members t) (t + 2 ^ 64) t

-- t is one of these transactions, and none has a greater rank
abbrev pub IsVictimAmong : List Edge → List ℕ → ℕ → Type 0
IsVictimAmong edges members t = Contains members t × All (λ u. victim_rank edges members u ≤ victim_rank edges members t) members

-- There is a cycle of the waits-for edges of the state, and t is the one of its members that is
-- aborted to break it.
pub record IsVictimOf (s : State) (t : ℕ) : Type 0 where
  pub edges : List Edge
  pub members : List ℕ
  pub edges_are : AreEdgesOf s edges
  pub cycle : IsCycle edges members
  pub chosen : IsVictimAmong edges members t

-- ---- what is done about it

-- In the first state t is the victim on a cycle of waits, and the legal step of its abort leads to
-- the second one, undoing so many standing calls.
pub record IsBrokenBy (t : ℕ) (before after : State) : Type 0 where
  pub victim : IsVictimOf before t
  pub undone : ℕ
  pub aborted : IsStep exact_rule before (Abort t) (Aborted undone) after

-- What is done about a deadlock: the victim on a cycle of waits is aborted, or nothing is if there
-- is no cycle.
abbrev pub Breaks : Option ℕ → State → State → Type 0
Breaks None before after = HasNoDeadlock before × (after ≡ before)
Breaks (Some t) before after = IsBrokenBy t before after

-- t was aborted when it was the victim on a cycle of waits, and the state went on from there: its
-- events begin with those before, and the abort.
pub record WasVictim (s : State) (t : ℕ) : Type 0 where
  pub before : StoredState
  pub after : State
  pub reached : IsReached before
  pub broken : IsBrokenBy t before.state after
  pub goes_on : GoesOn after s
