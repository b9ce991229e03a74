-- The state of a core: the subject of its contracts. A reader must trust this file with Histories,
-- Living, Steps, Promises, Reports, Sweeps and Reached. Everything that follows from the events
-- alone is defined by ft_history at the calls of ft_posix, and not a second time here. (Rules of
-- this project, if no source is given.)
use Rattle.std.specs.Prelude.{ℕ, ◌+◌, Bool, not, ◌||◌, ◌==◌, nat_le, nat_lt, List, [], ◌∷◌, ◌++◌, Option, Some, None, length, refl}
use Rattle.std.specs.Ordering.{nat_cmp}
use Rattle.std.specs.FinMap as finite
use Rattle.std.specs.Coded.{Coded, code_by, coded×, coded_ℕ, coded_list}
use Rattle.ft_cells.specs.declared.limits.TreeLimits.{TreeLimits}
use Rattle.ft_cells.specs.Cells.{Cells, fresh_cells}
use Rattle.ft_cells.specs.Plain.{PlainTree}
use Rattle.ft_cells.specs.PlainCode.{coded_tree}
use Rattle.ft_tree.specs.Tidy.{tidy}
use Rattle.ft_tree.specs.contracts.tree.Tree as tree
use Rattle.ft_posix.specs.declared.call.Call.{Call}
use Rattle.ft_posix.specs.declared.call.Reply.{Reply}
use Rattle.ft_posix.specs.declared.call.Access.{Access}
use Rattle.ft_posix.specs.contracts.call.Call as call
use Rattle.ft_posix.specs.Exec.{exec}
use Rattle.ft_posix.specs.RunLaws.{accesses_in, tree_after}
use Rattle.ft_posix.specs.Posix.{posix_calls}
use Rattle.ft_history.specs.History.Fate.{Live, Committed, Aborted}
use Rattle.ft_history.specs.Forest.{is_some_and}
use Rattle.ft_history.specs.History.{Fate, fate, is_live, over, begun, live_children as live_children_of, owner_of, grants, standing}
use Rattle.ft_history.specs.Logs.{passing}
use Rattle.ft_history.specs.Promises.{calls_below}
use Rattle.ft_lock_rules.specs.declared.rule.Rule.{Rule}
use Rattle.ft_lock_rules.specs.contracts.rule.Rule as rule
use Rattle.ft_forest.specs.declared.state.State.{State as Life}
use Rattle.ft_forest.specs.declared.state.State.TheVariants.{Live as LiveState, Committed as CommittedState, Aborted as AbortedState}
use Rattle.ft_forest.specs.declared.TheConstants.{LAST_NUMBER}
use Rattle.ft_core.specs.declared.limits.Limits.{Limits}
use Rattle.ft_core.specs.declared.request.Event.{Event}
use Rattle.ft_core.specs.declared.request.Event.TheVariants.{Begin, Call as CallEvent, Undo, Commit, Abort}
use Rattle.ft_core.specs.contracts.request.Event as event
use Rattle.ft_core.specs.Histories.{History, Granted, told, depth_of}
use Rattle.ft_core.specs.Limits.{HistoryLimits, of_tree, of_history}

-- the start, or the last checkpoint: a plain tree, the last transaction's number and the last stamp
pub record Base : Type 0 where
  pub tree : PlainTree
  pub last_txn : ℕ
  pub last_stamp : ℕ

-- the call that each waiting transaction waits for
abbrev pub Asks : Type 0
Asks = finite.FinMap nat_cmp Call

-- the rule for holders, the limits of what may happen, the base, the events since, the pending
-- asks, and the last numbers given
pub record State : Type 0 where
  -- the rule by which transactions block a call; it never changes
  pub rule : Rule
  -- what is allowed of the history; it never changes, and those of the tree are the tree's
  pub limits : HistoryLimits
  pub base : Base
  -- what has happened since, oldest first
  pub events : List Event
  -- the call that a transaction waits for
  pub asks : Asks
  pub last_txn : ℕ
  pub last_stamp : ℕ

-- a code of bases, which a model needs
abbrev pub coded_base : Coded Base
coded_base =
    code_by (PlainTree × (ℕ × ℕ)) (coded× coded_tree (coded× coded_ℕ coded_ℕ)) (λ b. (b.tree, (b.last_txn, b.last_stamp)))
    (λ p. record { tree = p.0; last_txn = p.1.0; last_stamp = p.1.1 }) (λ _. refl)

-- a code of them, which a model needs
abbrev pub coded_asks : Coded Asks
coded_asks = finite.code coded_ℕ call.the_row.coded

-- a code of limits, which a model needs
abbrev pub coded_limits : Coded HistoryLimits
coded_limits = code_by (ℕ × (ℕ × ℕ)) (coded× coded_ℕ (coded× coded_ℕ coded_ℕ)) (λ l. (l.depth, (l.transactions, l.calls))) (λ p. record { depth = p.0; transactions = p.1.0; calls = p.1.1 }) (λ _. refl)

-- a code of states, which a model needs
abbrev pub coded_state : Coded State
coded_state =
    code_by (Rule × (HistoryLimits × (Base × (List Event × (Asks × (ℕ × ℕ))))))
    (coded× rule.the_row.coded (coded× coded_limits (coded× coded_base (coded× (coded_list event.the_row.coded) (coded× coded_asks (coded× coded_ℕ coded_ℕ))))))
    (λ s. (s.rule, (s.limits, (s.base, (s.events, (s.asks, (s.last_txn, s.last_stamp)))))))
    (λ p. record { rule = p.0; limits = p.1.0; base = p.1.1.0; events = p.1.1.1.0; asks = p.1.1.1.1.0; last_txn = p.1.1.1.1.1.0; last_stamp = p.1.1.1.1.1.1 }) (λ _. refl)

-- A core: its state, and the cells in which its tree is stored. No call sees more of them than
-- their tree; a sweep changes only how many places they have.
pub record StoredState : Type 0 where
  pub state : State
  pub cells : Cells

-- a code of them, which a model needs
abbrev pub coded_stored : Coded StoredState
coded_stored = code_by (State × Cells) (coded× coded_state tree.the_row.coded) (λ s. (s.state, s.cells)) (λ p. record { state = p.0; cells = p.1 }) (λ _. refl)

-- only the root, of number 1, in a tree with these limits; no transaction, and the stamp 1
abbrev pub first_base : TreeLimits → Base
first_base limits = record { tree = tidy (fresh_cells limits); last_txn = 0; last_stamp = 1 }

-- the state of a rule, of limits and of a base: nothing has happened since
abbrev pub at_base : Rule → HistoryLimits → Base → State
at_base rule limits base = record { rule = rule; limits = limits; base = base; events = []; asks = finite.empty; last_txn = base.last_txn; last_stamp = base.last_stamp }

-- the state of a new core with this rule and these limits
abbrev pub first_state : Rule → Limits → State
first_state rule limits = at_base rule (of_history limits) (first_base (of_tree limits))

-- the events as a history
abbrev pub history : State → History
history s = told s.events

-- Transactions.

-- what has become of a transaction: live, committed, aborted, or none of this
-- number since the base (Moss)
abbrev pub fate_of : State → ℕ → Option Fate
fate_of s t = fate posix_calls s.base.last_txn (history s) t

-- the forest's record of a transaction, as its fate
abbrev pub fate_in : Option Life → Option Fate
fate_in None = None
fate_in (Some LiveState) = Some Live
fate_in (Some CommittedState) = Some Committed
fate_in (Some AbortedState) = Some Aborted

-- the live children of a transaction, in rising order (Moss)
abbrev pub live_children : State → ℕ → List ℕ
live_children s t = live_children_of posix_calls s.base.last_txn (history s) t

-- there is one
abbrev pub has_live_child : State → ℕ → Bool
has_live_child s t = nat_lt 0 (length (live_children s t))

-- the live transactions, in rising order
abbrev pub live_transactions : State → List ℕ
live_transactions s = passing (λ t. is_live (fate_of s t)) (begun posix_calls (history s))

-- some transaction is live
abbrev pub has_live : State → Bool
has_live s = nat_lt 0 (length (live_transactions s))

-- Calls.

-- the standing calls, in the order of their stamps: granted calls that are not undone,
-- with no aborted transaction at or above their askers (Moss, abort; that undone ones go
-- too is a rule of this project)
abbrev pub standing_calls : State → List Granted
standing_calls s = standing posix_calls (history s)

-- The tree of a state: what the plain tree holds after only the standing calls, in the order of
-- their stamps, from the base: no locks, no logs, no transactions.
abbrev pub tree_of : State → PlainTree
tree_of s = tree_after s.base.tree (standing_calls s)

-- Limits.

-- those of the tree, which are the base's, and those of the history
abbrev pub limits_of : State → Limits
limits_of s = record {
  file_size = s.base.tree.limits.file_size;
  links = s.base.tree.limits.links;
  depth = s.limits.depth;
  transactions = s.limits.transactions;
  calls = s.limits.calls;
}

-- as many transactions since the base as there may be, or the last number is 2^63 - 1
abbrev pub has_most_transactions : State → Bool
has_most_transactions s = nat_le s.limits.transactions (length (begun posix_calls (history s))) || nat_le LAST_NUMBER s.last_txn

-- as many granted calls since the base as there may be, or the last stamp is 2^63 - 1
abbrev pub has_most_calls : State → Bool
has_most_calls s = nat_le s.limits.calls (length (grants posix_calls (history s))) || nat_le LAST_NUMBER s.last_stamp

-- the transaction is as deep as one may be
abbrev pub is_deepest : State → ℕ → Bool
is_deepest s t = nat_le s.limits.depth (depth_of (history s) t)

-- The state after an event.

-- the number that the next transaction gets: one more than the last
abbrev pub next_txn : State → ℕ
next_txn s = s.last_txn + 1

-- the stamp that the next granted call gets: one more than the last
abbrev pub next_stamp : State → ℕ
next_stamp s = s.last_stamp + 1

-- a transaction is begun, under a parent or at the top
abbrev pub after_begin : State → Option ℕ → State
after_begin s parent = record s { events = s.events ++ Begin (next_txn s) parent ∷ []; last_txn = next_txn s }

-- a call is granted with this reply and these accesses, and the
-- transaction waits for nothing any more
abbrev pub after_call : State → ℕ → Call → Reply → List Access → State
after_call s t call reply accesses = record s {
  events = s.events ++ CallEvent (next_stamp s) t call reply accesses ∷ [];
  asks = finite.remove s.asks t;
  last_stamp = next_stamp s;
}

-- what the plain tree would reply to the call, made with the next stamp (POSIX, by exec)
abbrev pub reply_of : State → Call → Reply
reply_of s call = (exec (tree_of s) (next_stamp s) call).1

-- which cells the call would access there, and how (Moss, the locking rules)
abbrev pub accesses_now : State → Call → List Access
accesses_now s call = accesses_in (tree_of s) (next_stamp s) call

-- a call is granted with the reply and the accesses that it has on the tree of the state
abbrev pub after_grant : State → ℕ → Call → State
after_grant s t call = after_call s t call (reply_of s call) (accesses_now s call)

-- a transaction waits for a call
abbrev pub after_wait : State → ℕ → Call → State
after_wait s t call = record s { asks = finite.insert s.asks t call }

-- a transaction waits for nothing any more
abbrev pub after_drop : State → ℕ → State
after_drop s t = record s { asks = finite.remove s.asks t }

-- the call with this stamp is undone; the pending asks stay
abbrev pub after_undo : State → ℕ → State
after_undo s k = record s { events = s.events ++ Undo k ∷ [] }

-- a transaction has committed, and waits for nothing any more
abbrev pub after_commit : State → ℕ → State
after_commit s t = record s { events = s.events ++ Commit t ∷ []; asks = finite.remove s.asks t }

-- a transaction is aborted, and it and all below it wait for nothing any more
abbrev pub after_abort : State → ℕ → State
after_abort s t = record s { events = s.events ++ Abort t ∷ []; asks = finite.retain_keys s.asks (λ u. not (over posix_calls (history s) t u)) }

-- how many standing calls were asked by t or below it
abbrev pub count_standing : State → ℕ → ℕ
count_standing s t = calls_below posix_calls (history s) t

-- how many standing calls t owns (Moss: at a commit the parent inherits)
abbrev pub count_owned : State → ℕ → ℕ
count_owned s t = length (passing (λ c. is_some_and (owner_of posix_calls (history s) c.asker) (λ o. o == t)) (standing_calls s))

-- how many live transactions are at or below t
abbrev pub count_live : State → ℕ → ℕ
count_live s t = length (passing (over posix_calls (history s) t) (live_transactions s))

-- the present tree is the base, and what has happened is forgotten; the last numbers, the rule and
-- the limits stay
abbrev pub base_now : State → Base
base_now s = record { tree = tree_of s; last_txn = s.last_txn; last_stamp = s.last_stamp }

-- the state of that base, the same rule and the same limits: nothing has happened since
abbrev pub after_checkpoint : State → State
after_checkpoint s = at_base s.rule s.limits (base_now s)
