-- The contents of a journal as clauses see them: the events, and what is noted of the live
-- transactions.
use Rattle.std.specs.Prelude.{◌≡◌, ℕ, ◌<◌, ◌+◌, ◌-◌, Bool, ◌||◌, nat_le, List, [], ◌∷◌, ◌++◌, Option, Some, None, IsSome, refl}
use Rattle.std.specs.Option.{option_flatten}
use Rattle.std.specs.Ordering.{nat_cmp}
use Rattle.std.specs.FinMap as finite
use Rattle.std.specs.Coded.{Coded, code_by, coded×, coded_ℕ, coded_list, coded_option}
use Rattle.ft_cells.specs.Cells.{Cells}
use Rattle.ft_cells.specs.Plain.{PlainTree}
use Rattle.ft_cells.specs.PlainCode.{coded_tree}
use Rattle.ft_tree.specs.Sound.{AreSoundCells, IsFree}
use Rattle.ft_posix.specs.declared.call.Call.{Call}
use Rattle.ft_posix.specs.declared.call.Reply.{Reply}
use Rattle.ft_posix.specs.declared.call.Access.{Access}
use Rattle.ft_lock_rules.specs.declared.rule.Rule.{Rule}
use Rattle.ft_lock_rules.specs.contracts.rule.Rule as rule
use Rattle.ft_forest.specs.declared.TheConstants.{LAST_NUMBER}
use Rattle.ft_forest.specs.Transactions.{Transactions, last_in}
use Rattle.ft_core.specs.declared.request.Event.{Event}
use Rattle.ft_core.specs.declared.request.Event.TheVariants.{Begin, Call as CallEvent}
use Rattle.ft_core.specs.contracts.request.Event as event
use Rattle.ft_core.specs.States.{State, Asks, coded_asks}

-- the rule for holders, how many calls may be granted since the base, the events and the asks, what
-- is noted of each live transaction, the base, and the last stamp
pub record Journaled : Type 0 where
  pub rule : Rule
  pub calls : ℕ
  pub events : List Event
  pub asks : Asks
  -- for each live transaction the last stamp when a child of it last committed
  pub subs : finite.FinMap nat_cmp (Option ℕ)
  pub base_tree : PlainTree
  pub base_stamp : ℕ
  pub last_stamp : ℕ

-- a code of it, which a model needs
abbrev pub coded_journaled : Coded Journaled
coded_journaled =
    code_by (Rule × (ℕ × (List Event × (Asks × (finite.FinMap nat_cmp (Option ℕ) × (PlainTree × (ℕ × ℕ)))))))
    (coded× rule.the_row.coded (coded× coded_ℕ (coded× (coded_list event.the_row.coded) (coded× coded_asks (coded× (finite.code coded_ℕ (coded_option coded_ℕ)) (coded× coded_tree (coded× coded_ℕ coded_ℕ)))))))
    (λ j. (j.rule, (j.calls, (j.events, (j.asks, (j.subs, (j.base_tree, (j.base_stamp, j.last_stamp))))))))
    (λ p. record { rule = p.0; calls = p.1.0; events = p.1.1.0; asks = p.1.1.1.0; subs = p.1.1.1.1.0; base_tree = p.1.1.1.1.1.0; base_stamp = p.1.1.1.1.1.1.0; last_stamp = p.1.1.1.1.1.1.1 }) (λ _. refl)

-- A tree from which a history may go on: it is sound, and no number above the last stamp is in it.
pub record IsBaseTree (cells : Cells) (stamp : ℕ) : Type 0 where
  pub sound : AreSoundCells cells
  pub free : (k : ℕ) → stamp < k → IsFree cells k

-- no event, by this rule and with so many calls that there may be, from this tree and this stamp on
abbrev pub no_events : Rule → ℕ → PlainTree → ℕ → Journaled
no_events rule calls tree stamp = record { rule = rule; calls = calls; events = []; asks = finite.empty; subs = finite.empty; base_tree = tree; base_stamp = stamp; last_stamp = stamp }

-- the last stamp when a child of t last committed
abbrev pub sub_in : Journaled → ℕ → Option ℕ
sub_in j t = option_flatten (finite.get j.subs t)

-- as many calls since the base as there may be, or the last stamp is 2^63 - 1
abbrev pub is_full : Journaled → Bool
is_full j = nat_le j.calls (j.last_stamp - j.base_stamp) || nat_le LAST_NUMBER j.last_stamp

-- a begin more
abbrev pub with_begin : Journaled → ℕ → Option ℕ → Journaled
with_begin j t parent = record j { events = j.events ++ Begin t parent ∷ [] }

-- a call more, for which nobody waits
abbrev pub with_call : Journaled → ℕ → Call → Reply → List Access → Journaled
with_call j t call reply accesses = record j {
  events = j.events ++ CallEvent (j.last_stamp + 1) t call reply accesses ∷ [];
  asks = finite.remove j.asks t;
  last_stamp = j.last_stamp + 1;
}

-- the call that is asked for now, or else the one that is waited for
abbrev pub asked_for : Option Call → Option Call → Option Call
asked_for None pending = pending
asked_for (Some call) pending = Some call

-- the call that is asked for now, or else the one that is waited for, is granted
abbrev pub GrantsAsk : Journaled → Journaled → ℕ → Option Call → Reply → List Access → Type 0
GrantsAsk old new t asked reply accesses = (call : Call) → asked_for asked (finite.get old.asks t) ≡ Some call → new ≡ with_call old t call reply accesses

-- t waits for a call that is asked for now, and else waits on
abbrev pub with_ask : Journaled → ℕ → Option Call → Journaled
with_ask j t None = j
with_ask j t (Some call) = record j { asks = finite.insert j.asks t call }

-- an event more
abbrev pub with_event : Journaled → Event → Journaled
with_event j e = record j { events = j.events ++ e ∷ [] }

-- nothing is noted of t any more
abbrev pub without : Journaled → ℕ → Journaled
without j t = record j { asks = finite.remove j.asks t; subs = finite.remove j.subs t }

-- a child of t commits
abbrev pub with_sub : Journaled → ℕ → Journaled
with_sub j t = record j { subs = finite.insert j.subs t (Some j.last_stamp) }

-- that a child commits is noted of the parent, if there is one
abbrev pub noted_up : Journaled → Option ℕ → Journaled
noted_up j None = j
noted_up j (Some parent) = with_sub j parent

-- something is noted of the parent, if there is one
abbrev pub IsNoted : Journaled → Option ℕ → Type 0
IsNoted j None = Unit {0}
IsNoted j (Some parent) = IsSome (finite.get j.subs parent)

-- the state of transactions with their journal
abbrev pub state_of : Transactions → Journaled → State
state_of forest j = record {
  rule = j.rule;
  limits = record { depth = forest.limits.depth; transactions = forest.limits.transactions; calls = j.calls };
  base = record { tree = j.base_tree; last_txn = forest.base; last_stamp = j.base_stamp };
  events = j.events;
  asks = j.asks;
  last_txn = last_in forest;
  last_stamp = j.last_stamp;
}
