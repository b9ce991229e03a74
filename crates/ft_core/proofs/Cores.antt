-- A new core, and what is noted of those who wait.
use Rattle.std.proofs.Common.{◌≡◌, ◌<◌, ◌≤◌, ◌-◌, ◌+◌, ◌&&◌, ℕ, true, false, cond, [], Some, None, is_some, arith, refl, sym, ap, subst, ◌∙◌, ne_eqb, eq-eqb}
use Rattle.std.specs.Prelude.{nat_lt, nat_le, slice_get}
use Rattle.std.proofs.lemmas.Bool.{false≢true, and_parts, ltb-true, leb-true}
use Rattle.std.specs.Cmp.{nat_cmp_total, unsigned_tied}
use Rattle.std.specs.Ordering.{nat_cmp}
use Rattle.std.specs.FinMap as finite
use Rattle.ft_owned_lists.specs.OwnedLists.{Lists}
use Rattle.ft_laws.proofs.Tests.{by_test}
use Rattle.ft_cells.specs.declared.limits.TreeLimits.{TreeLimits}
use Rattle.ft_cells.specs.Cells.{Cells, fresh_cells}
use Rattle.ft_tree.specs.Sound.{AreSoundCells, IsFree}
use Rattle.ft_tree.specs.Sweep.{IsAccounted, is_useless}
use Rattle.ft_tree.specs.Tidy.{tidy}
use Rattle.ft_posix.specs.declared.call.Call.{Call}
use Rattle.ft_posix.specs.Posix.{posix_calls}
use Rattle.ft_undo.specs.declared.logs.LogRecord.{LogRecord}
use Rattle.ft_undo.specs.Logs.{AreLists}
use Rattle.ft_forest.specs.declared.limits.ForestLimits.{ForestLimits}
use Rattle.ft_forest.specs.Transactions.{Transaction, Transactions, none_since, transaction_in, parent_of, state_of as life_of}
use Rattle.ft_lock_rules.specs.declared.rule.Rule.{Rule}
use Rattle.ft_lock_rules.specs.Rules.{is_strict}
use Rattle.ft_lock_rules.specs.Locks.{LockTable, no_locks, is_kept, is_released}
use Rattle.ft_history.specs.History.{Fate, fate, IsLive}
use Rattle.ft_history.specs.History.Fate.{Live, Committed, Aborted}
use Rattle.ft_history.proofs.Words.{by_number}
use Rattle.ft_history.proofs.Methods.{core_new}
use Rattle.ft_core.specs.Histories.{History}
use Rattle.ft_core.specs.States.{Base, Asks, fate_in}
use Rattle.ft_core.specs.Journals.{Journaled, no_events, state_of}
use Rattle.ft_core.specs.Limits.{greatest_limits, are_within}
use Rattle.ft_core.specs.Kept.{start_of, AreLogged, IsCoreAt, IsCoreOf}
use Rattle.ft_core.specs.Laws.{CallLaws, LockLaws}
use Rattle.ft_core.proofs.Accounts.{fresh-none, fresh-accounted}
use Rattle.ft_core.proofs.Allowing.{still-within}
use Rattle.ft_core.proofs.Joining.{sound_values}
use Rattle.ft_core.proofs.Gathered.{parts}

pub none-in : (limits : ForestLimits) (first x : ℕ) → transaction_in (none_since limits first) x ≡ None
none-in limits first x = by_test (nat_lt first x) (λ k. ap (λ b. cond b (slice_get {X = Transaction} [] (x - (first + 1))) None) k ∙ refl) (λ k. ap (λ b. cond b (slice_get {X = Transaction} [] (x - (first + 1))) None) k)

pub unborn : (first x : ℕ) → fate posix_calls first [] x ≡ None
unborn first x = by_test (nat_lt first x && nat_le x first)
    (λ k. let parts = and_parts (nat_lt first x) (nat_le x first) k in let one : first < x = ltb-true first x parts.0 in let two : x ≤ first = leb-true x first parts.1 in absurd (omega arith))
    (λ k. ap (λ b. cond b (Some (cond false Committed (cond false Aborted Live))) None) k)

-- these are within the greatest limits
abbrev pub AreAllowed : ℕ → ForestLimits → TreeLimits → Type 0
AreAllowed calls few limits = are_within (record { file_size = limits.file_size; links = limits.links; depth = few.depth; transactions = few.transactions; calls = calls }) greatest_limits ≡ true

-- new: the root alone
pub core-first : CallLaws → LockLaws → (rule : Rule) (calls : ℕ) (few : ForestLimits) (limits : TreeLimits) (cells : Cells) → cells ≡ fresh_cells limits → AreSoundCells cells → ((k : ℕ) → 2 ≤ k → IsFree cells k) → (lists : Lists LogRecord) → AreLists lists (λ t. [])
    → AreAllowed calls few limits → IsCoreOf (state_of (none_since few 0) (no_events rule calls (tidy cells) 1)) (parts cells (none_since few 0) no_locks lists) (no_events rule calls (tidy cells) 1)
core-first W K rule calls few limits cells fresh sound free lists none within = record {
  log = λ t. [];
  kept = record {
    started = record {
      store = cells;
      sound = sound;
      tree = refl;
      fresh = λ a later. free a.stamp (omega arith);
      last_txn_is = refl;
      last_stamp_is = refl;
      counted = refl;
      stamped = refl;
      within = omega arith;
    };
    hidden = λ i. false;
    core = core_new posix_calls W.lawful (start_of (record { tree = tidy cells; last_txn = 0; last_stamp = 1 }) cells) (sound_values cells sound);
    sound = sound;
  };
  transactions = record {
    base_is = refl;
    last = refl;
    parents = λ x. ap parent_of (none-in few 0 x);
    fates = λ x. ap (λ o. fate_in (life_of o)) (none-in few 0 x) ∙ sym (unborn 0 x);
  };
  locks = K.first;
  no_holder = λ strict. K.holders.first (none_since few 0);
  logs = record { logged = λ t. subst (AreLogged []) (sym (none t)) tt; placed = λ t e i. absurd i };
  ready = λ t live. absurd (not_live (sym (unborn 0 t) ∙ live));
  waiting = λ t some. absurd (false≢true (sym (ap is_some (finite.get-empty {X = Call} nat_cmp t)) ∙ some));
  accounted = subst (IsAccounted (is_kept no_locks) (is_released no_locks)) (sym fresh) (fresh-accounted limits (is_kept no_locks) (is_released no_locks));
  within = (λ i. are_within (record { file_size = (fresh i).limits.file_size; links = (fresh i).limits.links; depth = few.depth; transactions = few.transactions; calls = calls }) greatest_limits) ∙ within;
  bare = λ e c. ap (λ k. is_useless k c) fresh ∙ fresh-none limits c;
}
  where
    not_live : {f : Fate} → None ≡ Some f → ⊥
    not_live e = cc

pub core-new : CallLaws → LockLaws → (rule : Rule) (calls : ℕ) (few : ForestLimits) (limits : TreeLimits) (cells : Cells) → cells ≡ fresh_cells limits → AreSoundCells cells → ((k : ℕ) → 2 ≤ k → IsFree cells k) → (lists : Lists LogRecord) → AreLists lists (λ t. []) → (forest : Transactions) → forest ≡ none_since few 0
    → (table : LockTable) → table ≡ no_locks → (j : Journaled) → j ≡ no_events rule calls (tidy cells) 1 → AreAllowed calls few limits → IsCoreOf (state_of forest j) (parts cells forest table lists) j
core-new W K rule calls few limits cells fresh sound free lists none forest first table empty j is within =
    let q : Journaled = no_events rule calls (tidy cells) 1 in
    subst (λ (k : Journaled). IsCoreOf (state_of forest k) (parts cells forest table lists) k) (sym is)
    (subst (λ (m : Transactions). IsCoreOf (state_of m q) (parts cells m table lists) q) (sym first)
    (subst (λ (t : LockTable). IsCoreOf (state_of (none_since few 0) q) (parts cells (none_since few 0) t lists) q) (sym empty)
    (core-first W K rule calls few limits cells fresh sound free lists none within)))

module _ {base : Base} {h : History} {asks : Asks} {last_txn last_number : ℕ} {cells : Cells} {forest : Transactions} {table : LockTable} {lists : Lists LogRecord} {j : Journaled} (core : IsCoreAt base h asks last_txn last_number cells forest table lists j) where
  -- others wait
  pub core-asks : (asks' : Asks) → ((t : ℕ) → is_some (finite.get asks' t) ≡ true → IsLive posix_calls base.last_txn h t) → (j' : Journaled) → j'.rule ≡ j.rule → j'.subs ≡ j.subs → j'.calls ≡ j.calls → IsCoreAt base h asks' last_txn last_number cells forest table lists j'
  core-asks asks' waiting j' rule subs calls = record {
    log = core.log;
    kept = core.kept;
    transactions = core.transactions;
    locks = core.locks;
    no_holder = λ strict. core.no_holder (sym (ap is_strict rule) ∙ strict);
    logs = core.logs;
    ready = λ t live. let was = core.ready t live in record { locks = was.locks; log = was.log; sub = ap (λ m. finite.get m t) subs ∙ was.sub };
    waiting = waiting;
    accounted = core.accounted;
    within = still-within base forest forest j j' refl calls core.within;
    bare = core.bare;
  }

  -- one waits no more
  pub dropped : (u t : ℕ) → is_some (finite.get (finite.remove asks u) t) ≡ true → IsLive posix_calls base.last_txn h t
  dropped u t some =
      let get = finite.get-remove nat_cmp_total asks u t in
      by_number t u
      (λ is. absurd (false≢true (sym (ap (λ o. is_some o) (get ∙ ap (λ b. cond b None (finite.get asks t)) (unsigned_tied t u ∙ eq-eqb t u is))) ∙ some)))
      (λ ne. core.waiting t (sym (ap (λ o. is_some o) (get ∙ ap (λ b. cond b None (finite.get asks t)) (unsigned_tied t u ∙ ne_eqb t u ne))) ∙ some))

  -- one waits that lives
  pub awaited : (u : ℕ) (call : Call) → IsLive posix_calls base.last_txn h u → (t : ℕ) → is_some (finite.get (finite.insert asks u call) t) ≡ true → IsLive posix_calls base.last_txn h t
  awaited u call live t some =
      let get = finite.get-insert nat_cmp_total asks u call t in
      by_number t u
      (λ is. subst (IsLive posix_calls base.last_txn h) (sym is) live)
      (λ ne. core.waiting t (sym (ap (λ o. is_some o) (get ∙ ap (λ b. cond b (Some call) (finite.get asks t)) (unsigned_tied t u ∙ ne_eqb t u ne))) ∙ some))
