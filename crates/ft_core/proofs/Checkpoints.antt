-- A checkpoint: the core starts again from its tree.
use Rattle.std.proofs.Common.{◌≡◌, ◌+◌, ℕ, Bool, true, false, not, cond, List, [], ◌∷◌, Option, Some, None, is_some, length, arith, refl, sym, ap, subst, ◌∙◌}
use Rattle.std.specs.Prelude.{nat_lt, MatchBool}
use Rattle.std.proofs.lemmas.Bool.{false≢true, and_parts, lt-ltb}
use Rattle.std.specs.Ordering.{nat_cmp}
use Rattle.std.specs.FinMap as finite
use Rattle.ft_owned_lists.specs.OwnedLists.{Lists}
use Rattle.ft_laws.specs.Lists.{In}
use Rattle.ft_laws.proofs.Tests.{by_test}
use Rattle.ft_cells.specs.declared.cell.Cell.{Cell}
use Rattle.ft_cells.specs.Cells.{Cells}
use Rattle.ft_tree.specs.Sweep.{is_useless, at_place}
use Rattle.ft_tree.specs.Tidy.{tidy}
use Rattle.ft_posix.specs.declared.call.Call.{Call}
use Rattle.ft_posix.specs.Posix.{posix_calls}
use Rattle.ft_undo.specs.declared.logs.LogRecord.{LogRecord}
use Rattle.ft_undo.specs.Logs.{AreLists}
use Rattle.ft_forest.specs.declared.state.State.TheVariants.{Live as LiveState}
use Rattle.ft_forest.specs.Transactions.{Transactions, none_since, state_in, last_in, parent_of, state_of as life_of}
use Rattle.ft_lock_rules.specs.Locks.{LockTable, no_locks, is_kept}
use Rattle.ft_history.specs.History.{Base as HistoryBase, Fate, is_live, IsFresh, begun}
use Rattle.ft_history.specs.History.Fate.{Live}
use Rattle.ft_history.specs.Logs.{passing}
use Rattle.ft_history.specs.Core.{checkpoint}
use Rattle.ft_history.specs.Promises.{IsCheckpoint}
use Rattle.ft_history.proofs.Living.{lived}
use Rattle.ft_history.proofs.Methods.{core_checkpoint, core_new}
use Rattle.ft_history.proofs.Words.{passing-In}
use Rattle.ft_core.specs.declared.fault.Fault.{Fault}
use Rattle.ft_core.specs.declared.fault.Fault.TheVariants.{Live as LiveFault}
use Rattle.ft_core.specs.declared.request.Request.TheVariants.{Checkpoint}
use Rattle.ft_core.specs.Living.{SomeIsLive, NoneIsLive}
use Rattle.ft_core.specs.States.{State, history, fate_of, tree_of, live_transactions, has_live, after_checkpoint, fate_in}
use Rattle.ft_core.specs.Steps.{fault_if, refusal_of}
use Rattle.ft_core.specs.Journals.{Journaled, no_events, state_of}
use Rattle.ft_core.specs.declared.parts.Parts.{Parts}
use Rattle.ft_core.specs.Limits.{greatest_limits, are_within}
use Rattle.ft_core.specs.Kept.{start_of, AreLogged, IsCoreOf}
use Rattle.ft_core.specs.Laws.{CallLaws, LockLaws}
use Rattle.ft_core.proofs.Allowing.{limits-kept}
use Rattle.ft_core.proofs.Cores.{none-in, unborn}
use Rattle.ft_core.proofs.Ends.{live-is}
use Rattle.ft_core.proofs.Joining.{start, values, past, sound_values, tree_is}
use Rattle.ft_core.proofs.Gathered.{parts}

-- In a list of those who are live.

no-more : {A : Type 0} (x : A) (xs : List A) → nat_lt 0 (length (x ∷ xs)) ≡ true
no-more x xs = lt-ltb 0 (length (x ∷ xs)) (omega arith)

live-test : (o : Option Fate) → o ≡ Some Live → is_live o ≡ true
live-test o e = ap is_live e

module _ (W : CallLaws) (K : LockLaws) (p : Parts) (j : Journaled) (core : IsCoreOf (state_of p.forest j) p j) where
  abbrev cells : Cells
  cells = p.tree

  abbrev forest : Transactions
  forest = p.forest

  abbrev s : State
  s = state_of forest j

  abbrev from : HistoryBase posix_calls
  from = start W core.kept

  -- who is live is among those who were begun
  pub some-lives : SomeIsLive s → has_live s ≡ true
  some-lives one =
      let sound = past W core.kept in
      let l = lived posix_calls s.base.last_txn (history s) one.0 one.1 in
      there (live_transactions s) (passing-In (λ t. is_live (fate_of s t)) one.0 (begun posix_calls (history s)) (sound.numbers_all one.0 l.since l.begun) (live-test (fate_of s one.0) one.1))
    where
      there : (xs : List ℕ) → In one.0 xs → nat_lt 0 (length xs) ≡ true
      there [] i = absurd i
      there (x ∷ xs) i = no-more x xs

  -- where nothing refuses a checkpoint nobody is live
  pub none-lives : refusal_of s Checkpoint ≡ None → NoneIsLive s
  none-lives fine one = refuses (subst (λ b. fault_if b LiveFault None ≡ None) (some-lives one) fine)
    where
      refuses : {x : Fault} → Some x ≡ None → ⊥
      refuses e = cc

  module _ (none : NoneIsLive s) where
    -- nobody is live in the forest
    pub none-in-forest : (x : ℕ) → state_in forest x ≡ Some LiveState → ⊥
    none-in-forest x is = none (x, sym (core.transactions.fates x) ∙ ap fate_in is)

    -- The core from the new base: nobody has a lock, nothing can be taken back, and no place is of
    -- no use.
    module _ (useless : (c : Cell) → is_useless cells c ≡ false) (fresh-lists : Lists LogRecord) (empty : AreLists fresh-lists (λ t. [])) where
      abbrev q : Journaled
      q = no_events j.rule j.calls (tidy cells) j.last_stamp

      abbrev f : Transactions
      f = none_since forest.limits (last_in forest)

      abbrev at : State
      at = state_of f q

      checked : IsCheckpoint posix_calls from (history s) cells core.log
      checked = core_checkpoint posix_calls W.lawful from (values W core.kept) (history s) core.kept.hidden cells core.log core.kept.core (λ t live. none (t, live))

      same-base : checkpoint posix_calls from (history s) cells ≡ start_of at.base cells
      same-base = λ i. record { store = cells; transaction = sym core.kept.started.last_txn_is i; stamp = sym core.kept.started.last_stamp_is i }

      restarted : IsCoreOf at (parts cells f no_locks fresh-lists) q
      restarted = record {
        log = λ t. [];
        kept = record {
          started = record {
            store = cells;
            sound = core.kept.sound;
            tree = refl;
            fresh = subst (λ b. IsFresh posix_calls b) same-base (checked.fresh core.kept.started.fresh);
            last_txn_is = omega arith;
            last_stamp_is = refl;
            counted = refl;
            stamped = omega arith;
            within = core.kept.started.within;
          };
          hidden = λ i. false;
          core = core_new posix_calls W.lawful (start_of at.base cells) (sound_values cells core.kept.sound);
          sound = core.kept.sound;
        };
        transactions = record {
          base_is = refl;
          last = refl;
          parents = λ x. ap parent_of (none-in forest.limits (last_in forest) x);
          fates = λ x. ap (λ o. fate_in (life_of o)) (none-in forest.limits (last_in forest) x) ∙ sym (unborn (last_in forest) x);
        };
        locks = K.first;
        no_holder = λ strict. K.holders.first f;
        logs = record { logged = λ t. subst (AreLogged []) (sym (empty t)) tt; placed = λ t e i. absurd i };
        ready = λ t live. absurd (not_live (sym (unborn (last_in forest) t) ∙ live));
        waiting = λ t some. absurd (false≢true (sym (ap is_some (finite.get-empty {X = Call} nat_cmp t)) ∙ some));
        accounted = λ c spare. absurd (false≢true (sym (useless c) ∙ (and_parts (is_useless cells c) (not (at_place (is_kept no_locks) c)) spare).0));
        within = (λ i. are_within (record { file_size = (limits-kept W core.kept i).file_size; links = (limits-kept W core.kept i).links; depth = forest.limits.depth; transactions = forest.limits.transactions; calls = j.calls }) greatest_limits) ∙ core.within;
        bare = λ e. useless;
      }
        where
          not_live : {x : Fate} → None ≡ Some x → ⊥
          not_live e = cc

    pub core-restarted : ((c : Cell) → is_useless cells c ≡ false) → (f' : Transactions) → f' ≡ none_since forest.limits (last_in forest) → (copy : Cells) → copy ≡ cells → (rule : _) → rule ≡ j.rule → (calls : ℕ) → calls ≡ j.calls → (stamp : ℕ) → stamp ≡ j.last_stamp
        → (table' : LockTable) → table' ≡ no_locks → (lists' : Lists LogRecord) → AreLists lists' (λ t. []) → (j' : Journaled) → j' ≡ no_events rule calls (tidy copy) stamp → IsCoreOf (state_of f' j') (parts cells f' table' lists') j'
    core-restarted useless f' first copy same rule is calls as_many stamp last table' new lists' empty j' told =
        subst (λ (k : Journaled). IsCoreOf (state_of f' k) (parts cells f' table' lists') k) (sym (told ∙ (λ i. no_events (is i) (as_many i) (tidy (same i)) (last i))))
        (subst (λ (m : Transactions). IsCoreOf (state_of m (q useless lists' empty)) (parts cells m table' lists') (q useless lists' empty)) (sym first)
        (subst (λ (t : LockTable). IsCoreOf (at useless lists' empty) (parts cells (f useless lists' empty) t lists') (q useless lists' empty)) (sym new) (restarted useless lists' empty)))

    pub state-restarted : (f' : Transactions) → f' ≡ none_since forest.limits (last_in forest) → (copy : Cells) → copy ≡ cells → (rule : _) → rule ≡ j.rule → (calls : ℕ) → calls ≡ j.calls → (stamp : ℕ) → stamp ≡ j.last_stamp
        → (j' : Journaled) → j' ≡ no_events rule calls (tidy copy) stamp → state_of f' j' ≡ after_checkpoint s
    state-restarted f' first copy same rule is calls as_many stamp last j' told =
        let tree : tidy copy ≡ tree_of s = ap tidy same ∙ tree_is W core.kept in
        let none_more : last_in forest + 0 ≡ last_in forest = omega arith in
        (λ i. state_of (first i) (told i)) ∙ (λ i. record { rule = is i; limits = record { depth = forest.limits.depth; transactions = forest.limits.transactions; calls = as_many i }; base = record { tree = tree i; last_txn = last_in forest; last_stamp = last i }; events = []; asks = finite.empty; last_txn = none_more i; last_stamp = last i })

pub no-lives : (s : State) → NoneIsLive s → has_live s ≡ false
no-lives s none = ap (λ n. nat_lt 0 n) (nobody (begun posix_calls (history s)))
  where
    alive : (o : Option Fate) → is_live o ≡ true → o ≡ Some Live
    alive o e = live-is o e

    nobody : (xs : List ℕ) → length (passing (λ t. is_live (fate_of s t)) xs) ≡ 0
    nobody [] = refl
    nobody (x ∷ xs) = by_test (is_live (fate_of s x))
        (λ k. absurd (none (x, alive (fate_of s x) k)))
        (λ k. ap (λ b. length (cond b (x ∷ passing (λ t. is_live (fate_of s t)) xs) (passing (λ t. is_live (fate_of s t)) xs))) k ∙ nobody xs)

-- who finds a live one, or none, tells whether there is one
pub lives : (b : Bool) (s : State) → (SomeIsLive s → has_live s ≡ true) → MatchBool b (SomeIsLive s) (NoneIsLive s) → b ≡ has_live s
lives true s some found = sym (some found)
lives false s some none = sym (no-lives s none)
