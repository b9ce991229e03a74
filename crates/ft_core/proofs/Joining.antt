-- The core of ft_history at the calls on a tree is a core over the plain tree.
use Rattle.std.proofs.Common.{◌≡◌, ◌<◌, ◌+◌, ℕ, suc, List, ◌∷◌, Option, Some, arith, add-one, refl, sym, ap, subst, ◌∙◌}
use Rattle.ft_laws.specs.Lists.{Pairs}
use Rattle.ft_cells.specs.Cells.{Cells}
use Rattle.ft_tree.specs.Sound.{AreSoundCells, IsFree}
use Rattle.ft_tree.specs.Tidy.{tidy}
use Rattle.ft_posix.specs.declared.call.Call.{Call}
use Rattle.ft_posix.specs.declared.call.Call.TheVariants.{Close as CloseCall}
use Rattle.ft_posix.specs.Accesses.{accesses_of}
use Rattle.ft_posix.specs.Exec.{exec}
use Rattle.ft_posix.specs.Stored.{outcome as outcome_on}
use Rattle.ft_posix.specs.RunLaws.{RunsPlainly, GiveReplies, tree_after, accesses_in}
use Rattle.ft_posix.specs.Posix.{HasSoundValues, Stamped, posix_calls}
use Rattle.ft_history.specs.History.{Base as HistoryBase, last_stamp, IsLive, standing}
use Rattle.ft_history.specs.History.Event.{Begin as WasBegun}
use Rattle.ft_history.specs.Legal.{outcome, MayBegin, Legal}
use Rattle.ft_history.proofs.History.{Sound}
use Rattle.ft_history.proofs.Legal.{sound_all}
use Rattle.ft_history.proofs.Methods.{core_begun, core_ready}
use Rattle.ft_core.specs.Histories.{History}
use Rattle.ft_core.specs.States.{Base}
use Rattle.ft_core.specs.Kept.{Item, start_of, IsStarted, IsKept}
use Rattle.ft_core.specs.Laws.{CallLaws}
use Rattle.ft_core.proofs.Counts.{length-push}

-- sound cells have sound values
pub sound_values : (cells : Cells) → AreSoundCells cells → HasSoundValues cells
sound_values cells sound = record { with_places = cells; sound = sound; same = record { limits = refl; values = λ c. refl } }

-- the run of the standing calls of a legal history
pub runs-plainly : CallLaws → {base : Base} {h : History} {last_txn last_number : ℕ} (started : IsStarted base h last_txn last_number) → Legal posix_calls (start_of base started.store) h → RunsPlainly started.store (standing posix_calls h)
runs-plainly W {base} {h} started legal =
    let runs = (sound_all posix_calls W.lawful (start_of base started.store) (sound_values started.store started.sound) h legal).runs in
    W.runs started.store (standing posix_calls h) started.sound runs.able.ready runs.able.distinct runs.faithful

module _ (W : CallLaws) {base : Base} {h : History} {last_txn last_number : ℕ} {cells : Cells} {log : ℕ → List Item} (kept : IsKept base h last_txn last_number cells log) where
  abbrev pub start : HistoryBase posix_calls
  start = start_of base kept.started.store

  pub values : HasSoundValues start.store
  values = sound_values start.store kept.started.sound

  pub past : Sound posix_calls W.lawful start h
  past = sound_all posix_calls W.lawful start values h kept.core.legal

  plainly : RunsPlainly start.store (standing posix_calls h)
  plainly = runs-plainly W kept.started kept.core.legal

  pub tree_is : tidy cells ≡ tree_after base.tree (standing posix_calls h)
  tree_is =
      W.hiding kept.hidden (outcome posix_calls start h) cells plainly.sound kept.sound kept.core.store ∙ plainly.plain
      ∙ ap (λ p. tree_after p (standing posix_calls h)) kept.started.tree

  pub replies_are : GiveReplies base.tree (standing posix_calls h)
  replies_are = subst (λ p. GiveReplies p (standing posix_calls h)) kept.started.tree plainly.replies

  pub order_is : Pairs (λ b a. b.call.stamp < a.call.stamp) (standing posix_calls h)
  order_is = past.runs.kept.rising

  -- a new stamp numbers nothing in the core's cells
  pub free : (k : ℕ) → last_number < k → IsFree cells k
  free k next =
      let a : Stamped = record { stamp = k; call = CloseCall 0 } in
      let later : last_stamp posix_calls base.last_stamp h < k = subst (λ n. n < k) kept.started.last_stamp_is next in
      let all = kept.started.stamped in
      core_ready posix_calls W.lawful start values h kept.hidden cells log kept.core a (kept.started.fresh a (omega arith)) later

  -- the accesses of the next call are those on the tree of the state
  pub accesses-are : (k : ℕ) (call : Call) → accesses_of cells k call ≡ accesses_in (tree_after base.tree (standing posix_calls h)) k call
  accesses-are k call = sym (W.plain_accesses cells k call kept.sound) ∙ ap (λ p. accesses_in p k call) tree_is

  -- and so is the reply
  pub reply-is : (k : ℕ) (call : Call) → last_number < k → (outcome_on cells k call).reply ≡ (exec (tree_after base.tree (standing posix_calls h)) k call).1
  reply-is k call next = sym (ap (λ r. r.1) (W.tidying cells k call kept.sound (free k next))) ∙ ap (λ p. (exec p k call).1) tree_is

  pub may-begin : (n : ℕ) (up : Option ℕ) → n ≡ last_txn + 1 → ((q : ℕ) → up ≡ Some q → IsLive posix_calls base.last_txn h q) → MayBegin posix_calls base.last_txn h n up
  may-begin n up next live = record { next = next ∙ add-one last_txn ∙ ap suc kept.started.last_txn_is; live = live }

  -- begin and sub
  pub kept-begin : (n : ℕ) (up : Option ℕ) → n ≡ last_txn + 1 → ((q : ℕ) → up ≡ Some q → IsLive posix_calls base.last_txn h q) → IsKept base (WasBegun n up ∷ h) n last_number cells log
  kept-begin n up next live = record {
    started = record {
      store = kept.started.store;
      sound = kept.started.sound;
      tree = kept.started.tree;
      fresh = kept.started.fresh;
      last_txn_is = refl;
      last_stamp_is = kept.started.last_stamp_is;
      counted = let all = kept.started.counted in length-push _ n base.last_txn last_txn all ∙ sym next;
      stamped = kept.started.stamped;
      within = kept.started.within;
    };
    hidden = kept.hidden;
    core = core_begun posix_calls W.lawful start values h kept.hidden cells log kept.core n up (may-begin n up next live);
    sound = kept.sound;
  }
