-- The calls of the serial list, made one after another from the base.
use Rattle.std.proofs.Common.{◌≡◌, ◌<◌, List, [], ◌∷◌, false, sym, subst, ◌∙◌, arith}
use Rattle.ft_laws.specs.Lists.{Each, In}
use Rattle.ft_laws.specs.Runs.{run}
use Rattle.ft_laws.proofs.Lists.{Each-at, Each-from, Each-append}
use Rattle.ft_laws.proofs.Running.{same_hides}
use Rattle.ft_cells.specs.Plain.{PlainTree}
use Rattle.ft_tree.specs.Tidy.{tidy}
use Rattle.ft_posix.specs.Posix.{posix_calls}
use Rattle.ft_posix.specs.RunLaws.{RunsPlainly, GiveReplies, tree_after}
use Rattle.ft_history.specs.History.{Base as HistoryBase, number, grants}
use Rattle.ft_history.specs.History.Event.{Begin, Call, Undo, Commit, Abort}
use Rattle.ft_history.specs.Legal.{Legal, outcome}
use Rattle.ft_history.specs.Serial.{AreMade, IsSerial, committed_part, serial_list}
use Rattle.ft_history.proofs.History.{Sound, stands}
use Rattle.ft_history.proofs.Legal.{sound_all}
use Rattle.ft_history.proofs.Sorted.{serial}
use Rattle.ft_core.specs.Histories.{History, Granted}
use Rattle.ft_core.specs.States.{StoredState, history, standing_calls}
use Rattle.ft_core.specs.Reached.{IsReached}
use Rattle.ft_core.proofs.Known.{lawful_calls, call_laws}
use Rattle.ft_serial.specs.Serials.{RunsSerially}
use Rattle.ft_serial.proofs.Reaching.{start, values}

-- the stamps are above the base's last one
stamps-since : (base : HistoryBase posix_calls) → posix_calls.IsSound base.store → (h : History) → Legal posix_calls base h → Each (λ c. base.stamp < number posix_calls c) (grants posix_calls h)
stamps-since base sound [] legal = tt
stamps-since base sound (Begin n p ∷ h) legal = stamps-since base sound h legal.1
stamps-since base sound (Call c ∷ h) legal =
    let next = legal.0.next in
    let old = (sound_all posix_calls lawful_calls base sound h legal.1).stamped in
    Each-append (λ d. base.stamp < number posix_calls d) (grants posix_calls h) (c ∷ []) (stamps-since base sound h legal.1) (omega arith, tt)
stamps-since base sound (Undo k ∷ h) legal = stamps-since base sound h legal.1
stamps-since base sound (Commit t ∷ h) legal = stamps-since base sound h legal.1
stamps-since base sound (Abort t ∷ h) legal = stamps-since base sound h legal.1

module _ (core : StoredState) (reached : IsReached core) where
  abbrev first : HistoryBase posix_calls
  first = start core reached

  abbrev h : History
  h = history core.state

  abbrev listed : List Granted
  listed = serial_list posix_calls h

  past : Sound posix_calls lawful_calls first h
  past = sound_all posix_calls lawful_calls first (values core reached) h reached.legal

  whole : IsSerial posix_calls first h
  whole = serial posix_calls lawful_calls first (values core reached) h reached.legal

  plainly : (calls : List Granted) → AreMade posix_calls first calls → RunsPlainly reached.started.store calls
  plainly calls made = call_laws.runs reached.started.store calls reached.started.sound made.able.ready made.able.distinct made.replies

  standing : RunsPlainly reached.started.store (standing_calls core.state)
  standing = plainly (standing_calls core.state) (record { able = past.runs.able; replies = past.runs.faithful })

  all : RunsPlainly reached.started.store listed
  all = plainly listed whole.made

  same : tree_after (tidy reached.started.store) listed ≡ tree_after (tidy reached.started.store) (standing_calls core.state)
  same =
      sym all.plain
      ∙ call_laws.hiding (λ i. false) (outcome posix_calls first h) (run posix_calls reached.started.store listed) standing.sound all.sound
      (same_hides posix_calls lawful_calls (outcome posix_calls first h) (run posix_calls reached.started.store listed) whole.store)
      ∙ standing.plain

  since : (c : Granted) → In c listed → core.state.base.last_stamp < c.call.stamp
  since c i =
      Each-at (λ d. core.state.base.last_stamp < d.call.stamp) (grants posix_calls h) c (stamps-since first (values core reached) h reached.legal)
      (stands posix_calls lawful_calls first h past c ((whole.all c).0 i)).0

  pub runs-serially : RunsSerially core.state
  runs-serially = record {
    tree = subst (λ (p : PlainTree). tree_after p listed ≡ tree_after p (standing_calls core.state)) reached.started.tree same;
    replies = subst (λ (p : PlainTree). GiveReplies p listed) reached.started.tree all.replies;
    all = whole.all;
    distinct = whole.made.able.distinct;
    since = Each-from (λ c. core.state.base.last_stamp < c.call.stamp) listed since;
    committed = subst (λ (p : PlainTree). GiveReplies p (committed_part posix_calls h)) reached.started.tree (plainly (committed_part posix_calls h) whole.committed).replies;
  }
