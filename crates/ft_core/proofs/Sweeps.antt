-- What a sweep does to what a core keeps.
use Rattle.std.proofs.Common.{◌≡◌, ◌<◌, ◌&&◌, ◌||◌, ℕ, zero, suc, Bool, true, false, cond, not, List, [], ◌∷◌, Option, Some, None, IsSome, is_some, unwrap_or, inl, inr, arith, refl, sym, ap, subst, ◌∙◌, eq-eqb}
use Rattle.std.specs.Prelude.{nat_le, nat_lt}
use Rattle.std.proofs.lemmas.Option.{none-some}
use Rattle.std.proofs.lemmas.Bool.{false≢true, and_parts, or_right, leb-false, lt-leb, lt-ltb}
use Rattle.std.specs.FinMap as finite
use Rattle.std.specs.FinSet as set
use Rattle.ft_owned_lists.specs.OwnedLists.{Lists}
use Rattle.ft_laws.specs.Lists.{In}
use Rattle.ft_laws.specs.Laws.{is_hidden, holds}
use Rattle.ft_laws.specs.Runs.{Along}
use Rattle.ft_laws.proofs.Lists.{Each-from, Each-at}
use Rattle.ft_laws.proofs.Tests.{by_test, by_option}
use Rattle.ft_cells.specs.declared.cell.Cell.{Cell}
use Rattle.ft_cells.specs.declared.cell.Cell.TheVariants.{Entry, Names, Parent, Links, Bytes, Fd, DirAttributes, FileAttributes}
use Rattle.ft_cells.specs.Cells.{Cells, FileCells, no_file, file_of as stored_file, links_of, HasFilePlace}
use Rattle.ft_tree.specs.Held.{Holds, IsStored, held}
use Rattle.ft_tree.specs.Sound.{AreSoundCells, IsFree}
use Rattle.ft_tree.specs.Sweep.{IsSwept, is_dropped, HasNoneToDrop}
use Rattle.ft_tree.proofs.Sweeps.{swept-dir_attributes}
use Rattle.ft_posix.specs.Posix.{HasSoundValues, file_of, names_file, posix_calls}
use Rattle.ft_posix.specs.RunLaws.{writes_cell}
use Rattle.ft_undo.specs.declared.logs.LogRecord.{LogRecord}
use Rattle.ft_forest.specs.Transactions.{Transactions}
use Rattle.ft_lock_rules.specs.Locks.{LockTable, is_locked, is_kept}
use Rattle.ft_history.specs.History.{Base as HistoryBase, Fate, fate, IsLive, over, standing}
use Rattle.ft_history.specs.Locks.{owns_lock}
use Rattle.ft_history.specs.Core.{AreInverses, IsSweep, IsCore}
use Rattle.ft_history.proofs.Words.{same_some, none_some}
use Rattle.ft_history.proofs.History.{Sound, owner}
use Rattle.ft_history.proofs.Methods.{core_swept}
use Rattle.ft_history.proofs.Sweeping.{BringsNone, core_brings_none}
use Rattle.ft_core.specs.Histories.{History, Granted}
use Rattle.ft_core.specs.Living.{NoneIsLive}
use Rattle.ft_core.specs.States.{Base, Asks, State, history}
use Rattle.ft_core.specs.Journals.{Journaled}
use Rattle.ft_core.specs.Kept.{Item, Change, file_is_stored, ArePlaced, IsCoreAt, IsCoreOf}
use Rattle.ft_core.specs.Laws.{CallLaws, LockLaws}
use Rattle.ft_core.proofs.Accounts.{not-named, swept-accounted, none-useless}
use Rattle.ft_core.proofs.Cores.{unborn}
use Rattle.ft_core.proofs.Joining.{start, values, past, free}
use Rattle.ft_core.proofs.Owned.{owned-by, written-kept}
use Rattle.ft_core.proofs.Written.{written-changes, set-once}
use Rattle.ft_core.specs.declared.parts.Parts.{Parts}

-- The cells of a file.

file-cell : (P : Cell → Type 0) (i : ℕ) → P (Links i) → P (Bytes i) → P (FileAttributes i) → (x : Cell) → file_of x ≡ Some i → P x
file-cell P i links bytes attributes (Entry entry) e = absurd (none_some i e)
file-cell P i links bytes attributes (Names d) e = absurd (none_some i e)
file-cell P i links bytes attributes (Parent d) e = absurd (none_some i e)
file-cell P i links bytes attributes (Links j) e = subst (λ k. P (Links k)) (sym (same_some j i e)) links
file-cell P i links bytes attributes (Bytes j) e = subst (λ k. P (Bytes k)) (sym (same_some j i e)) bytes
file-cell P i links bytes attributes (Fd f) e = absurd (none_some i e)
file-cell P i links bytes attributes (DirAttributes d) e = absurd (none_some i e)
file-cell P i links bytes attributes (FileAttributes j) e = subst (λ k. P (FileAttributes k)) (sym (same_some j i e)) attributes

-- Whether a file is stored.

not-stored : (cells : Cells) (i : ℕ) → finite.contains_key cells.files i ≡ false → stored_file cells i ≡ no_file
not-stored cells i k = by_option (finite.get cells.files i)
    (λ none. ap (λ (o : Option FileCells). unwrap_or o no_file) none)
    (λ f some. absurd (false≢true (sym k ∙ ap (λ (o : Option FileCells). is_some o) some)))

stored-place : (cells : Cells) (i : ℕ) → finite.contains_key cells.files i ≡ true → HasFilePlace cells i
stored-place cells i k = by_option (finite.get cells.files i)
    (λ none. absurd (false≢true (sym (ap (λ (o : Option FileCells). is_some o) none) ∙ k)))
    (λ f some. subst (λ (o : Option FileCells). IsSome o) (sym some) refl)

place-stored : (cells : Cells) (i : ℕ) → HasFilePlace cells i → finite.contains_key cells.files i ≡ true
place-stored cells i place = by_option (finite.get cells.files i)
    (λ none. absurd (false≢true (subst (λ (o : Option FileCells). IsSome o) none place)))
    (λ f some. ap (λ (o : Option FileCells). is_some o) some)

no-links : (n : ℕ) (other : Bool) → (nat_lt 0 n || other) ≡ false → n ≡ 0
no-links n other e = by_test (nat_lt 0 n)
    (λ k. absurd (false≢true (sym e ∙ ap (λ b. b || other) k)))
    (λ k. by_zero n k)
  where
    by_zero : (n : ℕ) → nat_lt 0 n ≡ false → n ≡ 0
    by_zero zero k = refl
    by_zero (suc n) k = absurd (false≢true (sym k ∙ lt-ltb 0 (suc n) (omega arith)))

-- two things hold of a call of a run in the store in which its turn comes
along-at : (P Q : Cells → Granted → Type 0) (s : Cells) (cs : List Granted) → Along posix_calls P s cs → Along posix_calls Q s cs → (c : Granted) → In c cs → (t : Cells) × P t c × Q t c
along-at P Q s [] p q c i = absurd i
along-at P Q s (d ∷ ds) p q c (inl e) = (s, subst (P s) (sym e) p.0, subst (Q s) (sym e) q.0)
along-at P Q s (d ∷ ds) p q c (inr i) = along-at P Q (posix_calls.act s d.call) ds p.1 q.1 c i

-- before anything has happened nobody is live
never-live : (first : ℕ) (h : History) → h ≡ [] → (x : ℕ) → IsLive posix_calls first h x → ⊥
never-live first h e x live = none_fate (sym (unborn first x) ∙ ap (λ (k : History). fate posix_calls first k x) (sym e) ∙ live)
  where
    none_fate : {f : Fate} → None ≡ Some f → ⊥
    none_fate e = cc

module _ (W : CallLaws) (K : LockLaws) {base : Base} {h : History} {asks : Asks} {last_txn last_number : ℕ} {cells : Cells} {forest : Transactions} {table : LockTable} {lists : Lists LogRecord} {j : Journaled} (core : IsCoreAt base h asks last_txn last_number cells forest table lists j) (new : Cells) (swept : IsSwept (is_kept table) cells new) (none_left : HasNoneToDrop (is_kept table) new) (sound' : AreSoundCells new) where
  abbrev from : HistoryBase posix_calls
  from = start W core.kept

  with_values : HasSoundValues from.store
  with_values = values W core.kept

  sound : Sound posix_calls W.lawful from h
  sound = past W core.kept

  abbrev hidden : ℕ → Bool
  hidden = core.kept.hidden

  abbrev gone : ℕ → Bool
  gone i = is_dropped cells new i

  -- a dropped file is hidden from now on, if it was ever made
  abbrev more : ℕ → Bool
  more i = hidden i || (gone i && nat_le i last_number)

  unlocked : (i : ℕ) → gone i ≡ true → (y : ℕ) (x : Cell) → file_of x ≡ Some i → owns_lock posix_calls h y (λ f. posix_calls.touches f (Some x)) ≡ false
  unlocked i k y x e = K.cover from with_values h table core.locks x i e (file-cell (λ c. is_locked table c ≡ false) i (free (Links i) refl (swept.files i k).links) (free (Bytes i) refl (swept.files i k).bytes) (free (FileAttributes i) refl (swept.files i k).attributes) x e) y
    where
      -- what no lock keeps of a file is not locked
      free : (c : Cell) → file_of c ≡ Some i → is_kept table c ≡ false → is_locked table c ≡ false
      free c is gone_now = K.known.file table c i is gone_now

  unnamed : (i : ℕ) → gone i ≡ true → (x : Cell) → names_file x (held cells x) i ≡ false
  unnamed i k x = W.nameless cells core.kept.sound i (swept.files i k).dead x

  gone-of : (i : ℕ) → hidden i ≡ false → more i ≡ true → gone i ≡ true
  gone-of i seen unseen = (and_parts (gone i) (nat_le i last_number) (sym (ap (λ b. b || (gone i && nat_le i last_number)) seen) ∙ unseen)).0

  -- What is stored of a file that is not hidden stays.
  file-same : {A : Type 0} (what : FileCells → A) (i : ℕ) → (HasFilePlace new i → what (stored_file new i) ≡ what (stored_file cells i)) → (IsFree cells i → what (stored_file cells i) ≡ what no_file)
      → more i ≡ false → what (stored_file new i) ≡ what (stored_file cells i)
  file-same what i stays unused seen = by_test (finite.contains_key new.files i)
      (λ k. stays (stored-place new i k))
      (λ k. ap what (not-stored new i k) ∙ sym (by_test (finite.contains_key cells.files i)
      (λ was. by_test (nat_le i last_number)
      (λ old. absurd (false≢true (sym seen ∙ or_right (hidden i) (gone i && nat_le i last_number) (ap (λ b. (b && not (finite.contains_key new.files i)) && nat_le i last_number) was ∙ ap (λ b. not b && nat_le i last_number) k ∙ old))))
      (λ later. unused (free W core.kept i (past-last i later))))
      (λ k. ap what (not-stored cells i k))))
    where
      past-last : (i : ℕ) → nat_le i last_number ≡ false → last_number < i
      past-last i e = leb-false i last_number e

  -- the cells of a file whose place was dropped hold nothing
  file-gone : {A : Type 0} (what : FileCells → A) (i : ℕ) → (HasFilePlace new i → what (stored_file new i) ≡ what (stored_file cells i)) → (hidden i ≡ true → what (stored_file cells i) ≡ what no_file)
      → more i ≡ true → what (stored_file new i) ≡ what no_file
  file-gone what i stays was_gone unseen = by_test (finite.contains_key new.files i)
      (λ k. by_test (hidden i)
      (λ was. stays (stored-place new i k) ∙ was_gone was)
      (λ seen. absurd (false≢true (sym (ap not k) ∙ (and_parts (finite.contains_key cells.files i) (not (finite.contains_key new.files i)) (gone-of i seen unseen)).1))))
      (λ k. ap what (not-stored new i k))

  links-gone : (i : ℕ) → more i ≡ true → links_of new i ≡ 0
  links-gone i unseen = swept.links i ∙ by_test (hidden i)
      (λ was. core.kept.core.store.gone (Some (Links i)) was)
      (λ seen. no-links (links_of cells i) _ (swept.files i (gone-of i seen unseen)).dead)

  others : (x : Option Cell) → is_hidden posix_calls more x ≡ false → posix_calls.cell new x ≡ posix_calls.cell cells x
  others None k = swept.limits
  others (Some (Entry entry)) k = swept.entries entry.dir entry.name
  others (Some (Names d)) k = refl
  others (Some (Parent d)) k = swept.parents d
  others (Some (Links i)) k = swept.links i
  others (Some (Bytes i)) k = file-same (λ (f : FileCells). f.contents) i (swept.contents i) (λ free. free.unused (Bytes i) refl) k
  others (Some (Fd f)) k = swept.opens f
  others (Some (DirAttributes d)) k = swept-dir_attributes (is_kept table) cells new swept core.kept.sound d
  others (Some (FileAttributes i)) k = file-same (λ (f : FileCells). f.attributes) i (swept.file_attributes i) (λ free. free.unused (FileAttributes i) refl) k

  blanked : (x : Option Cell) → is_hidden posix_calls more x ≡ true → posix_calls.cell new x ≡ posix_calls.blank x
  blanked None k = absurd (false≢true k)
  blanked (Some (Entry entry)) k = absurd (false≢true k)
  blanked (Some (Names d)) k = absurd (false≢true k)
  blanked (Some (Parent d)) k = absurd (false≢true k)
  blanked (Some (Links i)) k = links-gone i k
  blanked (Some (Bytes i)) k = file-gone (λ (f : FileCells). f.contents) i (swept.contents i) (core.kept.core.store.gone (Some (Bytes i))) k
  blanked (Some (Fd f)) k = absurd (false≢true k)
  blanked (Some (DirAttributes d)) k = absurd (false≢true k)
  blanked (Some (FileAttributes i)) k = file-gone (λ (f : FileCells). f.attributes) i (swept.file_attributes i) (core.kept.core.store.gone (Some (FileAttributes i))) k

  -- nothing names a hidden file
  none-named : (x : Option Cell) (i : ℕ) → more i ≡ true → posix_calls.names x (posix_calls.cell cells x) i ≡ false
  none-named None i k = refl
  none-named (Some x) i k = by_test (hidden i)
      (λ was. core.kept.core.store.unnamed (Some x) i was)
      (λ seen. unnamed i (gone-of i seen k) x)

  -- and nobody has locked one that is hidden now
  none-locked : (y : ℕ) (x : Option Cell) → is_hidden posix_calls more x ≡ true → is_hidden posix_calls hidden x ≡ false → owns_lock posix_calls h y (λ f. posix_calls.touches f x) ≡ false
  none-locked y None k seen = absurd (false≢true k)
  none-locked y (Some x) k seen = by_option (file_of x)
      (λ none. absurd (false≢true (sym (ap (holds more) none) ∙ k)))
      (λ i e. unlocked i (gone-of i (sym (ap (holds hidden) e) ∙ seen) (sym (ap (holds more) e) ∙ k)) y x e)

  is-sweep : IsSweep posix_calls base.last_stamp h hidden more cells new
  is-sweep = record {
    kept = λ i k. ap (λ b. b || (gone i && nat_le i last_number)) k;
    old = λ a next.
        ap (λ b. b || (gone a.stamp && nat_le a.stamp last_number)) (core.kept.core.old a next)
        ∙ ap (λ b. gone a.stamp && b) (past-last a.stamp (subst (λ n. n < a.stamp) (sym core.kept.started.last_stamp_is) next))
        ∙ and-false (gone a.stamp);
    unnamed = none-named;
    unlocked = none-locked;
    others = others;
    blanked = blanked;
  }
    where
      and-false : (b : Bool) → (b && false) ≡ false
      and-false true = refl
      and-false false = refl

      past-last : (k : ℕ) → last_number < k → nat_le k last_number ≡ false
      past-last k lt = lt-leb k last_number lt

  core' : IsCore posix_calls from h more new core.log
  core' = core_swept posix_calls W.lawful from with_values h hidden cells core.log core.kept.core more new is-sweep

  -- The same of every cell, that of what the tree allows among them.
  all-unlocked : (i : ℕ) → gone i ≡ true → (y : ℕ) (x : Option Cell) → posix_calls.file_of x ≡ Some i → owns_lock posix_calls h y (λ f. posix_calls.touches f x) ≡ false
  all-unlocked i k y None e = absurd (none-some i e)
  all-unlocked i k y (Some x) e = unlocked i k y x e

  all-unnamed : (i : ℕ) → gone i ≡ true → (x : Option Cell) → posix_calls.names x (posix_calls.cell cells x) i ≡ false
  all-unnamed i k = not-named cells i (unnamed i k)

  -- Places of what takes owned calls back.

  module _ (t : ℕ) (e : Item) (i : In e (core.log t)) where
    was : ArePlaced cells e
    was = core.logs.placed t e i

    owned : In e.done (standing posix_calls h) × (owner posix_calls h e.done ≡ Some t)
    owned = owned-by W K core t e i

    locked : (c : Cell) → writes_cell e.done.accesses c ≡ true → is_kept table c ≡ true
    locked = written-kept W K core t e i

    -- and names no file that is gone
    brings : (w : Change) → In w e.inverse.before → (k : ℕ) → gone k ≡ true → names_file w.cell w.value k ≡ false
    brings w j k g =
        let at = along-at (BringsNone posix_calls W.lawful (over posix_calls h) (owner posix_calls h) k) (AreInverses posix_calls core.log) from.store (standing posix_calls h)
        (core_brings_none posix_calls W.lawful from with_values h hidden cells core.log core.kept.core k (all-unlocked k g) (all-unnamed k g)) core.kept.core.inverses e.done owned.0 in
        let after = posix_calls.act at.0 e.done.call in
        let changes = written-changes e.done.accesses w.cell (Each-at (λ (v : Change). writes_cell e.done.accesses v.cell ≡ true) e.inverse.before w was.own.before j) in
        let back = (at.2 e.inverse t i after (λ x c. refl)).1 (Some w.cell) in
        let value : w.value ≡ held at.0 w.cell = sym (set-once W.setting e.inverse.before after was.own.apart w j) ∙ back ∙ ap (λ b. cond b (held at.0 w.cell) (held after w.cell)) changes in
        ap (λ v. names_file w.cell v k) value ∙ at.1 t owned.1 (Some w.cell) changes

    file-kept : (c : Cell) (v : Holds c) → ((k : ℕ) → gone k ≡ true → names_file c v k ≡ false) → file_is_stored cells c v → file_is_stored new c v
    file-kept (Entry entry) v none stored = tt
    file-kept (Names d) v none stored = tt
    file-kept (Parent d) v none stored = tt
    file-kept (Links n) v none stored = tt
    file-kept (Bytes n) v none stored = tt
    file-kept (DirAttributes d) v none stored = tt
    file-kept (FileAttributes n) v none stored = tt
    file-kept (Fd f) None none stored = tt
    file-kept (Fd f) (Some o) none stored = by_test (finite.contains_key new.files o.file)
        (stored-place new o.file)
        (λ seen. absurd (false≢true (sym (none o.file (ap (λ b. b && not (finite.contains_key new.files o.file)) (place-stored cells o.file stored) ∙ ap not seen)) ∙ eq-eqb o.file o.file refl)))

    placed : ArePlaced new e
    placed = record {
      own = was.own;
      written = Each-from (λ (w : Change). IsStored new w.cell) e.inverse.after
          (λ w j. swept.places w.cell (locked w.cell (Each-at (λ (v : Change). writes_cell e.done.accesses v.cell ≡ true) e.inverse.after w was.own.after j)) (Each-at (λ (v : Change). IsStored cells v.cell) e.inverse.after w was.written j));
      files = Each-from (λ (w : Change). file_is_stored new w.cell w.value) e.inverse.before
          (λ w j. file-kept w.cell w.value (brings w j) (Each-at (λ (v : Change). file_is_stored cells v.cell v.value) e.inverse.before w was.files j));
    }

  -- Where nothing has happened no lock keeps a cell.
  all-free : h ≡ [] → (c : Cell) → is_kept table c ≡ false
  all-free e c = by_test (is_kept table c)
      (λ k. let lock = K.known.locked table c (K.known.kept table c k) in absurd (never-live base.last_txn h e lock.0.owner (K.live from with_values h table core.locks core.kept.core.legal lock.0 lock.1)))
      (λ k. k)

  -- A core keeps all of it.
  pub core-swept : (table' : LockTable) → table'.lines ≡ table.lines → table'.opened ≡ table.opened → table'.keeps_all ≡ table.keeps_all → IsCoreAt base h asks last_txn last_number new forest table' lists j
  core-swept table' lines opened keeps_all = record {
    log = core.log;
    kept = record { started = core.kept.started; hidden = more; core = core'; sound = sound' };
    transactions = core.transactions;
    locks = λ l. ap (λ s. set.contains s l) lines ∙ core.locks l;
    no_holder = λ strict. K.holders.fewer table table' (λ l e. sym (ap (λ s. set.contains s l) lines) ∙ e) forest forest (λ x. refl) (core.no_holder strict);
    logs = record { logged = core.logs.logged; placed = placed };
    ready = λ u live. let now = core.ready u live in record { locks = ap (λ s. set.contains s u) opened ∙ now.locks; log = now.log; sub = now.sub };
    waiting = core.waiting;
    accounted = swept-accounted table table' new lines keeps_all none_left;
    within = core.within;
    bare = λ e. none-useless (is_kept table) new (all-free e) none_left;
  }

-- Where no transaction is live, no lock keeps a cell.
pub nobody-locks : (W : CallLaws) (K : LockLaws) (s : State) (p : Parts) (j : Journaled) → IsCoreOf s p j → NoneIsLive s → (c : Cell) → is_kept p.locks c ≡ false
nobody-locks W K s p j core none c = by_test (is_kept p.locks c)
    (λ k.
    let lock = K.known.locked p.locks c (K.known.kept p.locks c k) in
    let from = start W core.kept in
    let with_values = values W core.kept in
    absurd (none (lock.0.owner, K.live from with_values (history s) p.locks core.locks core.kept.core.legal lock.0 lock.1)))
    (λ k. k)
