-- A transaction that is to begin is opened in the journal, in the lock table and in the logs.
use Rattle.std.proofs.Common.{◌≡◌, ◌≢◌, ℕ, true, cond, Option, Some, None, refl, sym, ap, ◌∙◌, ne_eqb, eq-eqb}
use Rattle.std.proofs.lemmas.Bool.{or_left, or_right}
use Rattle.std.specs.Ordering.{nat_cmp, eq_by_cmp}
use Rattle.std.specs.Cmp.{nat_cmp_total, unsigned_tied}
use Rattle.std.specs.FinMap as finite
use Rattle.std.specs.FinSet as set
use Rattle.ft_owned_lists.specs.OwnedLists.{Lists, list_in}
use Rattle.ft_undo.specs.declared.logs.LogRecord.{LogRecord}
use Rattle.ft_undo.specs.Logs.{is_open, AreLists, AreOpen}
use Rattle.ft_lock_rules.specs.Locks.{LockTable, is_opened}
use Rattle.ft_history.specs.Logs.{put}
use Rattle.ft_history.proofs.Words.{put_same, put_other, by_number}
use Rattle.ft_core.specs.Journals.{Journaled}
use Rattle.ft_core.specs.Opens.{AreAsBefore, IsOpenFor}

abbrev pub Subs : Type 0
Subs = finite.FinMap nat_cmp (Option ℕ)

noted-same : (m : Subs) (n : ℕ) (v : Option ℕ) (t : ℕ) → t ≡ n → finite.get (finite.insert m n v) t ≡ Some v
noted-same m n v t is = finite.get-insert nat_cmp_total m n v t ∙ ap (λ b. cond b (Some v) (finite.get m t)) (unsigned_tied t n ∙ eq-eqb t n is)

noted-other : (m : Subs) (n : ℕ) (v : Option ℕ) (t : ℕ) → t ≢ n → finite.get (finite.insert m n v) t ≡ finite.get m t
noted-other m n v t ne = finite.get-insert nat_cmp_total m n v t ∙ ap (λ b. cond b (Some v) (finite.get m t)) (unsigned_tied t n ∙ ne_eqb t n ne)

pub open-other : (old new : LockTable) (n : ℕ) → new ≡ record old { opened = set.insert old.opened n } → (t : ℕ) → is_opened old t ≡ true → is_opened new t ≡ true
open-other old new n is t e = ap (λ x. is_opened x t) is ∙ set.contains-insert nat_cmp_total old.opened n t ∙ or_right (eq_by_cmp nat_cmp t n) (is_opened old t) e

open-same : (old new : LockTable) (n : ℕ) → new ≡ record old { opened = set.insert old.opened n } → is_opened new n ≡ true
open-same old new n is = ap (λ x. is_opened x n) is ∙ set.contains-insert nat_cmp_total old.opened n n ∙ or_left (eq_by_cmp nat_cmp n n) (is_opened old n) (unsigned_tied n n ∙ eq-eqb n n refl)

pub logs-other : (old new : Lists LogRecord) (n : ℕ) → AreOpen new (put (is_open old) n true) → (t : ℕ) → is_open old t ≡ true → is_open new t ≡ true
logs-other old new n are t e = are t ∙ by_number t n (λ is. put_same (is_open old) n true t is) (λ ne. put_other (is_open old) n true t ne ∙ e)

-- what differs in one place is what it is with this one as it is
shape : (j j' : Journaled) {subs : Subs} → j' ≡ record j { subs = subs } → j' ≡ record j { subs = j'.subs }
shape j j' is = is ∙ (λ i. record j { subs = (sym is i).subs })

-- the table is the same but for who is open
pub locks-same : (old new : LockTable) → new ≡ old → new ≡ record old { opened = new.opened }
locks-same old new is = is ∙ (λ i. record old { opened = (sym is i).opened })

pub locks-opened : (old new : LockTable) (n : ℕ) → new ≡ record old { opened = set.insert old.opened n } → new ≡ record old { opened = new.opened }
locks-opened old new n is = is ∙ (λ i. record old { opened = (sym is i).opened })

pub one-noted : (j j' : Journaled) (table table' : LockTable) (lists lists' : Lists LogRecord) (n : ℕ) → j' ≡ record j { subs = finite.insert j.subs n None }
    → table' ≡ record table { opened = table'.opened } → ((t : ℕ) → is_opened table t ≡ true → is_opened table' t ≡ true) → AreLists lists' (list_in lists) → ((t : ℕ) → is_open lists t ≡ true → is_open lists' t ≡ true)
    → AreAsBefore j j' table table' lists lists' n
one-noted j j' table table' lists lists' n is locks opened listed still = record {
  journal = shape j j' is;
  subs = λ t ne. ap (λ (q : Journaled). finite.get q.subs t) is ∙ noted-other j.subs n None t ne;
  locks = locks;
  opened = opened;
  listed = listed;
  open_still = still;
}

pub ready-noted : (j j' : Journaled) (table table' : LockTable) (lists lists' : Lists LogRecord) (n : ℕ) → j' ≡ record j { subs = finite.insert j.subs n None } → table' ≡ record table { opened = set.insert table.opened n } → AreOpen lists' (put (is_open lists) n true) → IsOpenFor j' table' lists' n
ready-noted j j' table table' lists lists' n is opened are = record {
  sub = ap (λ (q : Journaled). finite.get q.subs n) is ∙ noted-same j.subs n None n refl;
  locks = open-same table table' n opened;
  log = are n ∙ put_same (is_open lists) n true n refl;
}
