-- What is noted of transactions: one comes, or one goes.
use Rattle.std.proofs.Common.{◌≡◌, ◌≢◌, ℕ, true, false, not, cond, Some, None, ap, ◌∙◌, ne_eqb, eq-eqb}
use Rattle.std.proofs.lemmas.Bool.{and_from}
use Rattle.std.specs.Ordering.{nat_cmp, eq_by_cmp}
use Rattle.std.specs.Cmp.{nat_cmp_total, unsigned_tied}
use Rattle.std.specs.FinMap as finite
use Rattle.std.specs.FinSet as set
use Rattle.ft_history.proofs.Words.{put_other}
use Rattle.ft_owned_lists.specs.OwnedLists.{Lists}
use Rattle.ft_history.specs.Logs.{put}
use Rattle.ft_undo.specs.declared.logs.LogRecord.{LogRecord}
use Rattle.ft_undo.specs.Logs.{is_open, AreOpen}
use Rattle.ft_lock_rules.specs.Locks.{LockTable, is_opened}

module _ {X : Type 0} (m : finite.FinMap nat_cmp X) (n : ℕ) where
  pub inserted-same : (v : X) (t : ℕ) → t ≡ n → finite.get (finite.insert m n v) t ≡ Some v
  inserted-same v t is = finite.get-insert nat_cmp_total m n v t ∙ ap (λ b. cond b (Some v) (finite.get m t)) (unsigned_tied t n ∙ eq-eqb t n is)

  pub inserted-other : (v : X) (t : ℕ) → t ≢ n → finite.get (finite.insert m n v) t ≡ finite.get m t
  inserted-other v t ne = finite.get-insert nat_cmp_total m n v t ∙ ap (λ b. cond b (Some v) (finite.get m t)) (unsigned_tied t n ∙ ne_eqb t n ne)

  pub removed-same : (t : ℕ) → t ≡ n → finite.get (finite.remove m n) t ≡ None
  removed-same t is = finite.get-remove nat_cmp_total m n t ∙ ap (λ b. cond b None (finite.get m t)) (unsigned_tied t n ∙ eq-eqb t n is)

  pub removed-other : (t : ℕ) → t ≢ n → finite.get (finite.remove m n) t ≡ finite.get m t
  removed-other t ne = finite.get-remove nat_cmp_total m n t ∙ ap (λ b. cond b None (finite.get m t)) (unsigned_tied t n ∙ ne_eqb t n ne)

-- another stays open
pub opened-other : (old new : LockTable) (n : ℕ) → new.opened ≡ set.remove old.opened n → (t : ℕ) → t ≢ n → is_opened old t ≡ true → is_opened new t ≡ true
opened-other old new n is t ne e =
    ap (λ s. set.contains s t) is ∙ set.contains-remove nat_cmp_total old.opened n t
    ∙ and_from (not (eq_by_cmp nat_cmp t n)) (is_opened old t) (ap not (unsigned_tied t n ∙ ne_eqb t n ne)) e

pub open-other : (old new : Lists LogRecord) (n : ℕ) → AreOpen new (put (is_open old) n false) → (t : ℕ) → t ≢ n → is_open old t ≡ true → is_open new t ≡ true
open-other old new n are t ne e = are t ∙ put_other (is_open old) n false t ne ∙ e
