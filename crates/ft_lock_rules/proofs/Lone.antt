-- One owner on a cell, and nobody.
use Rattle.std.proofs.Common.{◌≡◌, ℕ, Bool, true, false, cond, ◌==◌, Option, Some, None, is_some, IsSome, unwrap_or, refl, sym, ap, ◌∙◌}
use Rattle.std.proofs.lemmas.Bool.{false≢true, eq-eqb, eqb-true}
use Rattle.std.specs.Bool.{then_some}
use Rattle.std.specs.Ordering.{nat_cmp, eq_by_cmp}
use Rattle.std.specs.Cmp.{nat_cmp_total, nat_eq_equiv, unsigned_tied}
use Rattle.std.specs.FinMap as finite
use Rattle.ft_lock_rules.specs.declared.lock_modes.LockModes.{LockModes}
use Rattle.ft_lock_rules.specs.declared.cell_locks.OwnerLocks.{OwnerLocks}
use Rattle.ft_lock_rules.specs.LockModes.{no_marks, with_marks, is_marked, is_marked_of}
use Rattle.ft_lock_rules.specs.CellLocks.{Owners, alone, marked, handed}
use Rattle.ft_lock_rules.proofs.HolderLists.{same_owners, remove_none}
use Rattle.ft_lock_rules.proofs.Paired.{tie, no_tie, tied}

pub nobody : (m : Owners) → finite.empty ≡ m → (u : ℕ) → finite.get m u ≡ None
nobody m is u = ap (λ (n : Owners). finite.get n u) (sym is) ∙ finite.get-empty nat_cmp u

-- what an owner has beside one
pub got_alone : (h : OwnerLocks) (q : ℕ) → finite.get (alone h) q ≡ cond (eq_by_cmp nat_cmp q h.owner) (Some h.marks) None
got_alone h q = finite.get-insert nat_cmp_total finite.empty h.owner h.marks q ∙ ap (cond (eq_by_cmp nat_cmp q h.owner) (Some h.marks)) (finite.get-empty nat_cmp q)

pub alone_own : (h : OwnerLocks) (q : ℕ) → q ≡ h.owner → finite.get (alone h) q ≡ Some h.marks
alone_own h q is = got_alone h q ∙ ap (λ b. cond b (Some h.marks) None) (tie q h.owner is)

pub alone_other : (h : OwnerLocks) (q : ℕ) → (q ≡ h.owner → ⊥) → finite.get (alone h) q ≡ None
alone_other h q apart = got_alone h q ∙ ap (λ b. cond b (Some h.marks) None) (no_tie q h.owner apart)

pub alone_insert : (u : ℕ) (x y : LockModes) → finite.insert (alone (record { owner = u; marks = x })) u y ≡ alone (record { owner = u; marks = y })
alone_insert u x y = same_owners _ _ (λ q.
    finite.get-insert nat_cmp_total (alone (record { owner = u; marks = x })) u y q
    ∙ ap (cond (eq_by_cmp nat_cmp q u) (Some y)) (got_alone (record { owner = u; marks = x }) q)
    ∙ twice (eq_by_cmp nat_cmp q u) ∙ sym (got_alone (record { owner = u; marks = y }) q))
  where
    twice : (b : Bool) → cond b (Some y) (cond b (Some x) None) ≡ cond b (Some y) None
    twice true = refl
    twice false = refl

pub alone_removed : (h : OwnerLocks) → finite.remove (alone h) h.owner ≡ finite.empty
alone_removed h = same_owners _ _ (λ q.
    finite.get-remove nat_cmp_total (alone h) h.owner q ∙ ap (cond (eq_by_cmp nat_cmp q h.owner) None) (got_alone h q)
    ∙ none (eq_by_cmp nat_cmp q h.owner) ∙ sym (finite.get-empty nat_cmp q))
  where
    none : (b : Bool) → cond b None (cond b (Some h.marks) None) ≡ None
    none true = refl
    none false = refl

module _ (m : Owners) (h : OwnerLocks) (is : alone h ≡ m) where
  own : (q : ℕ) → q ≡ h.owner → finite.get m q ≡ Some h.marks
  own q same = ap (λ (n : Owners). finite.get n q) (sym is) ∙ alone_own h q same

  another : (q : ℕ) → (q ≡ h.owner → ⊥) → finite.get m q ≡ None
  another q apart = ap (λ (n : Owners). finite.get n q) (sym is) ∙ alone_other h q apart

  by_owner : {P : Type 0} (q : ℕ) → (q ≡ h.owner → P) → ((q ≡ h.owner → ⊥) → P) → P
  by_owner {P} q same other = by_test (eq_by_cmp nat_cmp q h.owner) refl
    where
      by_test : (b : Bool) → eq_by_cmp nat_cmp q h.owner ≡ b → P
      by_test true e = same (tied q h.owner e)
      by_test false e = other (λ is. false≢true (sym e ∙ tie q h.owner is))

  pub lone_get : (q : ℕ) → then_some (h.owner == q) h.marks ≡ finite.get m q
  lone_get q =
      then_some_is (h.owner == q) ∙ ap (λ b. cond b (Some h.marks) None) (sym (unsigned_tied q h.owner ∙ nat_eq_equiv.symm q h.owner))
      ∙ sym (got_alone h q) ∙ ap (λ (n : Owners). finite.get n q) is
    where
      then_some_is : (b : Bool) → then_some b h.marks ≡ cond b (Some h.marks) None
      then_some_is true = refl
      then_some_is false = refl

  pub lone_apart : (q : ℕ) → finite.get m q ≡ None → q ≡ h.owner → ⊥
  lone_apart q none same = false≢true (ap is_some (sym none ∙ own q same))

  -- who has a place is the one
  pub lone_own : (q : ℕ) → IsSome (finite.get m q) → q ≡ h.owner
  lone_own q some = by_owner q (λ same. same) (λ apart. absurd (false≢true (sym (ap is_some (another q apart)) ∙ some)))

  pub lone_heir : (from to : ℕ) → IsSome (finite.get m from) → (from ≡ to → ⊥) → false ≡ finite.contains_key m to
  lone_heir from to some apart = sym (ap is_some (another to (λ same. apart (lone_own from some ∙ sym same))))

  pub lone_handed : (from to : ℕ) (marks : LockModes) → IsSome (finite.get m from) → (from ≡ to → ⊥) → alone (record { owner = to; marks = marks }) ≡ handed m from to marks
  lone_handed from to marks some apart =
      let from_is = lone_own from some in
      let none = another to (λ same. apart (from_is ∙ sym same)) in
      ap (λ (n : Owners). finite.insert n to marks) (sym (alone_removed h) ∙ ap (finite.remove (alone h)) (sym from_is) ∙ ap (λ (n : Owners). finite.remove n from) is)
      ∙ sym (ap (λ (o : Option LockModes). finite.insert (finite.remove m from) to (with_marks (unwrap_or o no_marks) marks)) none)

  pub lone_marked : (q : ℕ) (marks : LockModes) → h.owner ≡ q → alone (record { owner = h.owner; marks = with_marks h.marks marks }) ≡ marked m q marks
  lone_marked q marks e =
      let same : q ≡ h.owner = sym e in
      sym (alone_insert h.owner h.marks (with_marks h.marks marks))
      ∙ ap (λ (n : Owners). finite.insert n h.owner (with_marks h.marks marks)) is
      ∙ ap (λ u. finite.insert m u (with_marks h.marks marks)) (sym same)
      ∙ sym (ap (λ o. by_own o) (own q same))
    where
      by_own : Option LockModes → Owners
      by_own None = m
      by_own (Some x) = finite.insert m q (with_marks x marks)

  pub lone_unmarked : (q : ℕ) (marks : LockModes) → (h.owner ≡ q → ⊥) → m ≡ marked m q marks
  lone_unmarked q marks e = sym (ap (λ o. by_own o) (another q (λ same. e (sym same))))
    where
      by_own : Option LockModes → Owners
      by_own None = m
      by_own (Some x) = finite.insert m q (with_marks x marks)

  pub lone_removed : (q : ℕ) → h.owner ≡ q → finite.empty ≡ finite.remove m q
  lone_removed q e = sym (alone_removed h) ∙ ap (λ (n : Owners). finite.remove n h.owner) is ∙ ap (finite.remove m) e

  pub lone_kept : (q : ℕ) → (h.owner ≡ q → ⊥) → alone h ≡ finite.remove m q
  lone_kept q e = is ∙ sym (remove_none m q (another q (λ same. e (sym same))))

  pub lone_last : (q : ℕ) → (h.owner == q) ≡ true → (u : ℕ) → finite.get (finite.remove m q) u ≡ None
  lone_last q e = nobody (finite.remove m q) (lone_removed q (eqb-true h.owner q e))

  pub lone_more : (q : ℕ) → (h.owner == q) ≡ false → (u : ℕ) × IsSome (finite.get (finite.remove m q) u)
  lone_more q e = (h.owner, ap is_some (ap (λ (n : Owners). finite.get n h.owner) (sym (lone_kept q (λ same. false≢true (sym e ∙ eq-eqb h.owner q same)))) ∙ alone_own h h.owner refl))

  pub lone_locked : is_marked h.marks ≡ true → (owner : ℕ) × (is_marked_of (finite.get m owner) ≡ true)
  lone_locked e = (h.owner, ap is_marked_of (own h.owner refl) ∙ e)

  pub lone_unlocked : is_marked h.marks ≡ false → (owner : ℕ) → is_marked_of (finite.get m owner) ≡ false
  lone_unlocked e owner = by_owner owner (λ same. ap is_marked_of (own owner same) ∙ e) (λ apart. ap is_marked_of (another owner apart))
