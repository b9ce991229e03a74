-- What one look at a cell tells of those who are in the way there, and of the locks that are held
-- already.
use Rattle.std.proofs.Common.{◌≡◌, ◌<◌, ◌+◌, inl, inr, ℕ, Bool, true, false, not, ◌&&◌, ◌||◌, ◌==◌, List, [], ◌∷◌, take, length, get_or, Some, refl, sym, ap, subst, ◌∙◌, eq-eqb}
use Rattle.std.proofs.lemmas.Bool.{false≢true, and_parts, and_from, or_cases, or_left, or_right}
use Rattle.ft_laws.proofs.Tests.{by_test}
use Rattle.std.specs.List.{list_any}
use Rattle.std.proofs.lemmas.List.{take_more}
use Rattle.std.proofs.lemmas.List.Folds.{list_any-append}
use Rattle.std.specs.FinMap as finite
use Rattle.ft_owned_lists.specs.OwnedLists.{Lists}
use Rattle.ft_cells.specs.declared.cell.Cell.{Cell}
use Rattle.ft_cells.specs.CellOrder.{same_cell, overlap}
use Rattle.ft_posix.specs.declared.call.Mode.{Mode}
use Rattle.ft_posix.specs.declared.call.Mode.TheVariants.{Read as ReadMode, Write as WriteMode}
use Rattle.ft_posix.specs.declared.call.Access.{Access}
use Rattle.ft_posix.specs.Accesses.{is_write, conflict}
use Rattle.ft_forest.specs.Transactions.{Transactions, over_in}
use Rattle.ft_lock_rules.specs.declared.line.LockKind.{LockKind}
use Rattle.ft_lock_rules.specs.declared.line.LockKind.TheVariants.{Held, Retained}
use Rattle.ft_lock_rules.specs.declared.line.LockLine.{LockLine}
use Rattle.ft_lock_rules.specs.declared.lock_modes.LockModes.{LockModes}
use Rattle.ft_lock_rules.specs.LockModes.{has_mark, suffice_for}
use Rattle.ft_lock_rules.specs.Cells.{Cells, marks_at, released_owner}
use Rattle.ft_lock_rules.specs.Holdings.{has_place}
use Rattle.ft_lock_rules.specs.Locks.{LockTable, has_lock, line_access, is_held, is_released, is_accessed, same_mode, AreGiven, is_given}
use Rattle.ft_lock_rules.specs.Seen.{has_mark_of, has_line, table_of}
use Rattle.ft_lock_rules.specs.declared.rule.Rule.{Rule}
use Rattle.ft_lock_rules.specs.Rules.{is_strict}
use Rattle.ft_lock_rules.specs.Blocking.{Found, AreNoted, Counted, against, way, beside, blocks}
use Rattle.ft_lock_rules.specs.Surveys.{KeepOthersOut, KeepHoldersOut, HasItsCellsAlone, HasNoHolderAbove, HoldsAll}
use Rattle.ft_lock_rules.proofs.Joining.{itself}
use Rattle.ft_lock_rules.proofs.Tables.{mark_one, marked_by, mark_of_line, line, lines-seen, released_cells-seen}
use Rattle.ft_lock_rules.proofs.Granting.{line_there, given_more, in_either}
use Rattle.ft_lock_rules.proofs.Granted.{some_access}
use Rattle.ft_lock_rules.proofs.InTheWay.{blocks_in_way, conflicting}

none_of : (b : Bool) → (b && false) ≡ false
none_of true = refl
none_of false = refl

or_none : (b : Bool) → (b || false) ≡ b
or_none true = refl
or_none false = refl

-- a lock that covers an access, and writes where the access does
cover_one : (x : LockModes) (mode : Mode) → suffice_for x mode ≡ true → (m : Mode) × (kind : LockKind) × (has_mark x m kind ≡ true) × (is_write mode ≡ true → is_write m ≡ true)
cover_one x ReadMode e = let one = mark_one x e in (one.0, one.1, one.2, λ w. absurd (false≢true w))
cover_one x WriteMode e = by_two x.write_held x.write_retained refl refl e
  where
    by_two : (a b : Bool) → x.write_held ≡ a → x.write_retained ≡ b → (a || b) ≡ true → (m : Mode) × (kind : LockKind) × (has_mark x m kind ≡ true) × (true ≡ true → is_write m ≡ true)
    by_two true b p q e = (WriteMode, Held, p, λ w. refl)
    by_two false true p q e = (WriteMode, Retained, q, λ w. refl)
    by_two false false p q e = absurd (false≢true e)

-- A lock of the transaction's own covers the access, and by Moss's rule no ancestor of it holds
-- one that conflicts.
module _ (rule : Rule) (m : Cells) (forest : Transactions) (txn : ℕ) (apart : KeepOthersOut (has_line m) forest txn) (no_holder : is_strict rule ≡ true → KeepHoldersOut (has_line m) forest) (a : Access) (own : LockModes) (is : Some own ≡ marks_at m a.cell txn) (covers : suffice_for own a.mode ≡ true) where
  blocks_none : (u : ℕ) → blocks (against rule forest txn) m a u ≡ true → ⊥
  blocks_none u k =
      let theirs = conflicting rule forest txn m a u (blocks_in_way (against rule forest txn) m a u k) in
      let one = cover_one own a.mode covers in
      let mine : LockLine = line a.cell txn one.0 one.1 in
      let there : has_line m mine ≡ true = ap (λ o. has_mark_of o mine) (sym is) ∙ one.2 in
      let parts = and_parts (overlap theirs.0.cell a.cell) (is_write theirs.0.mode || is_write a.mode) theirs.3 in
      let writes : (is_write theirs.0.mode || is_write one.0) ≡ true = elim (or_cases (is_write theirs.0.mode) (is_write a.mode) parts.1) [
        | inl w ↦ or_left (is_write theirs.0.mode) (is_write one.0) w
        | inr w ↦ or_right (is_write theirs.0.mode) (is_write one.0) (one.3 w)
      ] in
      let conflicts : conflict (line_access theirs.0) (line_access mine) ≡ true = and_from (overlap theirs.0.cell a.cell) (is_write theirs.0.mode || is_write one.0) parts.0 writes in
      let over : over_in forest theirs.0.owner txn ≡ true = apart mine theirs.0 there refl theirs.1 conflicts in
      let above : (is_strict rule && is_held theirs.0.kind && not (theirs.0.owner == txn)) ≡ true = sym (ap (λ b. not b || (is_strict rule && is_held theirs.0.kind && not (theirs.0.owner == txn))) over) ∙ theirs.4 in
      let other = and_parts (is_strict rule && is_held theirs.0.kind) (not (theirs.0.owner == txn)) above in
      let holds = and_parts (is_strict rule) (is_held theirs.0.kind) other.0 in
      let same : theirs.0.owner ≡ txn = no_holder holds.0 mine theirs.0 there theirs.1 holds.1 conflicts over in
      false≢true (sym (ap not (eq-eqb theirs.0.owner txn same)) ∙ other.1)

  -- so nobody is noted
  pub none_noted : (found : Found) → AreNoted found found (blocks (against rule forest txn) m a)
  none_noted found u = sym (ap (λ b. finite.contains_key found u || b) (by_test (blocks (against rule forest txn) m a u) (λ k. absurd (blocks_none u k)) (λ k. k)) ∙ or_none (finite.contains_key found u))

-- those on the cell itself, and then those beside it
pub noted_both : (old mid new : Found) (counted : Counted) (m : Cells) (a : Access) → AreNoted old mid (way counted m a.cell a.mode) → AreNoted mid new (beside counted m a.cell a.mode) → AreNoted old new (blocks counted m a)
noted_both old mid new counted m a first second u =
    second u ∙ ap (λ b. b || beside counted m a.cell a.mode u) (first u) ∙ both (finite.contains_key old u) (way counted m a.cell a.mode u) (beside counted m a.cell a.mode u)
  where
    both : (c w b : Bool) → ((c || w) || b) ≡ (c || (w || b))
    both true w b = refl
    both false w b = refl

-- the lock of one access
pub holds_one : (m : Cells) (owner : ℕ) (a : Access) (own : LockModes) → Some own ≡ marks_at m a.cell owner → has_mark own a.mode Held ≡ true → HoldsAll m owner (a ∷ [])
holds_one m owner a own is has l given =
    line_there m owner a own is has l (sym (ap (λ b. is_held l.kind && (l.owner == owner) && b) (or_none (same_cell a.cell l.cell && same_mode a.mode l.mode))) ∙ given)

-- one more
pub holds_more : (m : Cells) (owner : ℕ) (xs : List Access) (i : ℕ) (a : Access) → i < length xs → a ≡ get_or xs i a → HoldsAll m owner (take i xs) → HoldsAll m owner (a ∷ []) → HoldsAll m owner (take (i + 1) xs)
holds_more m owner xs i a within is before one l given =
    in_either (is_given owner (take i xs) l) (is_held l.kind && (l.owner == owner) && (same_cell a.cell l.cell && same_mode a.mode l.mode)) (has_line m l)
    (sym (given_more xs i a within is owner l) ∙ given) (before l)
    (λ k. one l (ap (λ b. is_held l.kind && (l.owner == owner) && b) (or_none (same_cell a.cell l.cell && same_mode a.mode l.mode)) ∙ k))

pub holds_none : (m : Cells) (owner : ℕ) → HoldsAll m owner []
holds_none m owner l given = absurd (false≢true (sym (none (is_held l.kind) (l.owner == owner)) ∙ given))
  where
    none : (a b : Bool) → (a && b && false) ≡ false
    none true b = none_of b
    none false b = refl

-- To grant what is held already changes nothing.
pub held_granted : (t : LockTable) (m : Cells) (lists : Lists Cell) → table_of m lists ≡ t → (txn : ℕ) (xs : List Access) → HoldsAll m txn xs → AreGiven t t txn xs
held_granted t m lists is txn xs all = subst (λ u. AreGiven u u txn xs) is (record {
  lines = λ l. absorbs (has_lock (table_of m lists) l) (is_given txn xs l) (λ given. lines-seen m lists l ∙ all l given);
  released_cells = λ c. by_test (is_accessed xs c)
      (λ k.
      let mode = some_access xs c k in
      let mine : LockLine = line c txn mode.0 Held in
      let marked = marked_by m c txn (mark_of_line (marks_at m c txn) mine (all mine (λ i. itself txn i && mode.1 i))) in
      released_cells-seen m lists c ∙ ap (λ b. has_place m c released_owner && not b) marked ∙ none_of (has_place m c released_owner)
      ∙ sym (ap (λ b. is_released (table_of m lists) c && not b) k ∙ none_of (is_released (table_of m lists) c)))
      (λ k. sym (ap (λ b. is_released (table_of m lists) c && not b) k ∙ and_all (is_released (table_of m lists) c)));
  opened = refl;
})
  where
    absorbs : (a b : Bool) → (b ≡ true → a ≡ true) → a ≡ (a || b)
    absorbs true b there = refl
    absorbs false true there = there refl
    absorbs false false there = refl

    and_all : (b : Bool) → (b && true) ≡ b
    and_all true = refl
    and_all false = refl

-- What holds of a table's locks holds of what is found on its cells.
module _ (t : LockTable) (m : Cells) (lists : Lists Cell) (is : table_of m lists ≡ t) (forest : Transactions) where
  in_table : (l : LockLine) → has_line m l ≡ true → has_lock t l ≡ true
  in_table l e = sym (ap (λ x. has_lock x l) is) ∙ lines-seen m lists l ∙ e

  pub alone_there : (txn : ℕ) → HasItsCellsAlone t forest txn → KeepOthersOut (has_line m) forest txn
  alone_there txn alone own other mine owner there conflicts = alone own other (in_table own mine) owner (in_table other there) conflicts

  pub no_holder_there : HasNoHolderAbove t forest → KeepHoldersOut (has_line m) forest
  no_holder_there before own other mine there held conflicts over = before own other (in_table own mine) (in_table other there) held conflicts over

-- those in the way of one access more
pub noted_more : (old new : Found) (counted : Counted) (m : Cells) (xs : List Access) (i : ℕ) (a : Access) → i < length xs → a ≡ get_or xs i a
    → ((u : ℕ) → finite.contains_key old u ≡ list_any (λ x. blocks counted m x u) (take i xs)) → AreNoted old new (blocks counted m a)
    → (u : ℕ) → finite.contains_key new u ≡ list_any (λ x. blocks counted m x u) (take (i + 1) xs)
noted_more old new counted m xs i a within is before noted u =
    noted u ∙ ap (λ b. b || blocks counted m a u) (before u)
    ∙ ap (λ b. list_any (λ x. blocks counted m x u) (take i xs) || b) (sym (or_none (blocks counted m a u)))
    ∙ sym more
  where
    more : list_any (λ x. blocks counted m x u) (take (i + 1) xs) ≡ (list_any (λ x. blocks counted m x u) (take i xs) || (blocks counted m a u || false))
    more =
        ap (λ ys. list_any (λ x. blocks counted m x u) ys) (take_more xs i a within) ∙ list_any-append (λ (x : Access). blocks counted m x u) (take i xs) (get_or xs i a ∷ [])
        ∙ ap (λ (x : Access). list_any (λ y. blocks counted m y u) (take i xs) || (blocks counted m x u || false)) (sym is)
