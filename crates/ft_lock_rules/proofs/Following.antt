-- The lock table follows the locks of the history.
use Rattle.std.proofs.Common.{◌≡◌, ℕ, Bool, true, false, cond, not, ◌&&◌, ◌||◌, ◌==◌, List, [], ◌∷◌, inl, inr, Option, Some, map, refl, sym, ap, subst, ◌∙◌}
use Rattle.std.proofs.lemmas.Bool.{false≢true, and_parts, and_from, or_cases, or_left, or_right, eqb-true}
use Rattle.std.specs.List.{list_any}
use Rattle.std.specs.FinSet as set
use Rattle.std.specs.Cmp.{nat_eq_equiv, eq_by_cmp_equiv}
use Rattle.ft_laws.specs.Lists.{In, any}
use Rattle.ft_laws.specs.Calls.{Done}
use Rattle.ft_laws.specs.Laws.{Lawful}
use Rattle.ft_laws.specs.Effects.{Access as PlaceAccess, conflict as places_conflict}
use Rattle.ft_laws.proofs.Tests.{by_test}
use Rattle.ft_history.specs.Forest.{is_some_and, above}
use Rattle.ft_history.specs.History.{over, is_child, owner_of, grants}
use Rattle.ft_history.specs.History.Event.{Begin, Call, Undo, Commit, Abort}
use Rattle.ft_history.specs.Locks.{holds_lock, retains_lock, owns_lock, blockers_of, moss_blockers_of, LocksAfter}
use Rattle.ft_history.specs.Promises.{AreBlockers as AreBlockersOf}
use Rattle.ft_history.proofs.Words.{rising_one, none_some}
use Rattle.ft_history.proofs.Owning.{any_one, one_any, owned_by, owned, owning, owns_one}
use Rattle.ft_history.proofs.History.{laws}
use Rattle.ft_history.proofs.Legal.{sound_all}
use Rattle.ft_history.proofs.Promises.{live_owners}
use Rattle.ft_history.proofs.Locks as theory
use Rattle.ft_history.proofs.Sharing.{sharing, conflict_back}
use Rattle.ft_cells.specs.declared.cell.Cell.{Cell}
use Rattle.ft_cells.specs.declared.cell.Cell.TheVariants.{Entry, Names, Parent, Links, Bytes, Fd, DirAttributes, FileAttributes}
use Rattle.ft_cells.specs.CellOrder.{cell_cmp_total, same_cell, same_cell-is}
use Rattle.ft_posix.specs.declared.call.Mode.{Mode}
use Rattle.ft_posix.specs.declared.call.Mode.TheVariants.{Read as ReadMode, Write as WriteMode}
use Rattle.ft_posix.specs.declared.call.Access.{Access}
use Rattle.ft_posix.specs.Accesses.{is_write, conflict}
use Rattle.ft_posix.specs.Posix.{as_place, covers, file_of, posix, posix_calls}
use Rattle.ft_forest.specs.Transactions.{over_in}
use Rattle.ft_lock_rules.specs.declared.line.LockKind.{LockKind}
use Rattle.ft_lock_rules.specs.declared.line.LockKind.TheVariants.{Held, Retained}
use Rattle.ft_lock_rules.specs.declared.line.LockLine.{LockLine}
use Rattle.ft_lock_rules.specs.Locks.{LockTable, is_locked, line_cmp, has_lock, is_held, same_mode, has_access, line_access, IsInTheWay}
use Rattle.ft_lock_rules.proofs.Tables.{cell_locked}
use Rattle.ft_lock_rules.specs.Law.{History, is_mode, is_of, is_lock, AreLocksOf, FirstLaw, OwnerLaw, BeginLaw, GrantLaw, UndoLaw, CommitLaw, AbortLaw, ReleaseLaw, blockers_by, BlockLaw, ForeignLaw, AloneLaw, CoverLaw}
use Rattle.ft_lock_rules.specs.declared.rule.Rule.{Rule}
use Rattle.ft_lock_rules.specs.declared.rule.Rule.TheVariants.{Profile, Moss}

-- What is of a cell in a mode.

mode_is : (m n : Mode) → same_mode m n ≡ is_mode n (is_write m)
mode_is ReadMode ReadMode = refl
mode_is ReadMode WriteMode = refl
mode_is WriteMode ReadMode = refl
mode_is WriteMode WriteMode = refl

accessed_is : (l : LockLine) (xs : List Access) → has_access xs l.cell l.mode ≡ is_of l (map as_place xs)
accessed_is l [] = refl
accessed_is l (a ∷ xs) = λ i. (same_cell a.cell l.cell && mode_is a.mode l.mode i) || accessed_is l xs i

-- Tests of one line after an event.

grant_bools : (k held kept e own a was : Bool) → e ≡ own → a ≡ was → (cond k held kept || (k && e && a)) ≡ cond k (held || (own && was)) kept
grant_bools true held kept e own a was p q = λ i. held || (p i && q i)
grant_bools false held kept e own a was p q = or_none kept
  where
    or_none : (b : Bool) → (b || false) ≡ b
    or_none true = refl
    or_none false = refl

up_bools : (k t held kept e up owns all : Bool) → e ≡ up → owns ≡ all → (not t && (cond k held kept || (e && not k && owns))) ≡ cond k (not t && held) (not t && (kept || (up && all)))
up_bools true t held kept e up owns all p q = ap (λ b. not t && b) (none held e owns)
  where
    none : (b c d : Bool) → (b || (c && false && d)) ≡ b
    none true c d = refl
    none false true d = refl
    none false false d = refl
up_bools false t held kept e up owns all p q = λ i. not t && (kept || ((and_true e ∙ p) i && q i))
  where
    and_true : (b : Bool) → (b && true) ≡ b
    and_true true = refl
    and_true false = refl

top_bools : (k t held kept all : Bool) → (not t && cond k held kept) ≡ cond k (not t && held) (not t && (kept || (false && all)))
top_bools true t held kept all = refl
top_bools false t held kept all = ap (λ b. not t && b) (none kept)
  where
    none : (b : Bool) → b ≡ (b || false)
    none true = refl
    none false = refl

dropped : (o g b : Bool) → (b ≡ true → g ≡ o) → (not g && b) ≡ (not o && b)
dropped o g true there = ap (λ x. not x && true) (there refl)
dropped o g false there = none (not g) ∙ sym (none (not o))
  where
    none : (b : Bool) → (b && false) ≡ false
    none true = refl
    none false = refl

drop_bools : (k o g held kept : Bool) → (cond k held kept ≡ true → g ≡ o) → (not g && cond k held kept) ≡ cond k (not o && held) (not o && kept)
drop_bools true o g held kept there = dropped o g held there
drop_bools false o g held kept there = dropped o g kept there

-- At first, and one release after another.

pub first_law : FirstLaw
first_law l = set.contains-empty line_cmp l ∙ none (is_held l.kind)
  where
    none : (k : Bool) → false ≡ cond k false false
    none true = refl
    none false = refl

pub release_law : ReleaseLaw
release_law old mid new gone txn dropped released l = released.freed.lines l ∙ ap (λ b. not (l.owner == txn) && b) (dropped l) ∙ nested (l.owner == txn) (gone l.owner) (has_lock old l)
  where
    nested : (a b c : Bool) → (not a && (not b && c)) ≡ (not (a || b) && c)
    nested true b c = refl
    nested false b c = refl

-- A lock, and the granted call that it is of.

abbrev mode_of : Bool → Mode
mode_of true = WriteMode
mode_of false = ReadMode

mode_again : (b : Bool) → is_write (mode_of b) ≡ b
mode_again true = refl
mode_again false = refl

is_mode_of : (b : Bool) → is_mode (mode_of b) b ≡ true
is_mode_of true = refl
is_mode_of false = refl

mode_writes : (m : Mode) (b : Bool) → is_mode m b ≡ true → is_write m ≡ b
mode_writes ReadMode true e = absurd (false≢true e)
mode_writes ReadMode false e = refl
mode_writes WriteMode true e = refl
mode_writes WriteMode false e = absurd (false≢true e)

same_itself : (c : Cell) → same_cell c c ≡ true
same_itself = (eq_by_cmp_equiv cell_cmp_total).refl

-- the line of an access
abbrev access_line : PlaceAccess Cell → ℕ → LockKind → LockLine
access_line a y kind = record { cell = a.place; owner = y; mode = mode_of a.writes; kind = kind }

of_its_line : (a : PlaceAccess Cell) (y : ℕ) (kind : LockKind) (xs : List (PlaceAccess Cell)) → In a xs → is_of (access_line a y kind) xs ≡ true
of_its_line a y kind xs i = one_any (λ b. same_cell b.place a.place && is_mode (mode_of a.writes) b.writes) a xs i (λ j. same_itself a.place j && is_mode_of a.writes j)

-- what an owned call accesses is a lock of its owner
lock_of : (h : History) (c : Done posix_calls) (y : ℕ) (a : PlaceAccess Cell) → In c (grants posix_calls h) → owner_of posix_calls h c.asker ≡ Some y → In a c.accesses
    → (kind : LockKind) × (is_lock h (access_line a y kind) ≡ true)
lock_of h c y a granted owner i = by_test (c.asker == y)
    (λ k. (Held, owning posix_calls h y (λ u. u == y) (is_of (access_line a y Held)) (record { call = c; granted = granted; owner = owner; asker = k; passes = of_its_line a y Held c.accesses i })))
    (λ k. (Retained, owning posix_calls h y (λ u. not (u == y)) (is_of (access_line a y Retained)) (record { call = c; granted = granted; owner = owner; asker = ap not k; passes = of_its_line a y Retained c.accesses i })))

-- A line's conflict is one of its access.
conflicts_are : (a : PlaceAccess Cell) (l : LockLine) (xs : List Access) → l.cell ≡ a.place → is_write l.mode ≡ a.writes → list_any (λ x. conflict (line_access l) x) xs ≡ any (places_conflict posix a) (map as_place xs)
conflicts_are a l [] cell mode = refl
conflicts_are a l (x ∷ xs) cell mode = λ i. places_conflict posix (record { place = cell i; writes = mode i }) (as_place x) || conflicts_are a l xs cell mode i

module _ (h : History) (t : LockTable) (locks : AreLocksOf h t) (asked : List Access) (y : ℕ) where
  abbrev in_way : List (PlaceAccess Cell) → Bool
  in_way f = posix_calls.conflict f (map as_place asked)

  -- what a call of this kind of asker accesses is a lock of its owner
  table_line : (kind : LockKind) (of : ℕ → Bool) → ((test : List (PlaceAccess Cell) → Bool) → owned_by posix_calls h y of test ≡ cond (is_held kind) (holds_lock posix_calls h y test) (retains_lock posix_calls h y test))
      → owned_by posix_calls h y of in_way ≡ true → (l : LockLine) × (has_lock t l ≡ true) × (l.owner ≡ y) × (list_any (λ a. conflict (line_access l) a) asked ≡ true) × (l.kind ≡ kind)
  table_line kind of is owns =
      let o = owned posix_calls h y of in_way owns in
      let one = any_one (λ a. any (places_conflict posix a) (map as_place asked)) o.call.accesses o.passes in
      let l : LockLine = access_line one.0 y kind in (
        l,
        locks l
            ∙ sym (is (is_of l))
            ∙ owning posix_calls h y of (is_of l) (record { call = o.call; granted = o.granted; owner = o.owner; asker = o.asker; passes = of_its_line one.0 y kind o.call.accesses one.1 }),
        refl,
        conflicts_are one.0 l asked refl (mode_again one.0.writes) ∙ one.2,
        refl,
      )

  held_line : holds_lock posix_calls h y in_way ≡ true → (l : LockLine) × (has_lock t l ≡ true) × (l.owner ≡ y) × (list_any (λ a. conflict (line_access l) a) asked ≡ true) × (l.kind ≡ Held)
  held_line = table_line Held (λ u. u == y) (λ test. refl)

  kept_line : retains_lock posix_calls h y in_way ≡ true → (l : LockLine) × (has_lock t l ≡ true) × (l.owner ≡ y) × (list_any (λ a. conflict (line_access l) a) asked ≡ true) × (l.kind ≡ Retained)
  kept_line = table_line Retained (λ u. not (u == y)) (λ test. refl)

  -- a lock of the table is one of an owned call
  lock_owned : (l : LockLine) → is_lock h l ≡ true → owns_lock posix_calls h l.owner (is_of l) ≡ true
  lock_owned l lock = by_kind (is_held l.kind) (holds_lock posix_calls h l.owner (is_of l)) (retains_lock posix_calls h l.owner (is_of l)) lock
    where
      by_kind : (k held kept : Bool) → cond k held kept ≡ true → (held || kept) ≡ true
      by_kind true held kept e = or_left held kept e
      by_kind false held kept e = or_right held kept e

  -- the call that a line's lock is of conflicts, where the line does
  history_line : (of : ℕ → Bool) (l : LockLine) → l.owner ≡ y → list_any (λ a. conflict (line_access l) a) asked ≡ true → owned_by posix_calls h y of (is_of l) ≡ true → owned_by posix_calls h y of in_way ≡ true
  history_line of l owner conflicts lock =
      let o = owned posix_calls h y of (is_of l) lock in
      let one = any_one (λ a. same_cell a.place l.cell && is_mode l.mode a.writes) o.call.accesses o.passes in
      let a : PlaceAccess Cell = one.0 in
      let same = and_parts (same_cell a.place l.cell) (is_mode l.mode a.writes) one.2 in
      let way = sym (conflicts_are a l asked (sym (same_cell-is a.place l.cell same.0)) (mode_writes l.mode a.writes same.1)) ∙ conflicts in
      owning posix_calls h y of in_way (record {
        call = o.call;
        granted = o.granted;
        owner = o.owner;
        asker = o.asker;
        passes = one_any (λ b. any (places_conflict posix b) (map as_place asked)) a o.call.accesses one.1 way;
      })

  -- by the kind of its line, y holds or retains a lock that conflicts
  in_history : (l : LockLine) → has_lock t l ≡ true → l.owner ≡ y → list_any (λ a. conflict (line_access l) a) asked ≡ true → cond (is_held l.kind) (holds_lock posix_calls h y in_way) (retains_lock posix_calls h y in_way) ≡ true
  in_history l there owner conflicts = by_kind l.kind (λ j. cond (is_held l.kind) (holds_lock posix_calls h (owner j) (is_of l)) (retains_lock posix_calls h (owner j) (is_of l))) (sym (locks l) ∙ there)
    where
      by_kind : (kind : LockKind) → cond (is_held kind) (holds_lock posix_calls h l.owner (is_of l)) (retains_lock posix_calls h l.owner (is_of l)) ≡ cond (is_held kind) (holds_lock posix_calls h y (is_of l)) (retains_lock posix_calls h y (is_of l))
          → cond (is_held kind) (holds_lock posix_calls h l.owner (is_of l)) (retains_lock posix_calls h l.owner (is_of l)) ≡ true → cond (is_held kind) (holds_lock posix_calls h y in_way) (retains_lock posix_calls h y in_way) ≡ true
      by_kind Held is e = history_line (λ u. u == y) l owner conflicts (sym is ∙ e)
      by_kind Retained is e = history_line (λ u. not (u == y)) l owner conflicts (sym is ∙ e)

module _ (L : Lawful posix_calls) where
  pub owner_law : OwnerLaw
  owner_law base sound h t locks legal l there =
      (live_owners posix_calls L base sound h legal).live l.owner (is_of l) (lock_owned h t locks [] l.owner l (sym (locks l) ∙ there))

  pub begin_law : BeginLaw
  begin_law base sound h t locks n up legal l =
      let rule : LocksAfter posix_calls (Begin n up) h = theory.lock_rules posix_calls L base sound h (Begin n up) legal in
      locks l ∙ sym (λ i. cond (is_held l.kind) (rule.held l.owner (is_of l) i) (rule.retained l.owner (is_of l) i))

  pub grant_law : GrantLaw
  grant_law base sound h t locks c accesses new legal are granted l =
      let rule : LocksAfter posix_calls (Call c) h = theory.lock_rules posix_calls L base sound h (Call c) legal in
      granted.given.lines l ∙ ap (λ b. b || (is_held l.kind && (l.owner == c.asker) && has_access accesses l.cell l.mode)) (locks l)
      ∙ grant_bools (is_held l.kind) (holds_lock posix_calls h l.owner (is_of l)) (retains_lock posix_calls h l.owner (is_of l))
      (l.owner == c.asker) (c.asker == l.owner) (has_access accesses l.cell l.mode) (is_of l c.accesses) (nat_eq_equiv.symm l.owner c.asker) (accessed_is l accesses ∙ ap (is_of l) (sym are))
      ∙ sym (λ i. cond (is_held l.kind) (rule.held l.owner (is_of l) i) (rule.retained l.owner (is_of l) i))

  pub undo_law : UndoLaw
  undo_law base sound h t locks k legal l =
      let rule : LocksAfter posix_calls (Undo k) h = theory.lock_rules posix_calls L base sound h (Undo k) legal in
      locks l ∙ sym (λ i. cond (is_held l.kind) (rule.held l.owner (is_of l) i) (rule.retained l.owner (is_of l) i))

  pub commit_law : CommitLaw
  commit_law = record {
    under = λ base sound h t locks txn up new legal is inherited l.
        let rule : LocksAfter posix_calls (Commit txn) h = theory.lock_rules posix_calls L base sound h (Commit txn) legal in
        let owns = owns_lock posix_calls h txn (is_of l) in
        inherited.lines l
        ∙ (λ i. not (l.owner == txn) && (locks l i || ((l.owner == up) && not (is_held l.kind) && (locks (record l { owner = txn; kind = Held }) i || locks (record l { owner = txn; kind = Retained }) i))))
        ∙ up_bools (is_held l.kind) (l.owner == txn) (holds_lock posix_calls h l.owner (is_of l)) (retains_lock posix_calls h l.owner (is_of l))
        (l.owner == up) (is_child posix_calls h l.owner txn) owns owns (nat_eq_equiv.symm l.owner up ∙ sym (ap (λ o. is_some_and o (λ p. p == l.owner)) is)) refl
        ∙ sym (λ i. cond (is_held l.kind) (rule.held l.owner (is_of l) i) (rule.retained l.owner (is_of l) i));
    top = λ base sound h t locks txn new legal is released l.
        let rule : LocksAfter posix_calls (Commit txn) h = theory.lock_rules posix_calls L base sound h (Commit txn) legal in
        released.freed.lines l ∙ ap (λ b. not (l.owner == txn) && b) (locks l)
        ∙ top_bools (is_held l.kind) (l.owner == txn) (holds_lock posix_calls h l.owner (is_of l)) (retains_lock posix_calls h l.owner (is_of l)) (owns_lock posix_calls h txn (is_of l))
        ∙ sym (λ i. cond (is_held l.kind) (not (l.owner == txn) && holds_lock posix_calls h l.owner (is_of l))
        (not (l.owner == txn) && (retains_lock posix_calls h l.owner (is_of l) || (is_some_and (is i) (λ p. p == l.owner) && owns_lock posix_calls h txn (is_of l)))))
        ∙ sym (λ i. cond (is_held l.kind) (rule.held l.owner (is_of l) i) (rule.retained l.owner (is_of l) i));
  }

  pub abort_law : AbortLaw
  abort_law base sound h t locks txn gone new legal live dropped l =
      let rule : LocksAfter posix_calls (Abort txn) h = theory.lock_rules posix_calls L base sound h (Abort txn) legal in
      dropped l ∙ ap (λ b. not (gone l.owner) && b) (locks l)
      ∙ drop_bools (is_held l.kind) (over posix_calls h txn l.owner) (gone l.owner) (holds_lock posix_calls h l.owner (is_of l)) (retains_lock posix_calls h l.owner (is_of l))
      (λ lock. live l.owner (owner_law base sound h t locks legal.1 l (locks l ∙ lock)))
      ∙ sym (λ i. cond (is_held l.kind) (rule.held l.owner (is_of l) i) (rule.retained l.owner (is_of l) i))

  pub block_law : BlockLaw
  block_law base sound h t locks legal forest parents rule txn asked ys are =
      by_rule rule (λ y i. are.sound y i) (λ y i. are.all y i)
    where
      f : List (PlaceAccess Cell)
      f = map as_place asked

      way : List (PlaceAccess Cell) → Bool
      way g = posix_calls.conflict g f

      over_is : (y : ℕ) → over_in forest y txn ≡ over posix_calls h y txn
      over_is y i = above (λ x. parents x i) y txn

      theirs : AreBlockersOf posix_calls h txn f
      theirs = theory.blockers posix_calls L base sound h legal txn f

      by_rule : (r : Rule) → ((y : ℕ) → In y ys → IsInTheWay r t forest txn asked y) → ((y : ℕ) → IsInTheWay r t forest txn asked y → In y ys) → ys ≡ blockers_by r h txn f
      by_rule Profile each all = rising_one ys (blockers_of posix_calls h txn f) are.rising theirs.own.rising
          (λ y i.
          let w = each y i in
          (theirs.own.exact y).1 (and_from (owns_lock posix_calls h y way) (not (over posix_calls h y txn))
          (either_kind (is_held w.line.kind) (holds_lock posix_calls h y way) (retains_lock posix_calls h y way) (in_history h t locks asked y w.line w.there w.owner w.conflicts))
          (ap not (sym (over_is y) ∙ ap (λ u. over_in forest u txn) (sym w.owner)) ∙ foreign_only (not (over_in forest w.line.owner txn)) w.counted)))
          (λ y i.
          let both = and_parts (owns_lock posix_calls h y way) (not (over posix_calls h y txn)) ((theirs.own.exact y).0 i) in
          elim (or_cases (holds_lock posix_calls h y way) (retains_lock posix_calls h y way) both.0) [
            | inl m ↦ let l = held_line h t locks asked y m in all y (record { line = l.0; there = l.1; owner = l.2; conflicts = l.3; counted = or_left (not (over_in forest l.0.owner txn)) false (ap not (ap (λ u. over_in forest u txn) l.2 ∙ over_is y) ∙ both.1) })
            | inr m ↦ let l = kept_line h t locks asked y m in all y (record { line = l.0; there = l.1; owner = l.2; conflicts = l.3; counted = or_left (not (over_in forest l.0.owner txn)) false (ap not (ap (λ u. over_in forest u txn) l.2 ∙ over_is y) ∙ both.1) })
          ])
        where
          either_kind : (k a b : Bool) → cond k a b ≡ true → (a || b) ≡ true
          either_kind true a b e = or_left a b e
          either_kind false a b e = or_right a b e

          foreign_only : (b : Bool) → (b || false) ≡ true → b ≡ true
          foreign_only true e = refl
          foreign_only false e = absurd (false≢true e)
      by_rule Moss each all = rising_one ys (moss_blockers_of posix_calls h txn f) are.rising theirs.moss.rising
          (λ y i.
          let w = each y i in
          (theirs.moss.exact y).1 (by_kind (is_held w.line.kind) (holds_lock posix_calls h y way) (retains_lock posix_calls h y way) (over posix_calls h y txn) (y == txn)
          (λ e. ap not (ap (λ u. over posix_calls h u txn) (eqb-true y txn e) ∙ itself txn))
          (in_history h t locks asked y w.line w.there w.owner w.conflicts)
          ((λ j. not (((sym (over_is y)) ∙ ap (λ u. over_in forest u txn) (sym w.owner)) j) || (true && is_held w.line.kind && not (sym w.owner j == txn))) ∙ w.counted)))
          (λ y i. elim (or_cases (holds_lock posix_calls h y way && not (y == txn)) (retains_lock posix_calls h y way && not (over posix_calls h y txn)) ((theirs.moss.exact y).0 i)) [
            | inl m ↦
                let both = and_parts (holds_lock posix_calls h y way) (not (y == txn)) m in
                let l = held_line h t locks asked y both.0 in
                all y (record { line = l.0; there = l.1; owner = l.2; conflicts = l.3; counted = or_right (not (over_in forest l.0.owner txn)) (true && is_held l.0.kind && not (l.0.owner == txn)) ((λ j. is_held (l.4 j) && not (l.2 j == txn)) ∙ both.1) })
            | inr m ↦
                let both = and_parts (retains_lock posix_calls h y way) (not (over posix_calls h y txn)) m in
                let l = kept_line h t locks asked y both.0 in
                all y (record { line = l.0; there = l.1; owner = l.2; conflicts = l.3; counted = or_left (not (over_in forest l.0.owner txn)) (true && is_held l.0.kind && not (l.0.owner == txn)) (ap not (ap (λ u. over_in forest u txn) l.2 ∙ over_is y) ∙ both.1) })
          ])
        where
          itself : (x : ℕ) → over posix_calls h x x ≡ true
          itself = (laws posix_calls L base h (sound_all posix_calls L base sound h legal)).itself

          by_kind : (k held kept o e : Bool) → (e ≡ true → not o ≡ false) → cond k held kept ≡ true → (not o || (k && not e)) ≡ true → ((held && not e) || (kept && not o)) ≡ true
          by_kind true true kept true false own owns counted = refl
          by_kind true true kept false false own owns counted = refl
          by_kind true true kept true true own owns counted = absurd (false≢true counted)
          by_kind true true kept false true own owns counted = absurd (false≢true (sym (own refl)))
          by_kind true false kept o e own owns counted = absurd (false≢true owns)
          by_kind false held true true e own owns counted = absurd (false≢true counted)
          by_kind false held true false e own owns counted = or_right (held && not e) true refl
          by_kind false held false o e own owns counted = absurd (false≢true owns)

  pub foreign_law : ForeignLaw
  foreign_law base sound h legal Profile txn f none = none
  foreign_law base sound h legal Moss txn f none = (theory.blockers posix_calls L base sound h legal txn f).stricter none

  pub alone_law : AloneLaw
  alone_law base sound h t locks legal forest parents txn none own other mine owner there conflicts =
      ap (λ (up : ℕ → Option ℕ). above up other.owner txn) (λ i x. parents x i)
      ∙ (sharing posix_calls L base sound h legal).alone txn other.owner none (record {
        one = is_of own;
        other = is_of other;
        conflicts = λ f g p q.
            let one = any_one (λ a. same_cell a.place own.cell && is_mode own.mode a.writes) f p in
            let two = any_one (λ a. same_cell a.place other.cell && is_mode other.mode a.writes) g q in
            let a : PlaceAccess Cell = one.0 in
            let b : PlaceAccess Cell = two.0 in
            let own_is = and_parts (same_cell a.place own.cell) (is_mode own.mode a.writes) one.2 in
            let other_is = and_parts (same_cell b.place other.cell) (is_mode other.mode b.writes) two.2 in
            conflict_back posix_calls L g f (one_any (λ y. any (places_conflict posix y) f) b g two.1 (one_any (places_conflict posix b) a f one.1
            (sym (λ i. places_conflict posix (record { place = sym (same_cell-is b.place other.cell other_is.0) i; writes = mode_writes other.mode b.writes other_is.1 i }) (record { place = sym (same_cell-is a.place own.cell own_is.0) i; writes = mode_writes own.mode a.writes own_is.1 i }))
            ∙ conflicts)));
        first = subst (λ u. owns_lock posix_calls h u (is_of own) ≡ true) owner (lock_owned h t locks [] own.owner own (sym (locks own) ∙ mine));
        second = lock_owned h t locks [] other.owner other (sym (locks other) ∙ there);
      })

-- A cell that a call touches is that of one of its accesses, where it is a file's.
place_is : (c : Cell) (file : ℕ) → file_of c ≡ Some file → (place : Cell) → covers place c ≡ same_cell place c
place_is (Entry entry) file is place = absurd (none_some file is)
place_is (Names d) file is place = absurd (none_some file is)
place_is (Parent d) file is place = absurd (none_some file is)
place_is (Links i) file is (Entry entry) = refl
place_is (Links i) file is (Names d) = refl
place_is (Links i) file is (Parent d) = refl
place_is (Links i) file is (Links j) = refl
place_is (Links i) file is (Bytes j) = refl
place_is (Links i) file is (Fd f) = refl
place_is (Links i) file is (DirAttributes d) = refl
place_is (Links i) file is (FileAttributes j) = refl
place_is (Bytes i) file is (Entry entry) = refl
place_is (Bytes i) file is (Names d) = refl
place_is (Bytes i) file is (Parent d) = refl
place_is (Bytes i) file is (Links j) = refl
place_is (Bytes i) file is (Bytes j) = refl
place_is (Bytes i) file is (Fd f) = refl
place_is (Bytes i) file is (DirAttributes d) = refl
place_is (Bytes i) file is (FileAttributes j) = refl
place_is (Fd f) file is place = absurd (none_some file is)
place_is (DirAttributes d) file is place = absurd (none_some file is)
place_is (FileAttributes i) file is (Entry entry) = refl
place_is (FileAttributes i) file is (Names d) = refl
place_is (FileAttributes i) file is (Parent d) = refl
place_is (FileAttributes i) file is (Links j) = refl
place_is (FileAttributes i) file is (Bytes j) = refl
place_is (FileAttributes i) file is (Fd f) = refl
place_is (FileAttributes i) file is (DirAttributes d) = refl
place_is (FileAttributes i) file is (FileAttributes j) = refl

pub cover_law : CoverLaw
cover_law base sound h t locks c file is unlocked y = by_test (owns_lock posix_calls h y (λ f. posix_calls.touches f (Some c)))
    (λ owns.
    let o = owns_one posix_calls h y (λ f. posix_calls.touches f (Some c)) owns in
    let one = any_one (λ a. covers a.place c) o.call.accesses o.passes in
    let own = lock_of h o.call y one.0 o.granted o.owner one.1 in
    let there = cell_locked t (access_line one.0 y own.0) (locks (access_line one.0 y own.0) ∙ own.1) in
    absurd (false≢true (sym unlocked ∙ ap (is_locked t) (sym (same_cell-is one.0.place c (sym (place_is c file is one.0.place) ∙ one.2))) ∙ there)))
    (λ none. none)
