-- What a list of locks has in it.
use Rattle.std.proofs.Common.{◌≡◌, Bool, true, false, cond, ◌&&◌, ◌||◌, ◌==◌, ◌+◌, ◌<◌, ◌≤◌, ℕ, length, take, zero, suc, get_or, eqb-true, arith, List, [], ◌∷◌, ◌++◌, Option, Some, None, is_some, unwrap_or, refl, sym, ap, subst, ◌∙◌, inl, inr}
use Rattle.std.proofs.lemmas.Bool.{false≢true, and_parts, false_from_ne_true}
use Rattle.std.proofs.lemmas.List.Sums.{sum_by-cons, sum_by_push, sum_by_more}
use Rattle.std.specs.List.{list_any, count_by, dedup, dedup_from, AllByRecursion}
use Rattle.std.specs.Option.{option_map}
use Rattle.slab.specs.Slab.{Slab, get, entries, entries_from}
use Rattle.std.specs.List.Sorted.{IsSorted, IsPermutation, IsStrictlySortedBy}
use Rattle.std.proofs.lemmas.List.Sorted.{sum_by-IsPermutation}
use Rattle.std.proofs.lemmas.List.Kept.{IsStrictlySortedBy-dedup}
use Rattle.std.specs.Ordering.{nat_cmp, is_eq, ordering_then}
use Rattle.std.specs.declared.cmp.Ordering.{Ordering}
use Rattle.std.specs.declared.cmp.Ordering.TheVariants.{Less, Equal, Greater}
use Rattle.std.specs.Cmp.{IsEquivalence, nat_eq_equiv, unsigned_tied, eq_by_cmp_equiv}
use Rattle.std.specs.FinMap as finite
use Rattle.ft_laws.specs.Lists.{Each, Pairs, In}
use Rattle.ft_laws.proofs.Tests.{by_test}
use Rattle.ft_owned_lists.specs.OwnedLists.{Lists}
use Rattle.ft_cells.specs.declared.cell.Cell.{Cell}
use Rattle.ft_cells.specs.CellOrder.{cell_cmp, cell_cmp_total, same_cell, same_cell-is}
use Rattle.ft_posix.specs.declared.call.Mode.{Mode}
use Rattle.ft_posix.specs.declared.call.Mode.TheVariants.{Read as ReadMode, Write as WriteMode}
use Rattle.ft_lock_rules.specs.declared.line.LockKind.{LockKind}
use Rattle.ft_lock_rules.specs.declared.line.LockKind.TheVariants.{Held, Retained}
use Rattle.ft_lock_rules.specs.declared.line.LockLine.{LockLine}
use Rattle.ft_lock_rules.specs.declared.cell_locks.OwnerLocks.{OwnerLocks}
use Rattle.ft_lock_rules.specs.LockModes.{has_mark}
use Rattle.ft_locks.specs.declared.cells.Locked.{Locked}
use Rattle.ft_lock_rules.specs.CellLocks.{as_entries, AreApart, marks_in}
use Rattle.ft_lock_rules.specs.declared.lock_modes.LockModes.{LockModes}
use Rattle.ft_locks.specs.Slots.{owners_of, cells_of, at_of, AreKeyed, is_on}
use Rattle.ft_lock_rules.specs.Cells.{Cells}
use Rattle.ft_lock_rules.specs.Seen.{has_mark_of, has_line, table_of}
use Rattle.ft_lock_rules.specs.Locks.{LockTable, line_cmp, line_cmp_total, has_lock, AreListed}
use Rattle.ft_lock_rules.specs.Listing.{same_line, times_listed, once, AreAdded, is_by}
use Rattle.ft_lock_rules.proofs.HolderLists.{owner_passes, get-seen}
use Rattle.ft_lock_rules.proofs.CellViews.{key_in}
use Rattle.ft_locks.proofs.Slots.{at-there, at-none, get-cells, cells-there, any_there, there_any}
use Rattle.ft_lock_rules.proofs.Paired.{the_one}
use Rattle.ft_lock_rules.proofs.Tables.{line, same_line-is, same_truth, lines-seen}

-- the list has the lock
abbrev is_listed : List LockLine → LockLine → Bool
is_listed lines l = list_any (same_line l) lines

-- A lock of one owner on one cell.

tied : (a b : Ordering) → is_eq (ordering_then a (ordering_then b Equal)) ≡ (is_eq a && is_eq b)
tied Less b = refl
tied Equal Less = refl
tied Equal Equal = refl
tied Equal Greater = refl
tied Greater b = refl

below : (a b : Ordering) → is_eq (ordering_then a (ordering_then b Less)) ≡ false
below Less b = refl
below Equal Less = refl
below Equal Equal = refl
below Equal Greater = refl
below Greater b = refl

over : (a b : Ordering) → is_eq (ordering_then a (ordering_then b Greater)) ≡ false
over Less b = refl
over Equal Less = refl
over Equal Equal = refl
over Equal Greater = refl
over Greater b = refl

skip : (n : ℕ) (b m : Bool) → b ≡ false → n + once (b && m) ≡ n
skip n b m e = let zero : n + 0 ≡ n = omega arith in ap (λ x. n + once (x && m)) e ∙ zero

module _ (c d : Cell) (u v : ℕ) (old : ℕ) where
  abbrev cells : Ordering
  cells = cell_cmp d c

  abbrev owners : Ordering
  owners = nat_cmp v u

  same : (mark : Bool) → old + once (is_eq (ordering_then cells (ordering_then owners Equal)) && mark) ≡ old + once (same_cell d c && ((u == v) && mark))
  same mark = ap (λ b. old + once (b && mark)) (tied cells owners) ∙ ap (λ b. old + once b) (grouped (is_eq cells) (is_eq owners) mark)
      ∙ ap (λ b. old + once (same_cell d c && (b && mark))) (unsigned_tied v u ∙ nat_eq_equiv.symm v u)
    where
      grouped : (a b e : Bool) → (a && b && e) ≡ (a && (b && e))
      grouped true b e = refl
      grouped false b e = refl

-- The four locks that there may be.
pub four : (c : Cell) (h : OwnerLocks) (old : ℕ) (l : LockLine) →
    (((old + once (same_line l (line c h.owner ReadMode Held) && has_mark h.marks ReadMode Held))
    + once (same_line l (line c h.owner ReadMode Retained) && has_mark h.marks ReadMode Retained))
    + once (same_line l (line c h.owner WriteMode Held) && has_mark h.marks WriteMode Held))
    + once (same_line l (line c h.owner WriteMode Retained) && has_mark h.marks WriteMode Retained)
    ≡ old + once (is_by c l h)
four c h old l = by_kind l.cell l.owner l.mode l.kind
  where
    by_kind : (d : Cell) (v : ℕ) (m : Mode) (k : LockKind) →
        (((old + once (same_line (line d v m k) (line c h.owner ReadMode Held) && has_mark h.marks ReadMode Held))
        + once (same_line (line d v m k) (line c h.owner ReadMode Retained) && has_mark h.marks ReadMode Retained))
        + once (same_line (line d v m k) (line c h.owner WriteMode Held) && has_mark h.marks WriteMode Held))
        + once (same_line (line d v m k) (line c h.owner WriteMode Retained) && has_mark h.marks WriteMode Retained)
        ≡ old + once (is_by c (line d v m k) h)
    by_kind d v ReadMode Held =
        skip _ _ h.marks.write_retained (below (cell_cmp d c) (nat_cmp v h.owner)) ∙ skip _ _ h.marks.write_held (below (cell_cmp d c) (nat_cmp v h.owner))
        ∙ skip _ _ h.marks.read_retained (below (cell_cmp d c) (nat_cmp v h.owner)) ∙ same c d h.owner v old h.marks.read_held
    by_kind d v ReadMode Retained =
        skip _ _ h.marks.write_retained (below (cell_cmp d c) (nat_cmp v h.owner)) ∙ skip _ _ h.marks.write_held (below (cell_cmp d c) (nat_cmp v h.owner))
        ∙ ap (λ n. n + once (same_line (line d v ReadMode Retained) (line c h.owner ReadMode Retained) && h.marks.read_retained)) (skip old _ h.marks.read_held (over (cell_cmp d c) (nat_cmp v h.owner)))
        ∙ same c d h.owner v old h.marks.read_retained
    by_kind d v WriteMode Held =
        skip _ _ h.marks.write_retained (below (cell_cmp d c) (nat_cmp v h.owner))
        ∙ ap (λ n. n + once (same_line (line d v WriteMode Held) (line c h.owner WriteMode Held) && h.marks.write_held))
        (skip _ _ h.marks.read_retained (over (cell_cmp d c) (nat_cmp v h.owner)) ∙ skip old _ h.marks.read_held (over (cell_cmp d c) (nat_cmp v h.owner)))
        ∙ same c d h.owner v old h.marks.write_held
    by_kind d v WriteMode Retained =
        ap (λ n. n + once (same_line (line d v WriteMode Retained) (line c h.owner WriteMode Retained) && h.marks.write_retained))
        (skip _ _ h.marks.write_held (over (cell_cmp d c) (nat_cmp v h.owner)) ∙ skip _ _ h.marks.read_retained (over (cell_cmp d c) (nat_cmp v h.owner)) ∙ skip old _ h.marks.read_held (over (cell_cmp d c) (nat_cmp v h.owner)))
        ∙ same c d h.owner v old h.marks.write_retained

abbrev AddsLock : Cell → OwnerLocks → Mode → LockKind → List LockLine → List LockLine → Type 0
AddsLock c h m k old new = AreAdded old new (λ l. once (same_line l (line c h.owner m k) && has_mark h.marks m k))

pub four_added : (c : Cell) (h : OwnerLocks) (none one two three all : List LockLine) → AddsLock c h ReadMode Held none one → AddsLock c h ReadMode Retained one two → AddsLock c h WriteMode Held two three
    → AddsLock c h WriteMode Retained three all → AreAdded none all (λ l. once (is_by c l h))
four_added c h none one two three all first second third fourth l =
    fourth l ∙ ap (λ n. n + at WriteMode Retained) (third l ∙ ap (λ n. n + at WriteMode Held) (second l ∙ ap (λ n. n + at ReadMode Retained) (first l))) ∙ four c h (times_listed none l) l
  where
    at : Mode → LockKind → ℕ
    at m k = once (same_line l (line c h.owner m k) && has_mark h.marks m k)

-- One lock that is there.
pub lock_added : (old new : List LockLine) (x y : LockLine) (has : Bool) → new ≡ old ++ x ∷ [] → x ≡ y → true ≡ has → AreAdded old new (λ l. once (same_line l y && has))
lock_added old new x y has is same there l =
    ap (λ ls. times_listed ls l) is ∙ sum_by_push (λ z. once (same_line l z)) old x ∙ ap (λ z. times_listed old l + once (same_line l z)) same
    ∙ ap (λ b. times_listed old l + once b) (and_true (same_line l y) ∙ ap (λ b. same_line l y && b) there)
  where
    and_true : (b : Bool) → b ≡ (b && true)
    and_true true = refl
    and_true false = refl

-- And one that is not.
pub lock_skipped : (old : List LockLine) (y : LockLine) (has : Bool) → false ≡ has → AreAdded old old (λ l. once (same_line l y && has))
lock_skipped old y has absent l = let none : times_listed old l ≡ times_listed old l + 0 = omega arith in none ∙ ap (λ b. times_listed old l + once b) (and_false (same_line l y) ∙ ap (λ b. same_line l y && b) absent)
  where
    and_false : (b : Bool) → false ≡ (b && false)
    and_false true = refl
    and_false false = refl

-- the locks of one owner more
pub holding_more : (c : Cell) (l : LockLine) (list : List OwnerLocks) (i : ℕ) (h : OwnerLocks) (first before after : ℕ) → i < length list → before ≡ first + count_by (is_by c l) (take i list)
    → after ≡ before + once (is_by c l (get_or list i h)) → after ≡ first + count_by (is_by c l) (take (i + 1) list)
holding_more c l list i h first before after within so_far added = let more = sum_by_more (λ x. once (is_by c l x)) list i h within in omega arith

-- Where none behind a passing element passes, one passes where any does.
count-cons : {A : Type 0} (p : A → Bool) (x : A) (xs : List A) → count_by p xs ≡ once (list_any p xs) → (p x ≡ true → list_any p xs ≡ false) → count_by p (x ∷ xs) ≡ once (list_any p (x ∷ xs))
count-cons p x xs more alone = sum_by-cons (λ y. once (p y)) x xs ∙ by_head (p x) (list_any p xs) (count_by p xs) more alone
  where
    by_head : (b a : Bool) (n : ℕ) → n ≡ once a → (b ≡ true → a ≡ false) → once b + n ≡ once (b || a)
    by_head true true n e alone = absurd (false≢true (sym (alone refl)))
    by_head true false n e alone = omega arith
    by_head false a n e alone = let none : 0 + n ≡ n = omega arith in none ∙ e

-- The owners of one cell.
any_kept : {A : Type 0} (k : Bool) (p : A → Bool) (xs : List A) → list_any (λ x. k && p x) xs ≡ (k && list_any p xs)
any_kept true p xs = refl
any_kept false p [] = refl
any_kept false p (x ∷ xs) = any_kept false p xs

cell_listed : (e : Locked) (l : LockLine) (list : List OwnerLocks) → finite.from_entries (as_entries list) ≡ e.holders → AreApart list → list_any (is_by e.cell l) list ≡ is_on l e
cell_listed e l list are apart =
    any_kept (same_cell l.cell e.cell) (λ h. (h.owner == l.owner) && has_mark h.marks l.mode l.kind) list
    ∙ ap (λ b. same_cell l.cell e.cell && b) (owner_passes (λ o. has_mark_of o l) refl list apart l.owner
    ∙ ap (λ o. has_mark_of o l) (sym (get-seen list l.owner) ∙ ap (λ m. finite.get m l.owner) are))

-- an owner that stands once is counted once
owner_counted : (k : Bool) (p : Option LockModes → Bool) → p None ≡ false → (list : List OwnerLocks) → AreApart list → (u : ℕ)
    → count_by (λ h. k && ((h.owner == u) && p (Some h.marks))) list ≡ once (list_any (λ h. k && ((h.owner == u) && p (Some h.marks))) list)
owner_counted k p none [] apart u = refl
owner_counted k p none (h ∷ more) apart u = count-cons (λ x. k && ((x.owner == u) && p (Some x.marks))) h more (owner_counted k p none more apart.1 u)
    (λ e.
    let own = eqb-true h.owner u (and_parts (h.owner == u) (p (Some h.marks)) (and_parts k ((h.owner == u) && p (Some h.marks)) e).1).0 in
    any_kept k (λ x. (x.owner == u) && p (Some x.marks)) more ∙ ap (λ b. k && b) (owner_passes p none more apart.1 u ∙ ap (λ v. p (marks_in more v)) (sym own) ∙ ap p apart.0 ∙ none) ∙ and_false k)
  where
    and_false : (b : Bool) → (b && false) ≡ false
    and_false true = refl
    and_false false = refl

-- so is a lock on the cell
cell_counted : (e : Locked) (l : LockLine) (list : List OwnerLocks) → finite.from_entries (as_entries list) ≡ e.holders → AreApart list → count_by (is_by e.cell l) list ≡ once (is_on l e)
cell_counted e l list are apart = owner_counted (same_cell l.cell e.cell) (λ o. has_mark_of o l) refl list apart l.owner ∙ ap once (cell_listed e l list are apart)

-- One cell more of those that are left.
pub cell_more : (x : ℕ × Locked) (list : List OwnerLocks) (old new : List LockLine) (l : LockLine) (rest : List (ℕ × Locked)) → finite.from_entries (as_entries list) ≡ x.1.holders → AreApart list
    → times_listed new l ≡ times_listed old l + count_by (is_by x.1.cell l) list → times_listed new l + count_by (λ p. is_on l p.1) rest ≡ times_listed old l + count_by (λ p. is_on l p.1) (x ∷ rest)
cell_more x list old new l rest are apart added =
    let counted = cell_counted x.1 l list are apart in
    let more = sum_by-cons (λ p. once (is_on l p.1)) x rest in
    omega arith

-- All cells: what stands in the slab is what the cells have.
any_on_cells : (s : Slab Locked) (index : List (Cell × ℕ)) → AreKeyed (at_of s) index → (l : LockLine) → list_any (λ p. is_on l p.1) (entries s) ≡ has_line (cells_of s index) l
any_on_cells s index keyed l = same_truth _ _
    (λ any.
    let one = there_any (is_on l) s.slots 0 any in
    let both = and_parts (same_cell l.cell one.1.cell) (has_mark_of (finite.get one.1.holders l.owner) l) one.3 in
    let key = (keyed l.cell one.0).1 (at-there s one.0 one.1 one.2 ∙ ap Some (sym (same_cell-is l.cell one.1.cell both.0))) in
    ap (λ o. has_mark_of (finite.get (unwrap_or o finite.empty) l.owner) l) (cells-there s index l.cell one.0 (Some one.1) key one.2) ∙ both.1)
    (λ has. by_key (key_in index l.cell) refl has)
  where
    by_key : (o : Option ℕ) → key_in index l.cell ≡ o → has_line (cells_of s index) l ≡ true → list_any (λ p. is_on l p.1) (entries s) ≡ true
    by_key None e has =
        absurd (false≢true (sym (ap (λ o. has_mark_of (finite.get (unwrap_or o finite.empty) l.owner) l) (get-cells s index l.cell ∙ ap (option_map (λ k. owners_of (get s k))) e)
        ∙ ap (λ o. has_mark_of o l) (finite.get-empty nat_cmp l.owner)) ∙ has))
    by_key (Some k) e has = by_slot (get s k) refl
      where
        by_slot : (o : Option Locked) → get s k ≡ o → list_any (λ p. is_on l p.1) (entries s) ≡ true
        by_slot None there = absurd (false≢true (ap is_some (sym (at-none s k there) ∙ (keyed l.cell k).0 e)))
        by_slot (Some x) there =
            let same : x.cell ≡ l.cell = the_one x.cell l.cell (sym (at-there s k x there) ∙ (keyed l.cell k).0 e) in
            any_there (is_on l) s.slots 0 k x there
            ((λ i. same_cell l.cell (same i) && has_mark_of (finite.get x.holders l.owner) l)
            ∙ ap (λ b. b && has_mark_of (finite.get x.holders l.owner) l) ((eq_by_cmp_equiv cell_cmp_total).refl l.cell)
            ∙ sym (ap (λ o. has_mark_of (finite.get (unwrap_or o finite.empty) l.owner) l) (cells-there s index l.cell k (Some x) e there)) ∙ has)

-- what stands in one slot alone is counted once
slots_counted : (p : Locked → Bool) (slots : List (Option Locked)) (n : ℕ) → ((i j : ℕ) (x y : Locked) → get_or slots i None ≡ Some x → get_or slots j None ≡ Some y → p x ≡ true → p y ≡ true → i ≡ j)
    → count_by (λ e. p e.1) (entries_from n slots) ≡ once (list_any (λ e. p e.1) (entries_from n slots))
slots_counted p [] n alone = refl
slots_counted p (None ∷ slots) n alone = slots_counted p slots (n + 1) (λ i j x y a b q r. let same = alone (suc i) (suc j) x y a b q r in omega arith)
slots_counted p (Some x ∷ slots) n alone = count-cons (λ e. p e.1) (n, x) (entries_from (n + 1) slots)
    (slots_counted p slots (n + 1) (λ i j y z a b q r. let same = alone (suc i) (suc j) y z a b q r in omega arith))
    (λ e. false_from_ne_true (list_any (λ s. p s.1) (entries_from (n + 1) slots)) (λ any.
    let one = there_any p slots (n + 1) any in
    let same = alone zero (suc one.0) x one.1 refl one.2 e one.3 in
    absurd (omega arith)))

-- a lock stands in the slab once, where the cells have it
pub on_cells : (s : Slab Locked) (index : List (Cell × ℕ)) → AreKeyed (at_of s) index → (l : LockLine) → count_by (λ p. is_on l p.1) (entries s) ≡ once (has_line (cells_of s index) l)
on_cells s index keyed l =
    slots_counted (is_on l) s.slots 0 (λ i j x y a b q r. the_one i j (sym (key i x a q) ∙ key j y b r)) ∙ ap once (any_on_cells s index keyed l)
  where
    key : (i : ℕ) (x : Locked) → get_or s.slots i None ≡ Some x → is_on l x ≡ true → key_in index l.cell ≡ Some i
    key i x there on = (keyed l.cell i).1 (at-there s i x there ∙ ap Some (sym (same_cell-is l.cell x.cell (and_parts (same_cell l.cell x.cell) (has_mark_of (finite.get x.holders l.owner) l) on).0)))

-- The list in order, each once.
same_line_laws : IsEquivalence same_line
same_line_laws = eq_by_cmp_equiv line_cmp_total

line_in : (l : LockLine) (ls : List LockLine) → is_listed ls l ≡ true → In l ls
line_in l [] e = absurd (false≢true e)
line_in l (x ∷ xs) e = by_test (same_line l x)
    (λ k. inl (same_line-is l x k))
    (λ k. inr (line_in l xs (sym (ap (λ b. b || is_listed xs l) k) ∙ e)))

in_line : (l : LockLine) (ls : List LockLine) → In l ls → is_listed ls l ≡ true
in_line l [] i = absurd i
in_line l (x ∷ xs) (inl e) = ap (λ y. same_line l y || is_listed xs l) (sym e) ∙ ap (λ b. b || is_listed xs l) (same_line_laws.refl l)
in_line l (x ∷ xs) (inr i) = ap (λ b. same_line l x || b) (in_line l xs i) ∙ or_true (same_line l x)
  where
    or_true : (b : Bool) → (b || true) ≡ true
    or_true true = refl
    or_true false = refl

-- a lock is listed where it is listed once
any_counted : (p : LockLine → Bool) (xs : List LockLine) (b : Bool) → count_by p xs ≡ once b → list_any p xs ≡ b
any_counted p [] true e = absurd (omega arith)
any_counted p [] false e = refl
any_counted p (x ∷ xs) b e = by_head (p x) b (list_any p xs) (count_by p xs) (sym (sum_by-cons (λ y. once (p y)) x xs) ∙ e) (any_counted p xs)
  where
    by_head : (a b d : Bool) (n : ℕ) → once a + n ≡ once b → ((c : Bool) → n ≡ once c → d ≡ c) → (a || d) ≡ b
    by_head true true d n e more = refl
    by_head true false d n e more = absurd (omega arith)
    by_head false b d n e more = let none : 0 + n ≡ n = omega arith in more b (sym none ∙ e)

-- where no line stands twice none is left out
none_dropped : (x : LockLine) (xs : List LockLine) → ((l : LockLine) → times_listed (x ∷ xs) l ≤ 1) → dedup_from same_line x xs ≡ x ∷ xs
none_dropped x [] single = refl
none_dropped x (y ∷ ys) single = by_test (same_line y x)
    (λ e.
    let one = ap once e in
    let another = ap once (same_line_laws.refl y) in
    let first = sum_by-cons (λ l. once (same_line y l)) x (y ∷ ys) in
    let second = sum_by-cons (λ l. once (same_line y l)) y ys in
    let most = single y in
    absurd (omega arith))
    (λ e.
    ap (λ b. cond b (dedup_from same_line x ys) (x ∷ dedup_from same_line y ys)) e
    ∙ ap (λ ls. x ∷ ls) (none_dropped y ys (λ l. let more = sum_by-cons (λ z. once (same_line l z)) x (y ∷ ys) in let most = single l in omega arith)))

each_below : (x : LockLine) (xs : List LockLine) → AllByRecursion (λ y. line_cmp x y ≡ Less) xs → Each (λ y. line_cmp x y ≡ Less) xs
each_below x [] all = tt
each_below x (y ∷ ys) all = (all.0, each_below x ys all.1)

strictly : (xs : List LockLine) → IsStrictlySortedBy line_cmp xs → Pairs (λ x y. line_cmp x y ≡ Less) xs
unfolding IsStrictlySortedBy
strictly [] sorted = tt
strictly (x ∷ xs) sorted = (each_below x xs sorted.0, strictly xs sorted.1)

-- sorted lines of which none stands twice rise
rising : (xs : List LockLine) → ((l : LockLine) → times_listed xs l ≤ 1) → IsSorted line_cmp xs → Pairs (λ x y. line_cmp x y ≡ Less) xs
rising [] single sorted = tt
rising (x ∷ xs) single sorted = subst (Pairs (λ x y. line_cmp x y ≡ Less)) (none_dropped x xs single) (strictly (dedup same_line (x ∷ xs)) (IsStrictlySortedBy-dedup line_cmp_total (λ x y. refl) (x ∷ xs) sorted))

-- what was listed once each and then sorted is the list of the locks
pub all_listed : (t : LockTable) (m : Cells) (lists : Lists Cell) (none found sorted : List LockLine) → table_of m lists ≡ t → none ≡ [] → AreAdded none found (λ l. once (has_line m l))
    → IsPermutation found sorted → IsSorted line_cmp sorted → AreListed t sorted
all_listed t m lists none found sorted is first added moved rises = record {
  order = rising sorted (λ l. subst (λ n. n ≤ 1) (sym (counted l)) (at_most (has_line m l))) rises;
  exact = λ l. ((λ i. sym (here l) ∙ in_line l sorted i), (λ e. line_in l sorted (here l ∙ e)));
}
  where
    at_most : (b : Bool) → once b ≤ 1
    at_most true = omega arith
    at_most false = omega arith

    counted : (l : LockLine) → times_listed sorted l ≡ once (has_line m l)
    counted l =
        let none_yet : 0 + once (has_line m l) ≡ once (has_line m l) = omega arith in
        sum_by-IsPermutation (λ x. once (same_line l x)) found sorted moved ∙ added l ∙ ap (λ ls. times_listed ls l + once (has_line m l)) first ∙ none_yet

    here : (l : LockLine) → is_listed sorted l ≡ has_lock t l
    here l = any_counted (same_line l) sorted (has_line m l) (counted l) ∙ sym (lines-seen m lists l) ∙ ap (λ s. has_lock s l) is
