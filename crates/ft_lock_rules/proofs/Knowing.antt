-- A cell whose place may be without use stays known.
use Rattle.std.proofs.Common.{◌≡◌, ◌≢◌, ℕ, Bool, true, false, cond, not, ◌&&◌, ◌||◌, ◌==◌, List, [], ◌∷◌, Some, is_some, inl, inr, refl, sym, ap, subst, ◌∙◌, eq-eqb, ne_eqb}
use Rattle.std.proofs.lemmas.Bool.{false≢true, and_parts, and_from, or_cases, or_left, or_right}
use Rattle.std.specs.FinSet as set
use Rattle.ft_laws.proofs.Tests.{by_test, by_number}
use Rattle.ft_cells.specs.declared.cell.Cell.{Cell}
use Rattle.ft_cells.specs.CellOrder.{same_cell, same_cell-is, same_cell-refl}
use Rattle.ft_posix.specs.declared.call.Mode.{Mode}
use Rattle.ft_posix.specs.declared.call.Mode.TheVariants.{Read as ReadMode, Write as WriteMode}
use Rattle.ft_posix.specs.declared.call.Access.{Access}
use Rattle.ft_posix.specs.Accesses.{is_write}
use Rattle.ft_posix.specs.Posix.{file_of}
use Rattle.ft_lock_rules.specs.declared.line.LockKind.{LockKind}
use Rattle.ft_lock_rules.specs.declared.line.LockKind.TheVariants.{Held, Retained}
use Rattle.ft_lock_rules.specs.declared.line.LockLine.{LockLine}
use Rattle.ft_lock_rules.specs.Locks.{LockTable, has_lock, is_locked, is_released, owns_lock, same_mode, has_access, may_empty, may_be_emptied, is_kept_by, is_kept, may_be_useless, may_empty_cell, AreGranted, AreInherited, AreReleased}
use Rattle.ft_lock_rules.specs.Knowing.{KnownLaw}
use Rattle.ft_lock_rules.proofs.Tables.{line, first_found, found_passes, cell_locked}

-- a lock on a cell that is locked
one-lock : (t : LockTable) (c : Cell) → is_locked t c ≡ true → (l : LockLine) × (has_lock t l ≡ true) × (l.cell ≡ c)
one-lock t c e =
    let found = first_found (λ l. same_cell l.cell c) (set.items t.lines) e in
    (found.0, set.contains-items t.lines found.0 ∙ found.2, same_cell-is found.0.cell c found.1)

-- a lock by which a cell may have been emptied
one-emptying : (t : LockTable) (c : Cell) → may_be_emptied t c ≡ true → (l : LockLine) × (has_lock t l ≡ true) × (l.cell ≡ c) × (may_empty l.cell l.mode ≡ true)
one-emptying t c e =
    let found = first_found (λ l. same_cell l.cell c && may_empty l.cell l.mode) (set.items t.lines) e in
    let both = and_parts (same_cell found.0.cell c) (may_empty found.0.cell found.0.mode) found.1 in
    (found.0, set.contains-items t.lines found.0 ∙ found.2, same_cell-is found.0.cell c both.0, both.1)

-- the cell of such a lock may have been emptied
pub cell_emptied : (t : LockTable) (l : LockLine) → has_lock t l ≡ true → may_empty l.cell l.mode ≡ true → may_be_emptied t l.cell ≡ true
cell_emptied t l there may = found_passes (λ x. same_cell x.cell l.cell && may_empty x.cell x.mode) l
    (and_from (same_cell l.cell l.cell) (may_empty l.cell l.mode) (same_cell-refl l.cell) may) (set.items t.lines) (sym (set.contains-items t.lines l) ∙ there)

-- where each lock is still on its cell in its mode, what was kept from a sweep by it is so
pub still-kept : (all : Bool) (old new : LockTable) → ((l : LockLine) → has_lock old l ≡ true → (now : LockLine) × (has_lock new now ≡ true) × (now.cell ≡ l.cell) × (now.mode ≡ l.mode))
    → (c : Cell) → is_kept_by all old c ≡ true → is_kept_by all new c ≡ true
still-kept true old new stays c e =
    let one = one-lock old c e in
    let now = stays one.0 one.1 in
    subst (λ d. is_locked new d ≡ true) (now.2 ∙ one.2) (cell_locked new now.0 now.1)
still-kept false old new stays c e =
    let one = one-emptying old c e in
    let now = stays one.0 one.1 in
    subst (λ d. may_be_emptied new d ≡ true) (now.2 ∙ one.2) (cell_emptied new now.0 now.1 ((λ i. may_empty (now.2 i) (now.3 i)) ∙ one.3))

-- what may have been emptied is locked
emptied-locked : (t : LockTable) (c : Cell) → may_be_emptied t c ≡ true → is_locked t c ≡ true
emptied-locked t c e = let one = one-emptying t c e in subst (λ d. is_locked t d ≡ true) one.2 (cell_locked t one.0 one.1)

pub kept-locked : (all : Bool) (t : LockTable) (c : Cell) → is_kept_by all t c ≡ true → is_locked t c ≡ true
kept-locked true t c e = e
kept-locked false t c e = emptied-locked t c e

-- a lock by which its cell may have been emptied keeps it
pub emptying-kept : (all : Bool) (t : LockTable) (l : LockLine) → has_lock t l ≡ true → may_empty l.cell l.mode ≡ true → is_kept_by all t l.cell ≡ true
emptying-kept true t l there may = cell_locked t l there
emptying-kept false t l there may = cell_emptied t l there may

by-useless : {P : Type 0} (t : LockTable) (c : Cell) → may_be_useless t c ≡ true → (is_kept t c ≡ true → P) → (is_released t c ≡ true → P) → P
by-useless t c h f g = elim (or_cases (is_kept t c) (is_released t c) h) [ inl kept ↦ f kept | inr released_cells ↦ g released_cells ]

-- an access by which a cell may be emptied
some_emptying : (xs : List Access) (c : Cell) → may_empty_cell xs c ≡ true → (mode : Mode) × (has_access xs c mode ≡ true) × (may_empty c mode ≡ true)
some_emptying [] c e = absurd (false≢true e)
some_emptying (a ∷ xs) c e = elim (or_cases (same_cell a.cell c && may_empty a.cell a.mode) (may_empty_cell xs c) e) [
  | inl here ↦
      let both = and_parts (same_cell a.cell c) (may_empty a.cell a.mode) here in
      (a.mode, or_left (same_cell a.cell c && same_mode a.mode a.mode) (has_access xs c a.mode) (and_from (same_cell a.cell c) (same_mode a.mode a.mode) both.0 (same a.mode)), ap (λ d. may_empty d a.mode) (sym (same_cell-is a.cell c both.0)) ∙ both.1)
  | inr later ↦
      let more = some_emptying xs c later in
      (more.0, or_right (same_cell a.cell c && same_mode a.mode more.0) (has_access xs c more.0) more.1, more.2)
]
  where
    same : (mode : Mode) → same_mode mode mode ≡ true
    same ReadMode = refl
    same WriteMode = refl

granted : (old new : LockTable) (txn : ℕ) (accesses : List Access) → AreGranted old new txn accesses → (c : Cell) → (may_be_useless old c || may_empty_cell accesses c) ≡ true → may_be_useless new c ≡ true
granted old new txn accesses are c h = elim (or_cases (may_be_useless old c) (may_empty_cell accesses c) h) [
  | inl was ↦ are.useless c was
  | inr emptied ↦
      let mode = some_emptying accesses c emptied in
      let new_line : LockLine = line c txn mode.0 Held in
      or_left (is_kept new c) (is_released new c) (emptying-kept new.keeps_all new new_line
      (are.given.lines new_line ∙ or_right (has_lock old new_line) (true && (txn == txn) && has_access accesses c mode.0) (λ i. true && eq-eqb txn txn refl i && mode.1 i)) mode.2)
]

-- an owner's lock, held or retained
owns : (t : LockTable) (u : ℕ) (c : Cell) (mode : Mode) (kind : LockKind) → has_lock t (line c u mode kind) ≡ true → owns_lock t u c mode ≡ true
owns t u c mode Held e = or_left (has_lock t (line c u mode Held)) (has_lock t (line c u mode Retained)) e
owns t u c mode Retained e = or_right (has_lock t (line c u mode Held)) (has_lock t (line c u mode Retained)) e

-- a lock of the child's is retained by the parent, and any other stays
stays-inherited : (old new : LockTable) (child parent : ℕ) → child ≢ parent → AreInherited old new child parent → (l : LockLine) → has_lock old l ≡ true
    → (now : LockLine) × (has_lock new now ≡ true) × (now.cell ≡ l.cell) × (now.mode ≡ l.mode)
stays-inherited old new child parent apart are l e = by_number l.owner child
    (λ is.
    let handed : LockLine = line l.cell parent l.mode Retained in
    let owned : owns_lock old child l.cell l.mode ≡ true = subst (λ u. owns_lock old u l.cell l.mode ≡ true) is (owns old l.owner l.cell l.mode l.kind e) in (
      handed,
      are.lines handed ∙ and_from (not (parent == child)) _ (ap not (ne_eqb parent child (λ same. apart (sym same))))
          (or_right (has_lock old handed) ((parent == parent) && true && owns_lock old child l.cell l.mode) (λ i. eq-eqb parent parent refl i && true && owned i)),
      refl,
      refl,
    ))
    (λ ne. (l, are.lines l ∙ and_from (not (l.owner == child)) _ (ap not (ne_eqb l.owner child ne)) (or_left (has_lock old l) _ e), refl, refl))

inherited : (old new : LockTable) (child parent : ℕ) → child ≢ parent → AreInherited old new child parent → (c : Cell) → may_be_useless old c ≡ true → may_be_useless new c ≡ true
inherited old new child parent apart are c h = by-useless old c h
    (λ kept. or_left (is_kept new c) (is_released new c) (ap (λ all. is_kept_by all new c) are.keeps_all ∙ still-kept old.keeps_all old new (stays-inherited old new child parent apart are) c kept))
    (λ released_cells. or_right (is_kept new c) (is_released new c) (ap (λ s. set.contains s c) are.released_cells ∙ released_cells))

-- what locks kept before a release is kept or released after it, by the same test as before
kept-or-released : (all : Bool) (old new : LockTable) (c : Cell) → is_released new c ≡ (is_released old c || (is_kept_by all old c && not (is_kept_by all new c))) → is_kept_by all old c ≡ true
    → (is_kept_by all new c ≡ false → is_released new c ≡ true)
kept-or-released all old new c is kept gone = is ∙ or_right (is_released old c) (is_kept_by all old c && not (is_kept_by all new c)) (and_from (is_kept_by all old c) (not (is_kept_by all new c)) kept (ap not gone))

released : (old new : LockTable) (txn : ℕ) → AreReleased old new txn → (c : Cell) → may_be_useless old c ≡ true → may_be_useless new c ≡ true
released old new txn are c h = by-useless old c h
    (λ kept. by_flags old.keeps_all new.keeps_all refl kept (are.freed.released_cells c))
    (λ was. or_right (is_kept new c) (is_released new c) (are.freed.released_cells c ∙ or_left (is_released old c) _ was))
  where
    -- where any lock keeps its cell afterwards
    by_all : new.keeps_all ≡ true → is_locked old c ≡ true → is_released new c ≡ (is_released old c || (is_locked old c && not (is_locked new c))) → may_be_useless new c ≡ true
    by_all now locked is = by_test (is_locked new c)
        (λ t. or_left (is_kept new c) (is_released new c) (ap (λ all. is_kept_by all new c) now ∙ t))
        (λ f. or_right (is_kept new c) (is_released new c) (kept-or-released true old new c is locked f))

    by_flags : (was now : Bool) → new.keeps_all ≡ now → is_kept_by was old c ≡ true
        → is_released new c ≡ (is_released old c || (is_kept_by (was || now) old c && not (is_kept_by (was || now) new c))) → may_be_useless new c ≡ true
    by_flags true true now kept is = by_all now kept is
    by_flags false true now kept is = by_all now (emptied-locked old c kept) is
    by_flags true false now kept is = or_right (is_kept new c) (is_released new c) (kept-or-released true old new c is kept (are.free now c))
    by_flags false false now kept is = by_test (may_be_emptied new c)
        (λ t. or_left (is_kept new c) (is_released new c) (ap (λ all. is_kept_by all new c) now ∙ t))
        (λ f. or_right (is_kept new c) (is_released new c) (kept-or-released false old new c is kept f))

kept : (t : LockTable) (c : Cell) → is_kept t c ≡ true → is_locked t c ≡ true
kept t c e = kept-locked t.keeps_all t c e

written : (t : LockTable) (l : LockLine) → has_lock t l ≡ true → is_write l.mode ≡ true → is_kept t l.cell ≡ true
written t l there writes = emptying-kept t.keeps_all t l there (or_left (is_write l.mode) (is_some (file_of l.cell)) writes)

file : (t : LockTable) (c : Cell) (i : ℕ) → file_of c ≡ Some i → is_kept t c ≡ false → is_locked t c ≡ false
file t c i is gone = by_test (is_locked t c)
    (λ locked.
    let one = one-lock t c locked in
    absurd (false≢true (sym gone ∙ subst (λ d. is_kept t d ≡ true) one.2 (emptying-kept t.keeps_all t one.0 one.1
    (or_right (is_write one.0.mode) (is_some (file_of one.0.cell)) (ap is_some (ap file_of one.2 ∙ is)))))))
    (λ free. free)

pub known_law : KnownLaw
known_law = record { granted = granted; inherited = inherited; released = released; locked = one-lock; kept = kept; written = written; file = file }
