-- Places that are made for a grant, taken back, or given its locks.
use Rattle.std.proofs.Common.{◌≡◌, ◌⊎◌, inl, inr, ◌<◌, ◌+◌, ℕ, suc, Bool, true, false, cond, ◌&&◌, ◌||◌, ◌==◌, List, [], ◌∷◌, take, length, get_or, Option, Some, None, is_some, refl, sym, ap, ◌∙◌, add-one}
use Rattle.std.proofs.lemmas.Bool.{false≢true, eqb-true}
use Rattle.std.specs.List.{list_any}
use Rattle.std.proofs.lemmas.List.{take_more}
use Rattle.std.proofs.lemmas.List.Folds.{list_any-append}
use Rattle.std.specs.Option.{option_map}
use Rattle.std.specs.FinMap as finite
use Rattle.ft_owned_lists.specs.OwnedLists.{list_in}
use Rattle.ft_cells.specs.declared.cell.Cell.{Cell}
use Rattle.ft_cells.specs.CellOrder.{same_cell, same_cell-is}
use Rattle.ft_posix.specs.declared.call.Mode.{Mode}
use Rattle.ft_posix.specs.declared.call.Mode.TheVariants.{Read as ReadMode, Write as WriteMode}
use Rattle.ft_posix.specs.declared.call.Access.{Access}
use Rattle.ft_lock_rules.specs.declared.line.LockKind.{LockKind}
use Rattle.ft_lock_rules.specs.declared.line.LockKind.TheVariants.{Held, Retained}
use Rattle.ft_lock_rules.specs.declared.line.LockLine.{LockLine}
use Rattle.ft_lock_rules.specs.declared.lock_modes.LockModes.{LockModes}
use Rattle.ft_lock_rules.specs.LockModes.{held_in, with_marks, has_mark}
use Rattle.ft_lock_rules.specs.Cells.{Cells, marks_at, is_at}
use Rattle.ft_lock_rules.specs.Holdings.{Held as Places, has_place, AreOpenStill, after_back}
use Rattle.ft_lock_rules.specs.Locks.{is_held, same_mode, is_accessed, has_access, is_given}
use Rattle.ft_lock_rules.specs.Seen.{has_mark_of, has_line}
use Rattle.ft_lock_rules.proofs.CellViews.{turned_cell}
use Rattle.ft_lock_rules.proofs.Joining.{list_there, still-insert, placed-put, placed-marked}

add_bools : (a s t : Bool) (x y : Option LockModes) → (a ≡ true → s ≡ true → x ≡ None) → cond (a && (s || t)) None (cond (s && a) y x) ≡ cond (a && t) None x
add_bools true true true x y absent = refl
add_bools true true false x y absent = sym (absent refl refl)
add_bools true false t x y absent = refl
add_bools false true t x y absent = refl
add_bools false false t x y absent = refl

or_none : (b : Bool) → b ≡ (b || false)
or_none true = refl
or_none false = refl

and_none : (b : Bool) → (b && false) ≡ false
and_none true = refl
and_none false = refl

-- a place with the lock of an access, where there was none
line_put : (o : Option LockModes) (l : LockLine) (s a : Bool) (mode : Mode) → (s ≡ true → a ≡ true → o ≡ None)
    → has_mark_of (cond (s && a) (Some (held_in mode)) o) l ≡ (has_mark_of o l || (is_held l.kind && a && (s && same_mode mode l.mode)))
line_put None l true true mode absent = by_mode mode l.mode l.kind
  where
    by_mode : (mode m : Mode) (kind : LockKind) → has_mark (held_in mode) m kind ≡ (is_held kind && true && same_mode mode m)
    by_mode ReadMode ReadMode Held = refl
    by_mode ReadMode ReadMode Retained = refl
    by_mode ReadMode WriteMode Held = refl
    by_mode ReadMode WriteMode Retained = refl
    by_mode WriteMode ReadMode Held = refl
    by_mode WriteMode ReadMode Retained = refl
    by_mode WriteMode WriteMode Held = refl
    by_mode WriteMode WriteMode Retained = refl
line_put (Some y) l true true mode absent = absurd (false≢true (sym (ap is_some (absent refl refl))))
line_put o l true false mode absent = or_none (has_mark_of o l) ∙ ap (λ b. has_mark_of o l || (b && same_mode mode l.mode)) (sym (and_none (is_held l.kind)))
line_put o l false a mode absent = or_none (has_mark_of o l) ∙ ap (λ b. has_mark_of o l || b) (sym (and_none (is_held l.kind && a)))

-- A place has been added in front.
module _ (old new : Places) (owner : ℕ) (k : Cell) (given : LockModes) (absent : marks_at old.cells k owner ≡ None)
    (marks : (c : Cell) (u : ℕ) → marks_at new.cells c u ≡ cond (is_at k owner c u) (Some given) (marks_at old.cells c u))
    (lists : new.lists ≡ finite.insert old.lists owner (k ∷ list_in old.lists owner)) where
  absent_at : (c : Cell) (u : ℕ) → (u == owner) ≡ true → same_cell c k ≡ true → marks_at old.cells c u ≡ None
  absent_at c u e d = (λ i. marks_at old.cells (same_cell-is c k d i) (eqb-true u owner e i)) ∙ absent

  pub added_back : (made : ℕ) (c : Cell) (u : ℕ) → after_back (made + 1) owner new.cells new.lists c u ≡ after_back made owner old.cells old.lists c u
  added_back made c u =
      ap (λ n. after_back n owner new.cells new.lists c u) (add-one made)
      ∙ ap (λ l. cond ((u == owner) && list_any (same_cell c) (take (suc made) l)) None (marks_at new.cells c u)) (ap (λ m. list_in m owner) lists ∙ list_there old.lists owner (k ∷ list_in old.lists owner))
      ∙ ap (cond ((u == owner) && (same_cell c k || list_any (same_cell c) (take made (list_in old.lists owner)))) None) (marks c u)
      ∙ add_bools (u == owner) (same_cell c k) (list_any (same_cell c) (take made (list_in old.lists owner))) (marks_at old.cells c u) (Some given) (absent_at c u)

  pub added_line : (mode : Mode) → given ≡ held_in mode → (l : LockLine) → has_line new.cells l ≡ (has_line old.cells l || (is_held l.kind && (l.owner == owner) && (same_cell k l.cell && same_mode mode l.mode)))
  added_line mode given_is l =
      ap (λ o. has_mark_of o l) (marks l.cell l.owner)
      ∙ ap (λ (x : LockModes). has_mark_of (cond (is_at k owner l.cell l.owner) (Some x) (marks_at old.cells l.cell l.owner)) l) given_is
      ∙ line_put (marks_at old.cells l.cell l.owner) l (same_cell l.cell k) (l.owner == owner) mode (λ d e. absent_at l.cell l.owner e d)
      ∙ ap (λ b. has_line old.cells l || (is_held l.kind && (l.owner == owner) && (b && same_mode mode l.mode))) (turned_cell l.cell k)

  pub added_place : (c : Cell) (u : ℕ) → has_place new.cells c u ≡ (is_at k owner c u || has_place old.cells c u)
  added_place c u = ap is_some (marks c u) ∙ placed-put (is_at k owner c u) given (marks_at old.cells c u)

  pub added_still : is_some (finite.get old.lists owner) ≡ true → AreOpenStill old.lists new.lists
  added_still is_open u = ap (λ m. is_some (finite.get m u)) lists ∙ still-insert old.lists owner (k ∷ list_in old.lists owner) is_open u

-- One more access.
pub accessed_more : (xs : List Access) (i : ℕ) (a : Access) → i < length xs → a ≡ get_or xs i a → (c : Cell) → is_accessed (take (i + 1) xs) c ≡ (is_accessed (take i xs) c || (same_cell a.cell c || false))
accessed_more xs i a within is c =
    ap (λ l. is_accessed l c) (take_more xs i a within) ∙ list_any-append (λ (x : Access). same_cell x.cell c) (take i xs) (get_or xs i a ∷ [])
    ∙ ap (λ (x : Access). is_accessed (take i xs) c || (same_cell x.cell c || false)) (sym is)

pub access_more : (xs : List Access) (i : ℕ) (a : Access) → i < length xs → a ≡ get_or xs i a → (c : Cell) (mode : Mode)
    → has_access (take (i + 1) xs) c mode ≡ (has_access (take i xs) c mode || (same_cell a.cell c && same_mode a.mode mode || false))
access_more xs i a within is c mode =
    ap (λ l. has_access l c mode) (take_more xs i a within) ∙ list_any-append (λ (x : Access). same_cell x.cell c && same_mode x.mode mode) (take i xs) (get_or xs i a ∷ [])
    ∙ ap (λ (x : Access). has_access (take i xs) c mode || (same_cell x.cell c && same_mode x.mode mode || false)) (sym is)

-- the lines that are given by one access more
given_bools : (q t n : Bool) → (q && (t || (n || false))) ≡ ((q && t) || (q && n))
given_bools true true n = refl
given_bools true false true = refl
given_bools true false false = refl
given_bools false t n = refl

pub given_more : (xs : List Access) (i : ℕ) (a : Access) → i < length xs → a ≡ get_or xs i a → (owner : ℕ) (l : LockLine)
    → is_given owner (take (i + 1) xs) l ≡ (is_given owner (take i xs) l || (is_held l.kind && (l.owner == owner) && (same_cell a.cell l.cell && same_mode a.mode l.mode)))
given_more xs i a within is owner l =
    ap (λ b. is_held l.kind && (l.owner == owner) && b) (access_more xs i a within is l.cell l.mode)
    ∙ given_bools (is_held l.kind && (l.owner == owner)) (has_access (take i xs) l.cell l.mode) (same_cell a.cell l.cell && same_mode a.mode l.mode)

pub lines_kept : (l g i y : Bool) → (l || g) ≡ (i || g) → (l || (g || y)) ≡ (i || (g || y))
lines_kept true g true y e = refl
lines_kept true true false y e = refl
lines_kept true false false y e = absurd (false≢true (sym e))
lines_kept false true true y e = refl
lines_kept false true false y e = refl
lines_kept false false true y e = absurd (false≢true e)
lines_kept false false false y e = refl

pub lines_made : (l g i y : Bool) → (l || g) ≡ (i || g) → ((l || y) || (g || y)) ≡ (i || (g || y))
lines_made l g i true e = both l (g_true g) ∙ sym (either i (g_true g))
  where
    g_true : (g : Bool) → (g || true) ≡ true
    g_true true = refl
    g_true false = refl

    either : (b : Bool) → (g || true) ≡ true → (b || (g || true)) ≡ true
    either true h = refl
    either false h = h

    both : (b : Bool) → (g || true) ≡ true → ((b || true) || (g || true)) ≡ true
    both true h = refl
    both false h = refl
lines_made l g i false e = ap (λ b. b || (g || false)) (sym (or_none l)) ∙ ap (λ b. l || b) (sym (or_none g)) ∙ e ∙ ap (λ b. i || b) (or_none g)

-- the owner has the lock of the access
mark_there : (own : LockModes) (a m : Mode) (kind : LockKind) → has_mark own a Held ≡ true → is_held kind ≡ true → same_mode a m ≡ true → has_mark own m kind ≡ true
mark_there own ReadMode ReadMode Held e h s = e
mark_there own WriteMode WriteMode Held e h s = e
mark_there own ReadMode WriteMode Held e h s = absurd (false≢true s)
mark_there own WriteMode ReadMode Held e h s = absurd (false≢true s)
mark_there own a m Retained e h s = absurd (false≢true h)

all_parts : (k o s t : Bool) → (k && o && (s && t)) ≡ true → (k ≡ true) × (o ≡ true) × (s ≡ true) × (t ≡ true)
all_parts true true true true e = (refl, refl, refl, refl)
all_parts true true true false e = absurd (false≢true e)
all_parts true true false t e = absurd (false≢true e)
all_parts true false s t e = absurd (false≢true e)
all_parts false o s t e = absurd (false≢true e)

pub line_there : (m : Cells) (owner : ℕ) (a : Access) (own : LockModes) → Some own ≡ marks_at m a.cell owner → has_mark own a.mode Held ≡ true
    → (l : LockLine) → (is_held l.kind && (l.owner == owner) && (same_cell a.cell l.cell && same_mode a.mode l.mode)) ≡ true → has_line m l ≡ true
line_there m owner a own is has l e =
    let parts = all_parts (is_held l.kind) (l.owner == owner) (same_cell a.cell l.cell) (same_mode a.mode l.mode) e in
    ap (λ o. has_mark_of o l) ((λ i. marks_at m (sym (same_cell-is a.cell l.cell parts.2) i) (eqb-true l.owner owner parts.1 i)) ∙ sym is)
    ∙ mark_there own a.mode l.mode l.kind has parts.0 parts.3

pub in_either : (g y b : Bool) → (g || y) ≡ true → (g ≡ true → b ≡ true) → (y ≡ true → b ≡ true) → b ≡ true
in_either true y b e first second = first refl
in_either false y b e first second = second e

pub or_with : (a b : Bool) → (a ≡ true) ⊎ (b ≡ true) → (a || b) ≡ true
or_with true b e = refl
or_with false b (inl e) = absurd (false≢true e)
or_with false b (inr e) = e

pub in_place : (g y b : Bool) → (g || y) ≡ true → (g ≡ true → b ≡ true) → (b ≡ true) ⊎ (y ≡ true)
in_place true y b e first = inl (first refl)
in_place false y b e first = inr e

pub some-placed : (o : Option LockModes) (own : LockModes) → o ≡ Some own → is_some o ≡ true
some-placed o own e = ap is_some e

-- the place was there
pub place_kept : (l i a t s : Bool) → l ≡ (i || (a && t)) → (a ≡ true → s ≡ true → l ≡ true) → l ≡ (i || (a && (t || (s || false))))
place_kept l true a t s is there = is
place_kept l false false t s is there = is
place_kept l false true true s is there = is
place_kept l false true false true is there = there refl refl
place_kept l false true false false is there = is

-- the place is new
pub place_made : (l i a t s : Bool) → l ≡ (i || (a && t)) → (s && a || l) ≡ (i || (a && (t || (s || false))))
place_made l i a t s is = ap (λ b. s && a || b) is ∙ by_cases s a i t
  where
    by_cases : (s a i t : Bool) → (s && a || (i || (a && t))) ≡ (i || (a && (t || (s || false))))
    by_cases true true true t = refl
    by_cases true true false true = refl
    by_cases true true false false = refl
    by_cases true false true t = refl
    by_cases true false false t = refl
    by_cases false a true t = refl
    by_cases false true false true = refl
    by_cases false true false false = refl
    by_cases false false false t = refl

-- A place gets the mark of an access.
pub marked_line : (o : Option LockModes) (l : LockLine) (s a : Bool) (mode : Mode)
    → has_mark_of (cond (s && a) (option_map (λ own. with_marks own (held_in mode)) o) o) l ≡ (has_mark_of o l || (is_some o && is_held l.kind && a && (s && same_mode mode l.mode)))
marked_line None l true true mode = refl
marked_line None l true false mode = refl
marked_line None l false a mode = refl
marked_line (Some y) l true true mode = by_mode mode l.mode l.kind
  where
    by_mode : (mode m : Mode) (kind : LockKind) → has_mark (with_marks y (held_in mode)) m kind ≡ (has_mark y m kind || (is_held kind && true && same_mode mode m))
    by_mode ReadMode ReadMode Held = refl
    by_mode ReadMode ReadMode Retained = refl
    by_mode ReadMode WriteMode Held = refl
    by_mode ReadMode WriteMode Retained = refl
    by_mode WriteMode ReadMode Held = refl
    by_mode WriteMode ReadMode Retained = refl
    by_mode WriteMode WriteMode Held = refl
    by_mode WriteMode WriteMode Retained = refl
marked_line (Some y) l true false mode = or_none (has_mark y l.mode l.kind) ∙ ap (λ b. has_mark y l.mode l.kind || (b && same_mode mode l.mode)) (sym (and_none (is_held l.kind)))
marked_line (Some y) l false a mode = or_none (has_mark y l.mode l.kind) ∙ ap (λ b. has_mark y l.mode l.kind || b) (sym (and_none (is_held l.kind && a)))

line_bools : (i q t n : Bool) → (i || (q && t) || (q && n)) ≡ (i || (q && (t || (n || false))))
line_bools true q t n = refl
line_bools false true true n = refl
line_bools false true false true = refl
line_bools false true false false = refl
line_bools false false t n = refl

module _ (start old new : Cells) (owner : ℕ) (xs : List Access) (i : ℕ) (a : Access) (within : i < length xs) (is : a ≡ get_or xs i a) (given : LockModes) (given_is : given ≡ held_in a.mode)
    (marks : (c : Cell) (u : ℕ) → marks_at new c u ≡ cond (is_at a.cell owner c u) (option_map (λ own. with_marks own given) (marks_at old c u)) (marks_at old c u))
    (places : (c : Cell) (u : ℕ) → has_place old c u ≡ has_place start c u) where
  pub marked_place : (c : Cell) (u : ℕ) → has_place new c u ≡ has_place start c u
  marked_place c u = ap is_some (marks c u) ∙ placed-marked (is_at a.cell owner c u) (λ own. with_marks own given) (marks_at old c u) ∙ places c u

  pub marked_lines : (l : LockLine) → has_line old l ≡ (has_line start l || (has_place start l.cell l.owner && is_held l.kind && (l.owner == owner) && has_access (take i xs) l.cell l.mode))
      → has_line new l ≡ (has_line start l || (has_place start l.cell l.owner && is_held l.kind && (l.owner == owner) && has_access (take (i + 1) xs) l.cell l.mode))
  marked_lines l was =
      ap (λ o. has_mark_of o l) (marks l.cell l.owner)
      ∙ ap (λ (x : LockModes). has_mark_of (cond (is_at a.cell owner l.cell l.owner) (option_map (λ own. with_marks own x) (marks_at old l.cell l.owner)) (marks_at old l.cell l.owner)) l) given_is
      ∙ marked_line (marks_at old l.cell l.owner) l (same_cell l.cell a.cell) (l.owner == owner) a.mode
      ∙ (λ j. was j || (places l.cell l.owner j && is_held l.kind && (l.owner == owner) && (turned_cell l.cell a.cell j && same_mode a.mode l.mode)))
      ∙ line_bools (has_line start l) (has_place start l.cell l.owner && is_held l.kind && (l.owner == owner)) (has_access (take i xs) l.cell l.mode) (same_cell a.cell l.cell && same_mode a.mode l.mode)
      ∙ ap (λ b. has_line start l || (has_place start l.cell l.owner && is_held l.kind && (l.owner == owner) && b)) (sym (access_more xs i a within is l.cell l.mode))
