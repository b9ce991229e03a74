-- What callers see of the places on cells, read one lock and one cell at a time.
use Rattle.std.proofs.Common.{◌≡◌, ℕ, zero, suc, ◌⊎◌, inl, inr, Bool, true, false, not, ◌&&◌, ◌||◌, ◌==◌, List, [], ◌∷◌, filter, Option, Some, None, is_some, unwrap_or, refl, sym, ap, ◌∙◌}
use Rattle.std.proofs.lemmas.Bool.{false≢true}
use Rattle.std.specs.List.{list_any, flat_map}
use Rattle.std.proofs.lemmas.List.Folds.{list_any-append}
use Rattle.std.proofs.lemmas.Map.Views.{any-filter_same}
use Rattle.std.proofs.lemmas.Map.Lookups.{CmpEqualImpliesEq, exact_unsigned, exact_pairs}
use Rattle.std.specs.declared.cmp.Ordering.{Ordering}
use Rattle.std.specs.Ordering.{nat_cmp, eq_by_cmp, ordering_then}
use Rattle.std.specs.Cmp.{IsTotalOrder, nat_cmp_total, eq_by_cmp_equiv, Equal-is}
use Rattle.std.specs.FinMap as finite
use Rattle.std.specs.FinSet as set
use Rattle.ft_owned_lists.specs.OwnedLists.{Lists}
use Rattle.ft_cells.specs.declared.cell.Cell.{Cell}
use Rattle.ft_cells.specs.CellOrder.{cell_cmp, cell_cmp_total, same_cell, same_cell-is}
use Rattle.ft_posix.specs.declared.call.Mode.{Mode}
use Rattle.ft_posix.specs.declared.call.Mode.TheVariants.{Read as ReadMode, Write as WriteMode}
use Rattle.ft_lock_rules.specs.declared.line.LockKind.{LockKind}
use Rattle.ft_lock_rules.specs.declared.line.LockKind.TheVariants.{Held, Retained}
use Rattle.ft_lock_rules.specs.declared.line.LockLine.{LockLine}
use Rattle.ft_lock_rules.specs.declared.lock_modes.LockModes.{LockModes}
use Rattle.ft_lock_rules.specs.LockModes.{has_mark, is_marked, is_marked_of}
use Rattle.ft_lock_rules.specs.Ranks.{mode_rank, kind_rank}
use Rattle.ft_lock_rules.specs.Cells.{Cells, marks_at, released_owner}
use Rattle.ft_lock_rules.specs.Holdings.{has_place}
use Rattle.ft_lock_rules.specs.Locks.{LockTable, line_cmp, line_cmp_total, has_lock, is_released, is_opened, is_locked}
use Rattle.ft_lock_rules.specs.Listing.{same_line}
use Rattle.ft_lock_rules.specs.Seen.{has_mark_of, has_line, is_marked_at, owners_on, lines_by, lines_on, table_of}
use Rattle.ft_lock_rules.proofs.CellViews.{cell_exact}

mode_at : ℕ → Mode
mode_at zero = ReadMode
mode_at (suc n) = WriteMode

kind_at : ℕ → LockKind
kind_at zero = Held
kind_at (suc n) = Retained

mode_again : (m : Mode) → mode_at (mode_rank m) ≡ m
unfolding mode_at
mode_again ReadMode = refl
mode_again WriteMode = refl

kind_again : (k : LockKind) → kind_at (kind_rank k) ≡ k
unfolding kind_at
kind_again Held = refl
kind_again Retained = refl

-- lines that do not differ in the order are one
pub line_exact : CmpEqualImpliesEq line_cmp
line_exact x y tied =
    let ranks = λ (a b : ℕ × ℕ). ordering_then (nat_cmp a.0 b.0) (nat_cmp a.1 b.1) in
    let owners = λ (a b : ℕ × (ℕ × ℕ)). ordering_then (nat_cmp a.0 b.0) (ranks a.1 b.1) in
    let same = exact_pairs cell_cmp owners cell_exact (exact_pairs nat_cmp ranks exact_unsigned (exact_pairs nat_cmp nat_cmp exact_unsigned exact_unsigned))
    (x.cell, (x.owner, (mode_rank x.mode, kind_rank x.kind))) (y.cell, (y.owner, (mode_rank y.mode, kind_rank y.kind))) tied in
    let modes = sym (mode_again x.mode) ∙ ap (λ (p : Cell × (ℕ × (ℕ × ℕ))). mode_at p.1.1.0) same ∙ mode_again y.mode in
    let kinds = sym (kind_again x.kind) ∙ ap (λ (p : Cell × (ℕ × (ℕ × ℕ))). kind_at p.1.1.1) same ∙ kind_again y.kind in
    λ i. record { cell = (same i).0; owner = (same i).1.0; mode = modes i; kind = kinds i }

pub same_line-is : (x y : LockLine) → same_line x y ≡ true → x ≡ y
same_line-is x y e = line_exact x y ((Equal-is (line_cmp x y)).0 e)

absorbed : (a b : Bool) → (a ≡ true → b ≡ true) → (a && b) ≡ a
absorbed true b h = h refl
absorbed false b h = refl

-- A set of those that pass a test, of a list that has all of them.
module _ {K : Type 0} {R : K → K → Ordering} (o : IsTotalOrder R) (exact : CmpEqualImpliesEq R) where
  pub contains-filtered : (p : K → Bool) (ks : List K) (q : K) → (p q ≡ true → list_any (eq_by_cmp R q) ks ≡ true) → set.contains (set.from_list {R = R} (filter p ks)) q ≡ p q
  contains-filtered p ks q all =
      set.contains-from_list o (filter p ks) q
      ∙ any-filter_same (eq_by_cmp R q) p (p q) (λ k tied. ap p (sym (exact q k ((Equal-is (R q k)).0 tied)))) ks
      ∙ absorbed (p q) (list_any (eq_by_cmp R q) ks) all

  -- what one key's list has, all of them have
  pub any-flat : {A : Type 0} (test : A → Bool) (f : K → List A) (ks : List K) (k : K) → list_any (eq_by_cmp R k) ks ≡ true → list_any test (f k) ≡ true → list_any test (flat_map f ks) ≡ true
  any-flat test f [] k there one = absurd (false≢true there)
  any-flat test f (x ∷ xs) k there one = list_any-append test (f x) (flat_map f xs) ∙ by_key (eq_by_cmp R k x) refl there (λ later. any-flat test f xs k later one)
    where
      or-true : (b : Bool) → (b || true) ≡ true
      or-true true = refl
      or-true false = refl

      by_key : (b : Bool) → eq_by_cmp R k x ≡ b → (b || list_any (eq_by_cmp R k) xs) ≡ true → (list_any (eq_by_cmp R k) xs ≡ true → list_any test (flat_map f xs) ≡ true) → (list_any test (f x) || list_any test (flat_map f xs)) ≡ true
      by_key true e h more = ap (λ b. b || list_any test (flat_map f xs)) (ap (λ y. list_any test (f y)) (sym (exact k x ((Equal-is (R k x)).0 e))) ∙ one)
      by_key false e h more = ap (λ b. list_any test (f x) || b) (more h) ∙ or-true (list_any test (f x))

same_itself : (l : LockLine) → same_line l l ≡ true
same_itself l = (eq_by_cmp_equiv line_cmp_total).refl l

among_four : (a b c d : Bool) → (a ≡ true) ⊎ ((b ≡ true) ⊎ ((c ≡ true) ⊎ (d ≡ true))) → (a || (b || (c || (d || false)))) ≡ true
among_four true b c d h = refl
among_four false true c d h = refl
among_four false false true d h = refl
among_four false false false true h = refl
among_four false false false false (inl e) = absurd (false≢true e)
among_four false false false false (inr (inl e)) = absurd (false≢true e)
among_four false false false false (inr (inr (inl e))) = absurd (false≢true e)
among_four false false false false (inr (inr (inr e))) = absurd (false≢true e)

abbrev pub line : Cell → ℕ → Mode → LockKind → LockLine
line c u mode kind = record { cell = c; owner = u; mode = mode; kind = kind }

among_lines : (p : LockLine → Bool) (c : Cell) (u : ℕ)
    → (p (line c u ReadMode Held) ≡ true) ⊎ ((p (line c u ReadMode Retained) ≡ true) ⊎ ((p (line c u WriteMode Held) ≡ true) ⊎ (p (line c u WriteMode Retained) ≡ true)))
    → list_any p (lines_by c u) ≡ true
among_lines p c u h = among_four (p (line c u ReadMode Held)) (p (line c u ReadMode Retained)) (p (line c u WriteMode Held)) (p (line c u WriteMode Retained)) h

line_among : (c : Cell) (u : ℕ) (mode : Mode) (kind : LockKind) → list_any (same_line (line c u mode kind)) (lines_by c u) ≡ true
line_among c u ReadMode Held = among_lines (same_line (line c u ReadMode Held)) c u (inl (same_itself (line c u ReadMode Held)))
line_among c u ReadMode Retained = among_lines (same_line (line c u ReadMode Retained)) c u (inr (inl (same_itself (line c u ReadMode Retained))))
line_among c u WriteMode Held = among_lines (same_line (line c u WriteMode Held)) c u (inr (inr (inl (same_itself (line c u WriteMode Held)))))
line_among c u WriteMode Retained = among_lines (same_line (line c u WriteMode Retained)) c u (inr (inr (inr (same_itself (line c u WriteMode Retained)))))

-- an owner with a place is among the owners, and its cell among the cells
pub owner_among : (m : Cells) (c : Cell) (u : ℕ) → has_place m c u ≡ true → list_any (eq_by_cmp nat_cmp u) (owners_on m c) ≡ true
owner_among m c u place = sym (finite.contains_key-keys (unwrap_or (finite.get m c) finite.empty) u) ∙ place

pub cell_among : (m : Cells) (c : Cell) (u : ℕ) → has_place m c u ≡ true → list_any (same_cell c) (finite.keys m) ≡ true
cell_among m c u place = sym (finite.contains_key-keys m c) ∙ by_get (finite.get m c) place
  where
    by_get : (o : Option (finite.FinMap nat_cmp LockModes)) → is_some (finite.get (unwrap_or o finite.empty) u) ≡ true → is_some o ≡ true
    by_get None e = absurd (false≢true (sym (ap is_some (finite.get-empty nat_cmp u)) ∙ e))
    by_get (Some x) e = refl

place_of_line : (m : Cells) (l : LockLine) → has_line m l ≡ true → has_place m l.cell l.owner ≡ true
place_of_line m l e = by_marks (marks_at m l.cell l.owner) e
  where
    by_marks : (o : Option LockModes) → has_mark_of o l ≡ true → is_some o ≡ true
    by_marks None e = absurd (false≢true e)
    by_marks (Some x) e = refl

module _ (m : Cells) (lists : Lists Cell) where
  pub lines-seen : (l : LockLine) → has_lock (table_of m lists) l ≡ has_line m l
  lines-seen l = contains-filtered line_cmp_total line_exact (has_line m) (flat_map (λ c. lines_on m c) (finite.keys m)) l (λ there.
      any-flat cell_cmp_total cell_exact (same_line l) (λ c. lines_on m c) (finite.keys m) l.cell (cell_among m l.cell l.owner (place_of_line m l there))
      (any-flat nat_cmp_total exact_unsigned (same_line l) (λ u. lines_by l.cell u) (owners_on m l.cell) l.owner (owner_among m l.cell l.owner (place_of_line m l there)) (line_among l.cell l.owner l.mode l.kind)))

  pub released_cells-seen : (c : Cell) → is_released (table_of m lists) c ≡ (has_place m c released_owner && not (is_marked_at m c))
  released_cells-seen c = contains-filtered cell_cmp_total cell_exact (λ d. has_place m d released_owner && not (is_marked_at m d)) (finite.keys m) c
      (λ there. cell_among m c released_owner (first_of_both (has_place m c released_owner) (not (is_marked_at m c)) there))
    where
      first_of_both : (a b : Bool) → (a && b) ≡ true → a ≡ true
      first_of_both true b e = refl
      first_of_both false b e = e

  pub opened-seen : (u : ℕ) → is_opened (table_of m lists) u ≡ (not (u == released_owner) && finite.contains_key lists u)
  opened-seen u =
      set.contains-from_list nat_cmp_total (filter (λ v. not (v == released_owner)) (finite.keys lists)) u
      ∙ any-filter_same (eq_by_cmp nat_cmp u) (λ v. not (v == released_owner)) (not (u == released_owner)) (λ v tied. ap (λ x. not (x == released_owner)) (sym (exact_unsigned u v ((Equal-is (nat_cmp u v)).0 tied)))) (finite.keys lists)
      ∙ ap (λ b. not (u == released_owner) && b) (sym (finite.contains_key-keys lists u))

or-true : (b : Bool) → (b || true) ≡ true
or-true true = refl
or-true false = refl

any_marked : (m : Cells) (c : Cell) (u : ℕ) → is_marked_of (marks_at m c u) ≡ true → (us : List ℕ) → list_any (eq_by_cmp nat_cmp u) us ≡ true → list_any (λ v. is_marked_of (marks_at m c v)) us ≡ true
any_marked m c u marked [] there = absurd (false≢true there)
any_marked m c u marked (v ∷ us) there = by_head (eq_by_cmp nat_cmp u v) refl there (any_marked m c u marked us)
  where
    by_head : (b : Bool) → eq_by_cmp nat_cmp u v ≡ b → (b || list_any (eq_by_cmp nat_cmp u) us) ≡ true
        → (list_any (eq_by_cmp nat_cmp u) us ≡ true → list_any (λ w. is_marked_of (marks_at m c w)) us ≡ true)
        → (is_marked_of (marks_at m c v) || list_any (λ w. is_marked_of (marks_at m c w)) us) ≡ true
    by_head true e h more = ap (λ b. b || list_any (λ w. is_marked_of (marks_at m c w)) us) (ap (λ w. is_marked_of (marks_at m c w)) (sym (exact_unsigned u v ((Equal-is (nat_cmp u v)).0 e))) ∙ marked)
    by_head false e h more = ap (λ b. is_marked_of (marks_at m c v) || b) (more h) ∙ or-true (is_marked_of (marks_at m c v))

-- who has a lock on a cell
pub marked_by : (m : Cells) (c : Cell) (u : ℕ) → is_marked_of (marks_at m c u) ≡ true → is_marked_at m c ≡ true
marked_by m c u marked = any_marked m c u marked (owners_on m c) (owner_among m c u (by_marks (marks_at m c u) marked))
  where
    by_marks : (o : Option LockModes) → is_marked_of o ≡ true → is_some o ≡ true
    by_marks None e = absurd (false≢true e)
    by_marks (Some x) e = refl

-- the first of a list that passes
some_one : {A : Type 0} (p : A → Bool) (xs : List A) → list_any p xs ≡ true → (x : A) × (p x ≡ true)
some_one {A = A} p [] e = absurd (false≢true e)
some_one {A = A} p (x ∷ xs) e = by_head (p x) refl e (some_one p xs)
  where
    by_head : (b : Bool) → p x ≡ b → (b || list_any p xs) ≡ true → (list_any p xs ≡ true → (y : A) × (p y ≡ true)) → (y : A) × (p y ≡ true)
    by_head true h e more = (x, h)
    by_head false h e more = more e

pub marked_one : (m : Cells) (c : Cell) → is_marked_at m c ≡ true → (u : ℕ) × (is_marked_of (marks_at m c u) ≡ true)
marked_one m c marked = some_one (λ v. is_marked_of (marks_at m c v)) (owners_on m c) marked

-- two truths that imply each other
pub same_truth : (a b : Bool) → (a ≡ true → b ≡ true) → (b ≡ true → a ≡ true) → a ≡ b
same_truth true b f g = sym (f refl)
same_truth false true f g = g refl
same_truth false false f g = refl

-- a mark is a lock's
pub mark_one : (x : LockModes) → is_marked x ≡ true → (mode : Mode) × (kind : LockKind) × (has_mark x mode kind ≡ true)
mark_one x marked = by_four x.read_held x.read_retained x.write_held x.write_retained refl refl refl refl marked
  where
    by_four : (a b c d : Bool) → x.read_held ≡ a → x.read_retained ≡ b → x.write_held ≡ c → x.write_retained ≡ d → (a || b || c || d) ≡ true → (mode : Mode) × (kind : LockKind) × (has_mark x mode kind ≡ true)
    by_four true b c d p q r s e = (ReadMode, Held, p)
    by_four false true c d p q r s e = (ReadMode, Retained, q)
    by_four false false true d p q r s e = (WriteMode, Held, r)
    by_four false false false true p q r s e = (WriteMode, Retained, s)
    by_four false false false false p q r s e = absurd (false≢true e)

pub one_mark : (x : LockModes) (mode : Mode) (kind : LockKind) → has_mark x mode kind ≡ true → is_marked x ≡ true
one_mark x ReadMode Held e = ap (λ b. b || x.read_retained || x.write_held || x.write_retained) e
one_mark x ReadMode Retained e = second x.read_held x.read_retained x.write_held x.write_retained e
  where
    second : (a b c d : Bool) → b ≡ true → (a || b || c || d) ≡ true
    second true b c d e = refl
    second false b c d e = ap (λ t. t || c || d) e
one_mark x WriteMode Held e = third x.read_held x.read_retained x.write_held x.write_retained e
  where
    third : (a b c d : Bool) → c ≡ true → (a || b || c || d) ≡ true
    third true b c d e = refl
    third false true c d e = refl
    third false false c d e = ap (λ t. t || d) e
one_mark x WriteMode Retained e = fourth x.read_held x.read_retained x.write_held x.write_retained e
  where
    fourth : (a b c d : Bool) → d ≡ true → (a || b || c || d) ≡ true
    fourth true b c d e = refl
    fourth false true c d e = refl
    fourth false false true d e = refl
    fourth false false false d e = e

pub mark_of_line : (o : Option LockModes) (l : LockLine) → has_mark_of o l ≡ true → is_marked_of o ≡ true
mark_of_line None l e = absurd (false≢true e)
mark_of_line (Some x) l e = one_mark x l.mode l.kind e

pub line_of_mark : (c : Cell) (u : ℕ) (o : Option LockModes) → is_marked_of o ≡ true → (mode : Mode) × (kind : LockKind) × (has_mark_of o (line c u mode kind) ≡ true)
line_of_mark c u None e = absurd (false≢true e)
line_of_mark c u (Some x) e = mark_one x e

-- Whether a list has one that passes a test, where a set's test finds it.
pub first_found : (p : LockLine → Bool) (ls : List LockLine) → list_any p ls ≡ true → (l : LockLine) × (p l ≡ true) × (list_any (same_line l) ls ≡ true)
first_found p [] e = absurd (false≢true e)
first_found p (x ∷ xs) e = by_head (p x) refl e (first_found p xs)
  where
    by_head : (b : Bool) → p x ≡ b → (b || list_any p xs) ≡ true → (list_any p xs ≡ true → (l : LockLine) × (p l ≡ true) × (list_any (same_line l) xs ≡ true)) → (l : LockLine) × (p l ≡ true) × (list_any (same_line l) (x ∷ xs) ≡ true)
    by_head true h e more = (x, h, ap (λ b. b || list_any (same_line x) xs) (same_itself x))
    by_head false h e more = let found = more e in (found.0, found.1, ap (λ b. same_line found.0 x || b) found.2 ∙ or-true (same_line found.0 x))

pub found_passes : (p : LockLine → Bool) (l : LockLine) → p l ≡ true → (ls : List LockLine) → list_any (same_line l) ls ≡ true → list_any p ls ≡ true
found_passes p l h [] e = absurd (false≢true e)
found_passes p l h (x ∷ xs) e = by_head (same_line l x) refl e (found_passes p l h xs)
  where
    by_head : (b : Bool) → same_line l x ≡ b → (b || list_any (same_line l) xs) ≡ true → (list_any (same_line l) xs ≡ true → list_any p xs ≡ true) → (p x || list_any p xs) ≡ true
    by_head true t e more = ap (λ b. b || list_any p xs) (ap p (sym (same_line-is l x t)) ∙ h)
    by_head false t e more = ap (λ b. p x || b) (more e) ∙ or-true (p x)

-- the cell of a lock is locked
pub cell_locked : (t : LockTable) (l : LockLine) → has_lock t l ≡ true → is_locked t l.cell ≡ true
cell_locked t l there = found_passes (λ x. same_cell x.cell l.cell) l ((eq_by_cmp_equiv cell_cmp_total).refl l.cell) (set.items t.lines) (sym (set.contains-items t.lines l) ∙ there)

-- a cell is locked where one of its owners has a mark there
pub locked-seen : (m : Cells) (lists : Lists Cell) (c : Cell) → is_locked (table_of m lists) c ≡ is_marked_at m c
locked-seen m lists c = same_truth _ _
    (λ locked.
    let found = first_found (λ l. same_cell l.cell c) (set.items (table_of m lists).lines) locked in
    let there = sym (lines-seen m lists found.0) ∙ set.contains-items (table_of m lists).lines found.0 ∙ found.2 in
    ap (is_marked_at m) (sym (same_cell-is found.0.cell c found.1)) ∙ marked_by m found.0.cell found.0.owner (mark_of_line (marks_at m found.0.cell found.0.owner) found.0 there))
    (λ marked.
    let one = marked_one m c marked in
    let mark = line_of_mark c one.0 (marks_at m c one.0) one.1 in
    cell_locked (table_of m lists) (line c one.0 mark.0 mark.1) (lines-seen m lists (line c one.0 mark.0 mark.1) ∙ mark.2))

-- Tables that agree are one.
pub same_lines : (s t : set.FinSet line_cmp) → ((l : LockLine) → set.contains s l ≡ set.contains t l) → s ≡ t
same_lines s t is = set.same_set line_cmp_total line_exact s t is

pub same_cells_set : (s t : set.FinSet cell_cmp) → ((c : Cell) → set.contains s c ≡ set.contains t c) → s ≡ t
same_cells_set s t is = set.same_set cell_cmp_total cell_exact s t is

pub same_numbers : (s t : set.FinSet nat_cmp) → ((u : ℕ) → set.contains s u ≡ set.contains t u) → s ≡ t
same_numbers s t is = set.same_set nat_cmp_total exact_unsigned s t is

-- whether a cell is locked, by what is found there
pub locked_found : (t : LockTable) (m : Cells) (lists : Lists Cell) → table_of m lists ≡ t → (c : Cell) (b : Bool)
    → (b ≡ true → (u : ℕ) × (is_marked_of (marks_at m c u) ≡ true)) → (b ≡ false → (u : ℕ) → is_marked_of (marks_at m c u) ≡ false) → b ≡ is_locked t c
locked_found t m lists is c b some none =
    same_truth b (is_marked_at m c) (λ e. let found = some e in marked_by m c found.0 found.1)
    (λ e. let one = marked_one m c e in by_test b refl one.0 one.1)
    ∙ sym (locked-seen m lists c) ∙ ap (λ x. is_locked x c) is
  where
    by_test : (a : Bool) → b ≡ a → (u : ℕ) → is_marked_of (marks_at m c u) ≡ true → b ≡ true
    by_test true e u marked = e
    by_test false e u marked = absurd (false≢true (sym (none e u) ∙ marked))
