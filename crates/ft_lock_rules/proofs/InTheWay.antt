-- Who is noted as in the way.
use Rattle.std.proofs.Common.{◌≡◌, ◌⊎◌, inl, inr, ◌<◌, ◌+◌, ℕ, Bool, true, false, cond, not, ◌&&◌, ◌||◌, ◌==◌, List, [], ◌∷◌, take, map, length, get_or, Option, Some, None, is_some, refl, sym, ap, ◌∙◌}
use Rattle.std.proofs.lemmas.Bool.{false≢true, and_parts, or_cases, or_left, or_right, eqb-true}
use Rattle.std.specs.List.{list_any}
use Rattle.std.proofs.lemmas.List.{take_more}
use Rattle.std.proofs.lemmas.List.Folds.{list_any-append}
use Rattle.std.specs.Ordering.{nat_cmp, eq_by_cmp, is_lt}
use Rattle.std.specs.Prelude.{T}
use Rattle.std.specs.declared.cmp.Ordering.{Ordering}
use Rattle.std.specs.declared.cmp.Ordering.TheVariants.{Less, Equal, Greater}
use Rattle.std.specs.FinMap.Entries.{below_all}
use Rattle.std.specs.Cmp.{nat_cmp_total, nat_eq_equiv, unsigned_tied, eq_by_cmp_equiv, ranked}
use Rattle.std.specs.FinMap as finite
use Rattle.ft_cells.specs.Entries.{entry_at}
use Rattle.ft_cells.specs.declared.cell.Cell.{Cell}
use Rattle.ft_cells.specs.declared.cell.Cell.TheVariants.{Entry, Names, Parent, Links, Bytes, Fd, DirAttributes, FileAttributes}
use Rattle.ft_cells.specs.CellOrder.{cell_cmp_total, same_cell, same_cell-is, overlap}
use Rattle.ft_posix.specs.declared.call.Mode.{Mode}
use Rattle.ft_posix.specs.declared.call.Mode.TheVariants.{Read as ReadMode, Write as WriteMode}
use Rattle.ft_posix.specs.declared.call.Access.{Access}
use Rattle.ft_posix.specs.Accesses.{is_write, conflict}
use Rattle.ft_lock_rules.specs.declared.line.LockKind.{LockKind}
use Rattle.ft_lock_rules.specs.declared.line.LockKind.TheVariants.{Held, Retained}
use Rattle.ft_lock_rules.proofs.Joining.{itself}
use Rattle.ft_lock_rules.proofs.Tables.{same_truth, cell_among, mark_one, one_mark, line, lines-seen}
use Rattle.ft_forest.specs.Transactions.{Transactions, over_in}
use Rattle.ft_lock_rules.specs.declared.lock_modes.LockModes.{LockModes}
use Rattle.ft_lock_rules.specs.declared.cell_locks.OwnerLocks.{OwnerLocks}
use Rattle.ft_lock_rules.specs.declared.rule.Rule.{Rule}
use Rattle.ft_lock_rules.specs.Rules.{is_strict}
use Rattle.ft_lock_rules.specs.LockModes.{no_marks, held_of, has_mark, conflicts_with}
use Rattle.ft_laws.specs.Lists.{Each, Pairs, In}
use Rattle.ft_owned_lists.specs.OwnedLists.{Lists}
use Rattle.ft_lock_rules.specs.declared.line.LockLine.{LockLine}
use Rattle.ft_lock_rules.specs.Locks.{LockTable, has_lock, is_held, line_access, counts, IsInTheWay, AreBlockers}
use Rattle.ft_lock_rules.specs.Seen.{has_mark_of, has_line, table_of}
use Rattle.ft_lock_rules.specs.CellLocks.{Owners, marks_in, AreApart}
use Rattle.ft_lock_rules.specs.Cells.{Cells, Keyed, marks_at, holders_of, holders_under}
use Rattle.ft_lock_rules.specs.Blocking.{Found, Counted, against, is_in_way, way, is_listed_in_way, is_holder_in_way, is_entry_of, AreEntriesOf, beside, blocks}
use Rattle.ft_lock_rules.proofs.HolderLists.{blank, owner_passes}

listed_more : (counted : Counted) (list : List OwnerLocks) (i : ℕ) → i < length list → (mode : Mode) (u : ℕ)
    → is_listed_in_way counted (take (i + 1) list) mode u ≡ (is_listed_in_way counted (take i list) mode u || (((get_or list i blank).owner == u) && conflicts_with (counted u (get_or list i blank).marks) mode || false))
listed_more counted list i within mode u =
    ap (λ l. is_listed_in_way counted l mode u) (take_more list i blank within)
    ∙ list_any-append (λ (h : OwnerLocks). (h.owner == u) && conflicts_with (counted u h.marks) mode) (take i list) (get_or list i blank ∷ [])

module _ (old now : Found) (counted : Counted) (list : List OwnerLocks) (i : ℕ) (within : i < length list) (mode : Mode)
    (was : (u : ℕ) → finite.contains_key now u ≡ (finite.contains_key old u || is_listed_in_way counted (take i list) mode u)) where
  abbrev pub h : OwnerLocks
  h = get_or list i blank

  more : (u : ℕ) (c : Bool) → c ≡ (finite.contains_key old u || (is_listed_in_way counted (take i list) mode u || ((h.owner == u) && conflicts_with (counted u h.marks) mode || false)))
      → c ≡ (finite.contains_key old u || is_listed_in_way counted (take (i + 1) list) mode u)
  more u c e = e ∙ ap (λ b. finite.contains_key old u || b) (sym (listed_more counted list i within mode u))

  out : (t e w : Bool) → (e ≡ true → w ≡ false) → t ≡ (t || (e && w || false))
  out true e w no_way = refl
  out false true w no_way = sym (ap (λ b. b || false) (no_way refl))
  out false false w no_way = refl

  -- none of its locks that count conflicts
  pub noted_harmless : conflicts_with (counted h.owner h.marks) mode ≡ false → (u : ℕ) → finite.contains_key now u ≡ (finite.contains_key old u || is_listed_in_way counted (take (i + 1) list) mode u)
  noted_harmless no_way u = more u (finite.contains_key now u) (was u
      ∙ ap (λ b. finite.contains_key old u || b) (out (is_listed_in_way counted (take i list) mode u) (h.owner == u) (conflicts_with (counted u h.marks) mode)
      (λ tied. ap (λ v. conflicts_with (counted v h.marks) mode) (sym (eqb-true h.owner u tied)) ∙ no_way)))

  put_bools : (e o t w : Bool) → (e ≡ true → w ≡ true) → (e || (o || t)) ≡ (o || (t || (e && w || false)))
  put_bools true true t w in_way = refl
  put_bools true false t w in_way = sym ((λ j. t || (in_way refl j || false)) ∙ all t)
    where
      all : (b : Bool) → (b || true) ≡ true
      all true = refl
      all false = refl
  put_bools false true t w in_way = refl
  put_bools false false true w in_way = refl
  put_bools false false false w in_way = refl

  -- it is in the way
  pub noted_put : (new : Found) → new ≡ finite.insert now h.owner tt → conflicts_with (counted h.owner h.marks) mode ≡ true
      → (u : ℕ) → finite.contains_key new u ≡ (finite.contains_key old u || is_listed_in_way counted (take (i + 1) list) mode u)
  noted_put new is in_way u = more u (finite.contains_key new u) (
      ap (λ (m : Found). is_some (finite.get m u)) is ∙ ap is_some (finite.get-insert nat_cmp_total now h.owner tt u) ∙ put (eq_by_cmp nat_cmp u h.owner) (finite.get now u)
      ∙ (λ j. (unsigned_tied u h.owner ∙ nat_eq_equiv.symm u h.owner) j || was u j)
      ∙ put_bools (h.owner == u) (finite.contains_key old u) (is_listed_in_way counted (take i list) mode u) (conflicts_with (counted u h.marks) mode)
      (λ tied. ap (λ v. conflicts_with (counted v h.marks) mode) (sym (eqb-true h.owner u tied)) ∙ in_way))
    where
      put : (b : Bool) (o : Option (Unit {0})) → is_some (cond b (Some tt) o) ≡ (b || is_some o)
      put true o = refl
      put false o = refl

-- a list in which no owner stands twice, read one owner at a time
pub listed_is : (counted : Counted) (list : List OwnerLocks) → AreApart list → (mode : Mode) (u : ℕ) → is_listed_in_way counted list mode u ≡ is_in_way counted u (marks_in list u) mode
listed_is counted list apart mode u = owner_passes (λ o. is_in_way counted u o mode) refl list apart u

-- of the locks that an owner has on a cell, those that count are among them
fewer : (rule : Rule) (forest : Transactions) (txn u : ℕ) (m : LockModes) (mode : Mode) → conflicts_with m mode ≡ false → conflicts_with (against rule forest txn u m) mode ≡ false
fewer rule forest txn u m mode no_way = by_over (over_in forest u txn)
  where
    first : (a b : Bool) → (a || b) ≡ false → a ≡ false
    first true b e = e
    first false b e = refl

    nothing_more : (a : Bool) → (a || false) ≡ a
    nothing_more true = refl
    nothing_more false = refl

    held : (k : Mode) → conflicts_with m k ≡ false → conflicts_with (held_of m) k ≡ false
    held ReadMode e = nothing_more m.write_held ∙ first m.write_held m.write_retained e
    held WriteMode e = by_marks m.read_held m.read_retained m.write_held m.write_retained e
      where
        by_marks : (a b c d : Bool) → (a || b || c || d) ≡ false → (a || false || c || false) ≡ false
        by_marks true b c d e = e
        by_marks false true c d e = absurd (false≢true (sym e))
        by_marks false false true d e = e
        by_marks false false false d e = refl

    none : (k : Mode) → conflicts_with no_marks k ≡ false
    none ReadMode = refl
    none WriteMode = refl

    by_rule : (b : Bool) → conflicts_with (cond b (held_of m) no_marks) mode ≡ false
    by_rule true = held mode no_way
    by_rule false = none mode

    by_over : (b : Bool) → conflicts_with (cond b (cond (is_strict rule && not (u == txn)) (held_of m) no_marks) m) mode ≡ false
    by_over true = by_rule (is_strict rule && not (u == txn))
    by_over false = no_way

-- Of a list of some of the owners of a cell, among them all whose locks conflict: it tells who is
-- in the way.
module _ (rule : Rule) (forest : Transactions) (txn : ℕ) (list : List OwnerLocks) (owners : Owners) (mode : Mode)
    (all : (u : ℕ) (m : LockModes) → finite.get owners u ≡ Some m → conflicts_with m mode ≡ true → marks_in list u ≡ Some m)
    (had : (u : ℕ) (m : LockModes) → marks_in list u ≡ Some m → finite.get owners u ≡ Some m) (apart : AreApart list) where
  abbrev those : Counted
  those = against rule forest txn

  pub ahead_is : (u : ℕ) → is_listed_in_way those list mode u ≡ is_in_way those u (finite.get owners u) mode
  ahead_is u = listed_is those list apart mode u ∙ by_marks (finite.get owners u) refl (marks_in list u) refl
    where
      by_way : (m : LockModes) → finite.get owners u ≡ Some m → (b : Bool) → conflicts_with m mode ≡ b → (o : Option LockModes) → marks_in list u ≡ o → is_in_way those u o mode ≡ conflicts_with (those u m) mode
      by_way m e true way o is = ap (λ k. is_in_way those u k mode) (sym is ∙ all u m e way)
      by_way m e false way None is = sym (fewer rule forest txn u m mode way)
      by_way m e false way (Some k) is = ap (λ k. is_in_way those u k mode) (sym (had u k is) ∙ e)

      by_marks : (o : Option LockModes) → finite.get owners u ≡ o → (k : Option LockModes) → marks_in list u ≡ k → is_in_way those u k mode ≡ is_in_way those u o mode
      by_marks None e None is = refl
      by_marks None e (Some k) is = absurd (false≢true (ap is_some (sym e ∙ had u k is)))
      by_marks (Some m) e k is = by_way m e (conflicts_with m mode) refl k is

-- What counts of one owner.

-- of another than txn and its ancestors, all
pub foreign-way : (rule : Rule) (forest : Transactions) (txn u : ℕ) (x : LockModes) (mode : Mode) → over_in forest u txn ≡ false → conflicts_with (against rule forest txn u x) mode ≡ conflicts_with x mode
foreign-way rule forest txn u x mode foreign = ap (λ b. conflicts_with (cond b (cond (is_strict rule && not (u == txn)) (held_of x) no_marks) x) mode) foreign

-- of txn and its ancestors, what a rule says of these
pub over-way : (rule : Rule) (forest : Transactions) (txn u : ℕ) (x : LockModes) (mode : Mode) → over_in forest u txn ≡ true → conflicts_with (against rule forest txn u x) mode ≡ ((is_strict rule && not (u == txn)) && conflicts_with (held_of x) mode)
over-way rule forest txn u x mode over =
    ap (λ b. conflicts_with (cond b (cond (is_strict rule && not (u == txn)) (held_of x) no_marks) x) mode) over ∙ some (is_strict rule && not (u == txn)) mode
  where
    some : (b : Bool) (m : Mode) → conflicts_with (cond b (held_of x) no_marks) m ≡ (b && conflicts_with (held_of x) m)
    some true m = refl
    some false ReadMode = refl
    some false WriteMode = refl

-- nothing counts where nothing conflicts
pub no-way : (rule : Rule) (forest : Transactions) (txn u : ℕ) (x : LockModes) (mode : Mode) → conflicts_with x mode ≡ false → conflicts_with (against rule forest txn u x) mode ≡ false
no-way rule forest txn u x mode none = by_over (over_in forest u txn) (is_strict rule && not (u == txn)) mode none
  where
    fewer_read : (a b : Bool) → (a || b) ≡ false → (a || false) ≡ false
    fewer_read true b e = absurd (false≢true (sym e))
    fewer_read false b e = refl

    fewer_write : (a b c d : Bool) → (a || b || c || d) ≡ false → (a || false || c || false) ≡ false
    fewer_write true b c d e = absurd (false≢true (sym e))
    fewer_write false true c d e = absurd (false≢true (sym e))
    fewer_write false false true d e = absurd (false≢true (sym e))
    fewer_write false false false d e = refl

    by_over : (o s : Bool) (m : Mode) → conflicts_with x m ≡ false → conflicts_with (cond o (cond s (held_of x) no_marks) x) m ≡ false
    by_over false s m e = e
    by_over true false ReadMode e = refl
    by_over true false WriteMode e = refl
    by_over true true ReadMode e = fewer_read x.write_held x.write_retained e
    by_over true true WriteMode e = fewer_write x.read_held x.read_retained x.write_held x.write_retained e

-- one of the four
counted_mark : (o s e : Bool) (x : LockModes) (m : Mode) (kind : LockKind) → has_mark (cond o (cond (s && not e) (held_of x) no_marks) x) m kind ≡ (has_mark x m kind && (not o || (s && is_held kind && not e)))
counted_mark false s e x m kind = sym (and_true (has_mark x m kind))
  where
    and_true : (b : Bool) → (b && true) ≡ b
    and_true true = refl
    and_true false = refl
counted_mark true s e x m kind = by_test s e m kind
  where
    and_true : (b : Bool) → (b && true) ≡ b
    and_true true = refl
    and_true false = refl

    and_false : (b : Bool) → (b && false) ≡ false
    and_false true = refl
    and_false false = refl

    none : (n : Mode) (k : LockKind) → has_mark no_marks n k ≡ false
    none ReadMode Held = refl
    none ReadMode Retained = refl
    none WriteMode Held = refl
    none WriteMode Retained = refl

    by_test : (s e : Bool) (n : Mode) (k : LockKind) → has_mark (cond (s && not e) (held_of x) no_marks) n k ≡ (has_mark x n k && (s && is_held k && not e))
    by_test false e n k = none n k ∙ sym (and_false (has_mark x n k))
    by_test true true n Held = none n Held ∙ sym (and_false (has_mark x n Held))
    by_test true true n Retained = none n Retained ∙ sym (and_false (has_mark x n Retained))
    by_test true false ReadMode Held = sym (and_true x.read_held)
    by_test true false WriteMode Held = sym (and_true x.write_held)
    by_test true false ReadMode Retained = sym (and_false x.read_retained)
    by_test true false WriteMode Retained = sym (and_false x.write_retained)

-- The names of a directory's entries are those of its cells in the table.
place_in_way : (counted : Counted) (u : ℕ) (o : Option LockModes) (mode : Mode) → is_in_way counted u o mode ≡ true → is_some o ≡ true
place_in_way counted u None mode e = absurd (false≢true e)
place_in_way counted u (Some x) mode e = refl

or-true : (b : Bool) → (b || true) ≡ true
or-true true = refl
or-true false = refl

some_one : {A : Type 0} (p : A → Bool) (xs : List A) → list_any p xs ≡ true → (x : A) × (p x ≡ true)
some_one {A = A} p [] e = absurd (false≢true e)
some_one {A = A} p (x ∷ xs) e = by_head (p x) refl e (some_one p xs)
  where
    by_head : (b : Bool) → p x ≡ b → (b || list_any p xs) ≡ true → (list_any p xs ≡ true → (y : A) × (p y ≡ true)) → (y : A) × (p y ≡ true)
    by_head true h e more = (x, h)
    by_head false h e more = more e

-- what passes at one that the list has by a test that tells it apart
passes_at : {A : Type 0} (p same : A → Bool) (x : A) → ((y : A) → same y ≡ true → x ≡ y) → p x ≡ true → (xs : List A) → list_any same xs ≡ true → list_any p xs ≡ true
passes_at {A = A} p same x exact h [] e = absurd (false≢true e)
passes_at {A = A} p same x exact h (y ∷ ys) e = by_head (same y) refl e (passes_at p same x exact h ys)
  where
    by_head : (b : Bool) → same y ≡ b → (b || list_any same ys) ≡ true → (list_any same ys ≡ true → list_any p ys ≡ true) → (p y || list_any p ys) ≡ true
    by_head true t e more = ap (λ b. b || list_any p ys) (ap p (sym (exact y t)) ∙ h)
    by_head false t e more = ap (λ b. p y || b) (more e) ∙ or-true (p y)

among_keys : (m : Cells) (c : Cell) → is_some (finite.get m c) ≡ true → list_any (same_cell c) (finite.keys m) ≡ true
among_keys m c e = sym (finite.contains_key-keys m c) ∙ e

module _ (counted : Counted) where
  in_keys : (m : Cells) (c : Cell) (mode : Mode) (u : ℕ) → way counted m c mode u ≡ true → is_some (finite.get m c) ≡ true
  in_keys m c mode u e = finite.contains_key-keys m c ∙ cell_among m c u (place_in_way counted u (marks_at m c u) mode e)

  entry_is : (m : Cells) (d : ℕ) (mode : Mode) (u : ℕ) (c : Cell) → (is_entry_of d c && way counted m c mode u) ≡ true → (n : List ℕ) × (c ≡ Entry (entry_at d n)) × (way counted m c mode u ≡ true)
  entry_is m d mode u (Entry entry) both = by_dir (d == entry.dir) refl (way counted m (Entry entry) mode u) refl both
    where
      by_dir : (a : Bool) → (d == entry.dir) ≡ a → (b : Bool) → way counted m (Entry entry) mode u ≡ b → (a && b) ≡ true → (k : List ℕ) × (Entry entry ≡ Entry (entry_at d k)) × (way counted m (Entry entry) mode u ≡ true)
      by_dir true h b w both = (entry.name, ap (λ x. Entry (entry_at x entry.name)) (sym (eqb-true d entry.dir h)), w ∙ both)
      by_dir false h b w both = absurd (false≢true both)
  entry_is m d mode u (Names e) both = absurd (false≢true both)
  entry_is m d mode u (Parent e) both = absurd (false≢true both)
  entry_is m d mode u (Links i) both = absurd (false≢true both)
  entry_is m d mode u (Bytes i) both = absurd (false≢true both)
  entry_is m d mode u (Fd f) both = absurd (false≢true both)
  entry_is m d mode u (DirAttributes e) both = absurd (false≢true both)
  entry_is m d mode u (FileAttributes i) both = absurd (false≢true both)

  -- an owner's locks on the cell under a key are in the way
  abbrev pub way_under : Keyed → ℕ → Mode → ℕ → Bool
  way_under k key mode u = is_holder_in_way counted (holders_under k key) mode u

  way_known : (k : Keyed) (key : ℕ) (c : Cell) → finite.get k.at key ≡ Some c → (mode : Mode) (u : ℕ) → way_under k key mode u ≡ way counted k.cells c mode u
  way_known k key c is mode u = ap (λ o. is_holder_in_way counted (holders_of k.cells o) mode u) is

  some_in : (p : ℕ → Bool) (keys : List ℕ) → list_any p keys ≡ true → (key : ℕ) × In key keys × (p key ≡ true)
  some_in p [] e = absurd (false≢true e)
  some_in p (x ∷ xs) e = by_head (p x) refl e (some_in p xs)
    where
      by_head : (b : Bool) → p x ≡ b → (b || list_any p xs) ≡ true → (list_any p xs ≡ true → (key : ℕ) × In key xs × (p key ≡ true)) → (key : ℕ) × In key (x ∷ xs) × (p key ≡ true)
      by_head true is e later = (x, inl refl, is)
      by_head false is e later = let found = later e in (found.0, inr found.1, found.2)

  in_some : (p : ℕ → Bool) (keys : List ℕ) (key : ℕ) → In key keys → p key ≡ true → list_any p keys ≡ true
  in_some p [] key i e = absurd i
  in_some p (x ∷ xs) key (inl is) e = ap (λ b. b || list_any p xs) (ap p (sym is) ∙ e)
  in_some p (x ∷ xs) key (inr i) e = ap (λ b. p x || b) (in_some p xs key i e) ∙ or_true (p x)
    where
      or_true : (b : Bool) → (b || true) ≡ true
      or_true true = refl
      or_true false = refl

  -- the keys of a directory's entries show who is in the way there
  pub entries_are : (k : Keyed) (d : ℕ) (keys : List ℕ) → AreEntriesOf k d keys → (mode : Mode) (u : ℕ) → list_any (λ key. way_under k key mode u) keys ≡ beside counted k.cells (Names d) mode u
  entries_are k d keys are mode u = same_truth _ _
      (λ e.
      let one = some_in (λ key. way_under k key mode u) keys e in
      let entry = are.each one.0 one.1 in
      let here = sym (way_known k one.0 entry.0 entry.1 mode u) ∙ one.2 in
      passes_at (λ c. is_entry_of d c && way counted k.cells c mode u) (same_cell entry.0) entry.0 (λ c t. same_cell-is entry.0 c t)
      (λ j. entry.2 j && here j) (finite.keys k.cells) (among_keys k.cells entry.0 (in_keys k.cells entry.0 mode u here)))
      (λ e.
      let one = some_one (λ c. is_entry_of d c && way counted k.cells c mode u) (finite.keys k.cells) e in
      let both = and_parts (is_entry_of d one.0) (way counted k.cells one.0 mode u) one.1 in
      let key = are.all one.0 (in_keys k.cells one.0 mode u both.1) both.0 in
      in_some (λ j. way_under k j mode u) keys key.0 key.2 (way_known k key.0 one.0 key.1 mode u ∙ both.1))

-- Who is in the way owns a conflicting lock.
marks_in_way : (x : LockModes) (mode : Mode) → conflicts_with x mode ≡ true → (m : Mode) × (kind : LockKind) × (has_mark x m kind ≡ true) × ((is_write m || is_write mode) ≡ true)
marks_in_way x ReadMode e = by_two x.write_held x.write_retained refl refl e
  where
    by_two : (a b : Bool) → x.write_held ≡ a → x.write_retained ≡ b → (a || b) ≡ true → (m : Mode) × (kind : LockKind) × (has_mark x m kind ≡ true) × ((is_write m || false) ≡ true)
    by_two true b p q e = (WriteMode, Held, p, refl)
    by_two false true p q e = (WriteMode, Retained, q, refl)
    by_two false false p q e = absurd (false≢true e)
marks_in_way x WriteMode e = let one = mark_one x e in (one.0, one.1, one.2, or-true (is_write one.0))

way_of_mark : (x : LockModes) (m mode : Mode) (kind : LockKind) → has_mark x m kind ≡ true → (is_write m || is_write mode) ≡ true → conflicts_with x mode ≡ true
way_of_mark x ReadMode ReadMode kind has writes = absurd (false≢true writes)
way_of_mark x WriteMode ReadMode Held has writes = ap (λ b. b || x.write_retained) has
way_of_mark x WriteMode ReadMode Retained has writes = ap (λ b. x.write_held || b) has ∙ or-true x.write_held
way_of_mark x ReadMode WriteMode kind has writes = one_mark x ReadMode kind has
way_of_mark x WriteMode WriteMode kind has writes = one_mark x WriteMode kind has

both_of : (a b : Bool) → (a && b) ≡ true → (a ≡ true) × (b ≡ true)
both_of true b e = (refl, e)
both_of false b e = absurd (false≢true e)

overlaps_itself : (c : Cell) → overlap c c ≡ true
overlaps_itself (Entry entry) = (eq_by_cmp_equiv cell_cmp_total).refl (Entry entry)
overlaps_itself (Names d) = (eq_by_cmp_equiv cell_cmp_total).refl (Names d)
overlaps_itself (Parent d) = (eq_by_cmp_equiv cell_cmp_total).refl (Parent d)
overlaps_itself (Links i) = (eq_by_cmp_equiv cell_cmp_total).refl (Links i)
overlaps_itself (Bytes i) = (eq_by_cmp_equiv cell_cmp_total).refl (Bytes i)
overlaps_itself (Fd f) = (eq_by_cmp_equiv cell_cmp_total).refl (Fd f)
overlaps_itself (DirAttributes d) = (eq_by_cmp_equiv cell_cmp_total).refl (DirAttributes d)
overlaps_itself (FileAttributes i) = (eq_by_cmp_equiv cell_cmp_total).refl (FileAttributes i)

module _ (counted : Counted) where
  -- a cell that overlaps the access's, on which somebody is in its way
  pub record InWay (m : Cells) (a : Access) (u : ℕ) : Type 0 where
    pub cell : Cell
    pub overlaps : overlap cell a.cell ≡ true
    pub there : way counted m cell a.mode u ≡ true

  pub blocks_in_way : (m : Cells) (a : Access) (u : ℕ) → blocks counted m a u ≡ true → InWay m a u
  blocks_in_way m a u e = by_part (or_cases (way counted m a.cell a.mode u) (beside counted m a.cell a.mode u) e)
    where
      by_kind : (k : Cell) → a.cell ≡ k → beside counted m k a.mode u ≡ true → InWay m a u
      by_kind (Entry entry) is e = record { cell = Names entry.dir; overlaps = ap (overlap (Names entry.dir)) is ∙ itself entry.dir; there = e }
      by_kind (Names d) is e =
          let one = some_one (λ c. is_entry_of d c && way counted m c a.mode u) (finite.keys m) e in
          let entry = entry_is counted m d a.mode u one.0 one.1 in
          record { cell = Entry (entry_at d entry.0); overlaps = ap (overlap (Entry (entry_at d entry.0))) is ∙ itself d; there = ap (λ c. way counted m c a.mode u) (sym entry.1) ∙ entry.2 }
      by_kind (Parent d) is e = absurd (false≢true e)
      by_kind (Links i) is e = absurd (false≢true e)
      by_kind (Bytes i) is e = absurd (false≢true e)
      by_kind (Fd f) is e = absurd (false≢true e)
      by_kind (DirAttributes d) is e = absurd (false≢true e)
      by_kind (FileAttributes i) is e = absurd (false≢true e)

      by_part : (way counted m a.cell a.mode u ≡ true) ⊎ (beside counted m a.cell a.mode u ≡ true) → InWay m a u
      by_part (inl h) = record { cell = a.cell; overlaps = overlaps_itself a.cell; there = h }
      by_part (inr h) = by_kind a.cell refl h

-- the ways in which two cells overlap
data Overlaps (c k : Cell) : Type 0 where
  same : c ≡ k → Overlaps c k
  in_dir : (d : ℕ) (n : List ℕ) → c ≡ Entry (entry_at d n) → k ≡ Names d → Overlaps c k
  has_in : (d : ℕ) (n : List ℕ) → c ≡ Names d → k ≡ Entry (entry_at d n) → Overlaps c k

overlap_is : (c k : Cell) → overlap c k ≡ true → Overlaps c k
overlap_is (Entry entry) (Names e) h = in_dir entry.dir entry.name refl (ap (λ x. Names x) (sym (eqb-true entry.dir e h)))
overlap_is (Entry entry) (Entry other) h = same (same_cell-is (Entry entry) (Entry other) h)
overlap_is (Entry entry) (Parent e) h = same (same_cell-is (Entry entry) (Parent e) h)
overlap_is (Entry entry) (Links i) h = same (same_cell-is (Entry entry) (Links i) h)
overlap_is (Entry entry) (Bytes i) h = same (same_cell-is (Entry entry) (Bytes i) h)
overlap_is (Entry entry) (Fd f) h = same (same_cell-is (Entry entry) (Fd f) h)
overlap_is (Entry entry) (DirAttributes d) h = same (same_cell-is (Entry entry) (DirAttributes d) h)
overlap_is (Entry entry) (FileAttributes i) h = same (same_cell-is (Entry entry) (FileAttributes i) h)
overlap_is (Names d) (Entry entry) h = has_in d entry.name refl (ap (λ x. Entry (entry_at x entry.name)) (sym (eqb-true d entry.dir h)))
overlap_is (Names d) (Names e) h = same (same_cell-is (Names d) (Names e) h)
overlap_is (Names d) (Parent e) h = same (same_cell-is (Names d) (Parent e) h)
overlap_is (Names d) (Links i) h = same (same_cell-is (Names d) (Links i) h)
overlap_is (Names d) (Bytes i) h = same (same_cell-is (Names d) (Bytes i) h)
overlap_is (Names d) (Fd f) h = same (same_cell-is (Names d) (Fd f) h)
overlap_is (Names d) (DirAttributes e) h = same (same_cell-is (Names d) (DirAttributes e) h)
overlap_is (Names d) (FileAttributes i) h = same (same_cell-is (Names d) (FileAttributes i) h)
overlap_is (Parent d) k h = same (same_cell-is (Parent d) k h)
overlap_is (Links i) k h = same (same_cell-is (Links i) k h)
overlap_is (Bytes i) k h = same (same_cell-is (Bytes i) k h)
overlap_is (Fd f) k h = same (same_cell-is (Fd f) k h)
overlap_is (DirAttributes d) k h = same (same_cell-is (DirAttributes d) k h)
overlap_is (FileAttributes i) k h = same (same_cell-is (FileAttributes i) k h)

module _ (counted : Counted) where
  in_way_blocks : (m : Cells) (a : Access) (u : ℕ) → InWay counted m a u → blocks counted m a u ≡ true
  in_way_blocks m a u i = by_overlap (overlap_is i.cell a.cell i.overlaps)
    where
      by_overlap : Overlaps i.cell a.cell → blocks counted m a u ≡ true
      by_overlap (same e) = or_left (way counted m a.cell a.mode u) (beside counted m a.cell a.mode u) (ap (λ c. way counted m c a.mode u) (sym e) ∙ i.there)
      by_overlap (in_dir d n e k) =
          let here = ap (λ c. way counted m c a.mode u) (sym e) ∙ i.there in
          or_right (way counted m a.cell a.mode u) (beside counted m a.cell a.mode u) (ap (λ c. beside counted m c a.mode u) k
          ∙ passes_at (λ c. is_entry_of d c && way counted m c a.mode u) (same_cell (Entry (entry_at d n))) (Entry (entry_at d n)) (λ c t. same_cell-is (Entry (entry_at d n)) c t)
          (λ j. itself d j && here j) (finite.keys m) (among_keys m (Entry (entry_at d n)) (in_keys counted m (Entry (entry_at d n)) a.mode u here)))
      by_overlap (has_in d n e k) = or_right (way counted m a.cell a.mode u) (beside counted m a.cell a.mode u) (ap (λ c. beside counted m c a.mode u) k ∙ ap (λ c. way counted m c a.mode u) (sym e) ∙ i.there)

-- By a rule, who is in the way owns a lock that conflicts and counts.
module _ (rule : Rule) (forest : Transactions) (txn : ℕ) where
  abbrev mine : Counted
  mine = against rule forest txn

  pub conflicting : (m : Cells) (a : Access) (u : ℕ) → InWay mine m a u → (l : LockLine) × (has_line m l ≡ true) × (l.owner ≡ u) × (conflict (line_access l) a ≡ true) × (counts rule forest txn l ≡ true)
  conflicting m a u i = by_marks (marks_at m i.cell u) refl i.there
    where
      by_marks : (o : Option LockModes) → marks_at m i.cell u ≡ o → is_in_way mine u o a.mode ≡ true → (l : LockLine) × (has_line m l ≡ true) × (l.owner ≡ u) × (conflict (line_access l) a ≡ true) × (counts rule forest txn l ≡ true)
      by_marks None is e = absurd (false≢true e)
      by_marks (Some x) is e =
          let one = marks_in_way (mine u x) a.mode e in
          let l : LockLine = line i.cell u one.0 one.1 in
          let both = both_of (has_mark x one.0 one.1) (counts rule forest txn l) (sym (counted_mark (over_in forest u txn) (is_strict rule) (u == txn) x one.0 one.1) ∙ one.2) in
          (l, ap (λ o. has_mark_of o l) is ∙ both.0, refl, (λ j. i.overlaps j && one.3 j), both.1)

  in_way_of : (m : Cells) (a : Access) (u : ℕ) (l : LockLine) → has_line m l ≡ true → l.owner ≡ u → conflict (line_access l) a ≡ true → counts rule forest txn l ≡ true → InWay mine m a u
  in_way_of m a u l there owner conflicts counted =
      let both = both_of (overlap l.cell a.cell) (is_write l.mode || is_write a.mode) conflicts in
      record { cell = l.cell; overlaps = both.0; there = by_marks (marks_at m l.cell u) (ap (λ v. has_mark_of (marks_at m l.cell v) l) (sym owner) ∙ there) both.1 }
    where
      by_marks : (o : Option LockModes) → has_mark_of o l ≡ true → (is_write l.mode || is_write a.mode) ≡ true → is_in_way mine u o a.mode ≡ true
      by_marks None e writes = absurd (false≢true e)
      by_marks (Some x) e writes = way_of_mark (mine u x) l.mode a.mode l.kind
          (counted_mark (over_in forest u txn) (is_strict rule) (u == txn) x l.mode l.kind
          ∙ (λ j. e j && ((λ k. not (over_in forest (sym owner k) txn) || (is_strict rule && is_held l.kind && not (sym owner k == txn))) ∙ counted) j)) writes

-- In a list of numbers.
in_any : (y : ℕ) (ks : List ℕ) → In y ks → list_any (eq_by_cmp nat_cmp y) ks ≡ true
in_any y [] h = elim h [ ]
in_any y (k ∷ ks) (inl e) = or_left (eq_by_cmp nat_cmp y k) _ (ap (eq_by_cmp nat_cmp y) (sym e) ∙ (eq_by_cmp_equiv nat_cmp_total).refl y)
in_any y (k ∷ ks) (inr e) = or_right (eq_by_cmp nat_cmp y k) _ (in_any y ks e)

any_in : (y : ℕ) (ks : List ℕ) → list_any (eq_by_cmp nat_cmp y) ks ≡ true → In y ks
any_in y [] e = absurd (false≢true e)
any_in y (k ∷ ks) e = by_head (or_cases (eq_by_cmp nat_cmp y k) (list_any (eq_by_cmp nat_cmp y) ks) e) (any_in y ks)
  where
    by_head : (eq_by_cmp nat_cmp y k ≡ true) ⊎ (list_any (eq_by_cmp nat_cmp y) ks ≡ true) → (list_any (eq_by_cmp nat_cmp y) ks ≡ true → In y ks) → (y ≡ k) ⊎ In y ks
    by_head (inl h) more = inl (eqb-true y k (sym (unsigned_tied y k) ∙ h))
    by_head (inr h) more = inr (more h)

first_of : (a b : Bool) → T (a && b) → T a × T b
first_of true b h = (tt, h)
first_of false b h = absurd h

less_of : (x y : ℕ) → T (is_lt (nat_cmp x y)) → x < y
less_of x y h = by_order (nat_cmp x y) refl h
  where
    by_order : (r : Ordering) → r ≡ nat_cmp x y → T (is_lt r) → x < y
    by_order Less e h = ranked x y Less e
    by_order Equal e h = absurd h
    by_order Greater e h = absurd h

rising_keys : (es : List (ℕ × Unit {0})) → T (finite.is_sorted nat_cmp es) → Pairs (λ x y. x < y) (map (λ e. e.0) es)
rising_keys [] h = tt
rising_keys (e ∷ es) h = let parts = first_of (below_all nat_cmp e.0 es) (finite.is_sorted nat_cmp es) h in (below e.0 es parts.0, rising_keys es parts.1)
  where
    below : (x : ℕ) (fs : List (ℕ × Unit {0})) → T (below_all nat_cmp x fs) → Each (λ y. x < y) (map (λ f. f.0) fs)
    below x [] h = tt
    below x (f ∷ fs) h = let parts = first_of (is_lt (nat_cmp x f.0)) (below_all nat_cmp x fs) h in (less_of x f.0 parts.0, below x fs parts.1)

module _ (rule : Rule) (forest : Transactions) (txn : ℕ) (t : LockTable) (m : Cells) (lists : Lists Cell) (is : table_of m lists ≡ t) where
  abbrev its : Counted
  its = against rule forest txn

  blocking_owns : (xs : List Access) (u : ℕ) → list_any (λ a. blocks its m a u) xs ≡ true → IsInTheWay rule t forest txn xs u
  blocking_owns [] u e = absurd (false≢true e)
  blocking_owns (a ∷ xs) u e = by_head (or_cases (blocks its m a u) (list_any (λ x. blocks its m x u) xs) e) (blocking_owns xs u)
    where
      by_head : (blocks its m a u ≡ true) ⊎ (list_any (λ x. blocks its m x u) xs ≡ true) → (list_any (λ x. blocks its m x u) xs ≡ true → IsInTheWay rule t forest txn xs u) → IsInTheWay rule t forest txn (a ∷ xs) u
      by_head (inl h) more =
          let one = conflicting rule forest txn m a u (blocks_in_way its m a u h) in
          record { line = one.0; there = sym (ap (λ x. has_lock x one.0) is) ∙ lines-seen m lists one.0 ∙ one.1; owner = one.2; conflicts = or_left (conflict (line_access one.0) a) _ one.3; counted = one.4 }
      by_head (inr h) more =
          let rest = more h in
          record { line = rest.line; there = rest.there; owner = rest.owner; conflicts = or_right (conflict (line_access rest.line) a) _ rest.conflicts; counted = rest.counted }

  owns_blocking : (xs : List Access) (u : ℕ) (l : LockLine) → has_line m l ≡ true → l.owner ≡ u → counts rule forest txn l ≡ true → list_any (λ a. conflict (line_access l) a) xs ≡ true → list_any (λ a. blocks its m a u) xs ≡ true
  owns_blocking [] u l there owner counted e = absurd (false≢true e)
  owns_blocking (a ∷ xs) u l there owner counted e = by_head (or_cases (conflict (line_access l) a) (list_any (λ x. conflict (line_access l) x) xs) e) (owns_blocking xs u l there owner counted)
    where
      by_head : (conflict (line_access l) a ≡ true) ⊎ (list_any (λ x. conflict (line_access l) x) xs ≡ true) → (list_any (λ x. conflict (line_access l) x) xs ≡ true → list_any (λ x. blocks its m x u) xs ≡ true)
          → (blocks its m a u || list_any (λ x. blocks its m x u) xs) ≡ true
      by_head (inl h) more = or_left (blocks its m a u) _ (in_way_blocks its m a u (in_way_of rule forest txn m a u l there owner h counted))
      by_head (inr h) more = or_right (blocks its m a u) _ (more h)

  -- those who are noted are the blockers
  pub are_blockers : (xs : List Access) (found : Found) → ((u : ℕ) → finite.contains_key found u ≡ list_any (λ a. blocks its m a u) xs) → AreBlockers rule t forest txn xs (finite.keys found)
  are_blockers xs found is_found = record {
    rising = rising_keys (finite.entries found) (finite.entries_sorted found);
    sound = λ y among. blocking_owns xs y (sym (is_found y) ∙ finite.contains_key-keys found y ∙ in_any y (finite.keys found) among);
    all = λ y owns.
        any_in y (finite.keys found) (sym (finite.contains_key-keys found y) ∙ is_found y
        ∙ owns_blocking xs y owns.line (sym (lines-seen m lists owns.line) ∙ ap (λ x. has_lock x owns.line) is ∙ owns.there) owns.owner owns.counted owns.conflicts);
  }

-- One key more of those whose holders are noted.
pub noted_more : (x : Bool) (p : ℕ → Bool) (keys : List ℕ) (i : ℕ) → i < length keys → ((x || list_any p (take i keys)) || p (get_or keys i 0)) ≡ (x || list_any p (take (i + 1) keys))
noted_more x p keys i within =
    grouped x (list_any p (take i keys)) (p (get_or keys i 0))
    ∙ ap (λ b. x || b) (sym (ap (list_any p) (take_more keys i 0 within) ∙ list_any-append p (take i keys) (get_or keys i 0 ∷ [])))
  where
    grouped : (x a b : Bool) → ((x || a) || b) ≡ (x || (a || (b || false)))
    grouped true a b = refl
    grouped false true b = refl
    grouped false false true = refl
    grouped false false false = refl

pub noted_none : (x : Bool) → x ≡ (x || false)
noted_none true = refl
noted_none false = refl

-- the same in the table of cells
pub noted_all : (counted : Counted) (k : Keyed) (m : Cells) → k.cells ≡ m → (d : ℕ) (keys : List ℕ) → AreEntriesOf k d keys → (mode : Mode) (u : ℕ) → list_any (λ key. way_under counted k key mode u) keys ≡ beside counted m (Names d) mode u
noted_all counted k m is d keys are mode u = entries_are counted k d keys are mode u ∙ ap (λ n. beside counted n (Names d) mode u) is
