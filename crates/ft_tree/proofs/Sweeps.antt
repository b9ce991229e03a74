-- A sweep: what is let go is taken one by one, and what is of no use goes.
use Rattle.std.proofs.Common.{◌≡◌, ◌<◌, ◌+◌, ◌-◌, zero, suc, min, arith, zero-add, ◌∷◌, Ordering, eqb-true, ℕ, Bool, true, false, cond, not, ◌&&◌, ◌||◌, ◌==◌, List, [], Option, Some, None, IsSome, is_some, unwrap_or, nat_lt, refl, sym, ap, subst, ◌∙◌}
use Rattle.std.proofs.lemmas.Bool.{false≢true}
use Rattle.std.specs.Ordering.{nat_cmp, eq_by_cmp}
use Rattle.std.specs.Cmp.{IsTotalOrder, nat_cmp_total}
use Rattle.std.specs.Cmp.Lexicographic.{slice_cmp, nat_list_cmp_total}
use Rattle.std.specs.Option.{option_map_or}
use Rattle.std.specs.FinMap.{FinMap, get, insert, remove, entries, len, contains_key, get-empty, len-remove}
use Rattle.std.specs.FinSet as set
use Rattle.std.proofs.lemmas.Map.Lookups.{exact_unsigned}
use Rattle.ft_cells.specs.Entries.{entry_at}
use Rattle.ft_cells.specs.declared.node.Node.{Node}
use Rattle.ft_cells.specs.declared.cell.Cell.{Cell}
use Rattle.ft_cells.specs.declared.cell.Cell.TheVariants.{Entry, Names, Parent, Links, Bytes, Fd, DirAttributes, FileAttributes}
use Rattle.ft_cells.specs.CellOrder.{cell_cmp, cell_cmp_total, cell_cmp_exact}
use Rattle.ft_cells.specs.Cells.{Cells, DirCells, no_dir, dir_of, entry_of, parent_of, dir_attributes_of, is_there, has_dir, links_of, put_dir, without_dir_place}
use Rattle.ft_tree.specs.Held.{without_place}
use Rattle.ft_cells.specs.Plain.{view_in}
use Rattle.ft_tree.specs.Tidy.{tidy}
use Rattle.ft_tree.specs.Sound.{IsTree, AreSoundCells}
use Rattle.ft_tree.specs.Sweep.{at_place, is_spare, one_if, drop_spare, swept_at, dropped_at, places_of_dirs, places_in, IsSwept, IsSweptClean, IsAccounted, HasNoneToDrop, ReleasedCells}
use Rattle.ft_cells.proofs.Splits.{by_test, by_option, unlike, both-left, both-right, both-of, none-right, not-of, tied-is, tied-itself}
use Rattle.ft_cells.proofs.MapViews.{some_len}
use Rattle.ft_cells.proofs.Gathered.{weight, weight-insert, weight-remove}
use Rattle.ft_open_files.proofs.Opened.{described-open}
use Rattle.ft_tree.proofs.Swept.{swept-none, swept-then, same_dirs, spare-before, swept-file, gone-file, swept-fd, gone-fd, swept-dir, gone-dir, dir-same, swept-entry, gone-entry, dir-other}
use Rattle.ft_tree.proofs.SweptTidy.{tidy-file, tidy-fd, tidy-dir, tidy-entry}

-- the entries of a directory
abbrev entries_in : Cells → ℕ → FinMap (slice_cmp nat_cmp) (Option Node)
entries_in cells d = (dir_of cells d).entries

-- One place.

module _ (kept : Cell → Bool) where
  -- what is so where the place goes, and where it stays, is so
  by_spare : (P : Cells → Type 0) (cells : Cells) (c : Cell) → (is_spare kept cells c ≡ true → P (without_place cells c)) → (is_spare kept cells c ≡ false → P cells) → P (drop_spare kept cells c)
  by_spare P cells c goes stays = by_test (is_spare kept cells c)
      (λ t. subst P (sym (ap (λ b. cond b (without_place cells c) cells) t)) (goes t))
      (λ f. subst P (sym (ap (λ b. cond b (without_place cells c) cells) f)) (stays f))

  -- the place of an entry is in a stored directory
  by_entry : (P : Cells → Type 0) (cells : Cells) (d : ℕ) (name : List ℕ) → is_spare kept cells (Entry (entry_at d name)) ≡ true
      → ((x : DirCells) → get cells.directories d ≡ Some x → P (without_place cells (Entry (entry_at d name)))) → P (without_place cells (Entry (entry_at d name)))
  by_entry P cells d name spare there = by_option (get cells.directories d)
      (λ n. unlike (both-left (contains_key (dir_of cells d).entries name) _ (both-left _ (not (kept (Entry (entry_at d name)))) spare))
      (ap (λ o. is_some (get (unwrap_or o no_dir).entries name)) n ∙ ap is_some (get-empty (slice_cmp nat_cmp) name)))
      there

  entry-out : (P : Cells → Type 0) (cells : Cells) (d : ℕ) (name : List ℕ) (x : DirCells) → get cells.directories d ≡ Some x
      → P (put_dir cells d (without_dir_place x name)) → P (without_place cells (Entry (entry_at d name)))
  entry-out P cells d name x is p =
      subst (λ o. P (option_map_or (λ y. put_dir cells d (without_dir_place y name)) o cells)) (sym is) p

  module _ (cells : Cells) where
    file-swept : (i : ℕ) → IsSwept kept cells (drop_spare kept cells (Links i))
    file-swept i = by_spare (IsSwept kept cells) cells (Links i) (swept-file kept cells i) (λ f. swept-none kept cells)

    fd-swept : (f : ℕ) → IsSwept kept cells (drop_spare kept cells (Fd f))
    fd-swept f = by_spare (IsSwept kept cells) cells (Fd f) (swept-fd kept cells f) (λ n. swept-none kept cells)

    dir-swept : (d : ℕ) → IsSwept kept cells (drop_spare kept cells (Parent d))
    dir-swept d = by_spare (IsSwept kept cells) cells (Parent d) (swept-dir kept cells d) (λ n. swept-none kept cells)

    entry-swept : (d : ℕ) (name : List ℕ) → IsSwept kept cells (drop_spare kept cells (Entry (entry_at d name)))
    entry-swept d name = by_spare (IsSwept kept cells) cells (Entry (entry_at d name))
        (λ t. by_entry (IsSwept kept cells) cells d name t (λ x is. entry-out (IsSwept kept cells) cells d name x is (swept-entry kept cells d name x is t)))
        (λ n. swept-none kept cells)

    file-gone : (i : ℕ) → is_spare kept (drop_spare kept cells (Links i)) (Links i) ≡ false
    file-gone i = by_spare (λ new. is_spare kept new (Links i) ≡ false) cells (Links i) (gone-file kept cells i) (λ f. f)

    fd-gone : (f : ℕ) → is_spare kept (drop_spare kept cells (Fd f)) (Fd f) ≡ false
    fd-gone f = by_spare (λ new. is_spare kept new (Fd f) ≡ false) cells (Fd f) (gone-fd kept cells f) (λ n. n)

    dir-gone : (d : ℕ) → is_spare kept (drop_spare kept cells (Parent d)) (Parent d) ≡ false
    dir-gone d = by_spare (λ new. is_spare kept new (Parent d) ≡ false) cells (Parent d) (gone-dir kept cells d) (λ n. n)

    entry-gone : (d : ℕ) (name : List ℕ) → is_spare kept (drop_spare kept cells (Entry (entry_at d name))) (Entry (entry_at d name)) ≡ false
    entry-gone d name = by_spare (λ new. is_spare kept new (Entry (entry_at d name)) ≡ false) cells (Entry (entry_at d name))
        (λ t. by_entry (λ new. is_spare kept new (Entry (entry_at d name)) ≡ false) cells d name t (λ x is. entry-out (λ new. is_spare kept new (Entry (entry_at d name)) ≡ false) cells d name x is (gone-entry kept cells d name x is t)))
        (λ n. n)

    file-dirs : (i e : ℕ) → entries_in (drop_spare kept cells (Links i)) e ≡ entries_in cells e
    file-dirs i e = by_spare (λ new. entries_in new e ≡ entries_in cells e) cells (Links i) (λ t. refl) (λ f. refl)

    fd-dirs : (f e : ℕ) → entries_in (drop_spare kept cells (Fd f)) e ≡ entries_in cells e
    fd-dirs f e = by_spare (λ new. entries_in new e ≡ entries_in cells e) cells (Fd f) (λ t. refl) (λ n. refl)

    dir-dirs : (d e : ℕ) → entries_in (drop_spare kept cells (Parent d)) e ≡ entries_in cells e
    dir-dirs d e = by_spare (λ new. entries_in new e ≡ entries_in cells e) cells (Parent d) (λ t. dir-same kept cells d t e) (λ n. refl)

    entry-dirs : (d : ℕ) (name : List ℕ) (e : ℕ) → eq_by_cmp nat_cmp e d ≡ false → entries_in (drop_spare kept cells (Entry (entry_at d name))) e ≡ entries_in cells e
    entry-dirs d name e other = by_spare (λ new. entries_in new e ≡ entries_in cells e) cells (Entry (entry_at d name))
        (λ t. by_entry (λ new. entries_in new e ≡ entries_in cells e) cells d name t (λ x is. entry-out (λ new. entries_in new e ≡ entries_in cells e) cells d name x is (ap (λ (y : DirCells). y.entries) (dir-other kept cells d name x is t e other))))
        (λ n. refl)

    file-tidy : (i : ℕ) → tidy (drop_spare kept cells (Links i)) ≡ tidy cells
    file-tidy i = by_spare (λ new. tidy new ≡ tidy cells) cells (Links i) (tidy-file kept cells i) (λ f. refl)

    fd-tidy : (f : ℕ) → tidy (drop_spare kept cells (Fd f)) ≡ tidy cells
    fd-tidy f = by_spare (λ new. tidy new ≡ tidy cells) cells (Fd f) (tidy-fd kept cells f) (λ n. refl)

    dir-tidy : (d : ℕ) → tidy (drop_spare kept cells (Parent d)) ≡ tidy cells
    dir-tidy d = by_spare (λ new. tidy new ≡ tidy cells) cells (Parent d) (tidy-dir kept cells d) (λ n. refl)

    entry-tidy : (d : ℕ) (name : List ℕ) → tidy (drop_spare kept cells (Entry (entry_at d name))) ≡ tidy cells
    entry-tidy d name = by_spare (λ new. tidy new ≡ tidy cells) cells (Entry (entry_at d name))
        (λ t. by_entry (λ new. tidy new ≡ tidy cells) cells d name t (λ x is. entry-out (λ new. tidy new ≡ tidy cells) cells d name x is (tidy-entry kept cells d name x is t)))
        (λ n. refl)

  -- One cell.

  pub at-swept : (cells : Cells) (c : Cell) → IsSwept kept cells (swept_at kept cells c)
  at-swept cells (Entry entry) = swept-then kept cells (drop_spare kept cells (Entry entry)) _ (entry-swept cells entry.dir entry.name) (dir-swept (drop_spare kept cells (Entry entry)) entry.dir)
  at-swept cells (Names d) = dir-swept cells d
  at-swept cells (Parent d) = dir-swept cells d
  at-swept cells (Links i) = file-swept cells i
  at-swept cells (Bytes i) = file-swept cells i
  at-swept cells (Fd f) = fd-swept cells f
  at-swept cells (DirAttributes d) = dir-swept cells d
  at-swept cells (FileAttributes i) = file-swept cells i

  pub at-tidy : (cells : Cells) (c : Cell) → tidy (swept_at kept cells c) ≡ tidy cells
  at-tidy cells (Entry entry) = dir-tidy (drop_spare kept cells (Entry entry)) entry.dir ∙ entry-tidy cells entry.dir entry.name
  at-tidy cells (Names d) = dir-tidy cells d
  at-tidy cells (Parent d) = dir-tidy cells d
  at-tidy cells (Links i) = file-tidy cells i
  at-tidy cells (Bytes i) = file-tidy cells i
  at-tidy cells (Fd f) = fd-tidy cells f
  at-tidy cells (DirAttributes d) = dir-tidy cells d
  at-tidy cells (FileAttributes i) = file-tidy cells i

  -- what is to drop where a directory may have gone was to drop before
  dir-back : (cells : Cells) (d : ℕ) (q : Cell) → is_spare kept (drop_spare kept cells (Parent d)) q ≡ true → is_spare kept cells q ≡ true
  dir-back cells d q s = spare-before kept cells _ (dir-swept cells d) q (same_dirs kept cells (drop_spare kept cells (Parent d)) (dir-dirs cells d) q) s

  dir-other_back : (cells : Cells) (d : ℕ) (name : List ℕ) (e : ℕ)
      → is_spare kept (swept_at kept cells (Entry (entry_at d name))) (Parent e) ≡ true → is_spare kept cells (Parent e) ≡ true
  dir-other_back cells d name e s =
      let mid = drop_spare kept cells (Entry (entry_at d name)) in
      by_test (eq_by_cmp nat_cmp e d)
      (λ t. unlike (ap (λ x. is_spare kept (drop_spare kept mid (Parent d)) (Parent x)) (sym (tied-is exact_unsigned e d t)) ∙ s) (dir-gone mid d))
      (λ f. spare-before kept cells mid (entry-swept cells d name) (Parent e) (entry-dirs cells d name e f) (dir-back mid d (Parent e) s))

  entry-back : (cells : Cells) (d : ℕ) (name : List ℕ) (q : Cell) → is_spare kept (swept_at kept cells (Entry (entry_at d name))) q ≡ true → is_spare kept cells q ≡ true
  entry-back cells d name (Entry entry) s = spare-before kept cells _ (entry-swept cells d name) (Entry entry) tt (dir-back (drop_spare kept cells (Entry (entry_at d name))) d (Entry entry) s)
  entry-back cells d name (Names e) s = dir-other_back cells d name e s
  entry-back cells d name (Parent e) s = dir-other_back cells d name e s
  entry-back cells d name (Links i) s = spare-before kept cells _ (entry-swept cells d name) (Links i) tt (dir-back (drop_spare kept cells (Entry (entry_at d name))) d (Links i) s)
  entry-back cells d name (Bytes i) s = spare-before kept cells _ (entry-swept cells d name) (Bytes i) tt (dir-back (drop_spare kept cells (Entry (entry_at d name))) d (Bytes i) s)
  entry-back cells d name (DirAttributes e) s = dir-other_back cells d name e s
  entry-back cells d name (FileAttributes i) s = spare-before kept cells _ (entry-swept cells d name) (FileAttributes i) tt (dir-back (drop_spare kept cells (Entry (entry_at d name))) d (FileAttributes i) s)
  entry-back cells d name (Fd f) s = spare-before kept cells _ (entry-swept cells d name) (Fd f) tt (dir-back (drop_spare kept cells (Entry (entry_at d name))) d (Fd f) s)

  file-back : (cells : Cells) (i : ℕ) (q : Cell) → is_spare kept (drop_spare kept cells (Links i)) q ≡ true → is_spare kept cells q ≡ true
  file-back cells i q s = spare-before kept cells _ (file-swept cells i) q (same_dirs kept cells (drop_spare kept cells (Links i)) (file-dirs cells i) q) s

  fd-back : (cells : Cells) (f : ℕ) (q : Cell) → is_spare kept (drop_spare kept cells (Fd f)) q ≡ true → is_spare kept cells q ≡ true
  fd-back cells f q s = spare-before kept cells _ (fd-swept cells f) q (same_dirs kept cells (drop_spare kept cells (Fd f)) (fd-dirs cells f) q) s

  -- nothing to drop comes
  pub at-back : (cells : Cells) (c q : Cell) → is_spare kept (swept_at kept cells c) q ≡ true → is_spare kept cells q ≡ true
  at-back cells (Entry entry) q s = entry-back cells entry.dir entry.name q s
  at-back cells (Names d) q s = dir-back cells d q s
  at-back cells (Parent d) q s = dir-back cells d q s
  at-back cells (Links i) q s = file-back cells i q s
  at-back cells (Bytes i) q s = file-back cells i q s
  at-back cells (Fd f) q s = fd-back cells f q s
  at-back cells (DirAttributes d) q s = dir-back cells d q s
  at-back cells (FileAttributes i) q s = file-back cells i q s

  entry-at : (cells : Cells) (d : ℕ) (name : List ℕ) → is_spare kept (swept_at kept cells (Entry (entry_at d name))) (Entry (entry_at d name)) ≡ false
  entry-at cells d name = by_test (is_spare kept (swept_at kept cells (Entry (entry_at d name))) (Entry (entry_at d name)))
      (λ t. unlike (dir-back (drop_spare kept cells (Entry (entry_at d name))) d (Entry (entry_at d name)) t) (entry-gone cells d name))
      (λ f. f)

  -- and at the cell nothing is left to drop
  pub at-gone : (cells : Cells) (c : Cell) → is_spare kept (swept_at kept cells c) c ≡ false
  at-gone cells (Entry entry) = entry-at cells entry.dir entry.name
  at-gone cells (Names d) = dir-gone cells d
  at-gone cells (Parent d) = dir-gone cells d
  at-gone cells (Links i) = file-gone cells i
  at-gone cells (Bytes i) = file-gone cells i
  at-gone cells (Fd f) = fd-gone cells f
  at-gone cells (DirAttributes d) = dir-gone cells d
  at-gone cells (FileAttributes i) = file-gone cells i

  -- All that is let go.

  -- How far a sweep has come: of what was let go at first, this is left to take.
  pub record IsSweeping (first left : ReleasedCells) (old now : Cells) : Type 0 where
    pub swept : IsSwept kept old now
    pub plain : tidy now ≡ tidy old
    pub told : (c : Cell) → set.contains first c ≡ true → set.contains left c ≡ false → is_spare kept now c ≡ false
    pub others : (c : Cell) → is_spare kept now c ≡ true → is_spare kept old c ≡ true

  pub sweeping-first : (first : ReleasedCells) (cells : Cells) → IsSweeping first first cells cells
  sweeping-first first cells = record {
    swept = swept-none kept cells;
    plain = refl;
    told = λ c t f. unlike t f;
    others = λ c s. s;
  }

  pub sweeping-next : (first left : ReleasedCells) (old now : Cells) (c : Cell) → IsSweeping first left old now → IsSweeping first (set.remove left c) old (swept_at kept now c)
  sweeping-next first left old now c h = record {
    swept = swept-then kept old now (swept_at kept now c) h.swept (at-swept now c);
    plain = at-tidy now c ∙ h.plain;
    told = λ q was out. by_test (set.contains left q)
        (λ t. by_test (eq_by_cmp cell_cmp q c)
        (λ same. subst (λ x. is_spare kept (swept_at kept now c) x ≡ false) (sym (tied-is cell_cmp_exact q c same)) (at-gone now c))
        (λ other. unlike (set.contains-remove cell_cmp_total left c q ∙ both-of _ _ (not-of _ other) t) out))
        (λ f. by_test (is_spare kept (swept_at kept now c) q) (λ s. unlike (at-back now c q s) (h.told q was f)) (λ n. n));
    others = λ q s. h.others q (at-back now c q s);
  }

  -- of one place, nothing is to be dropped at any of its cells
  clean : (first : ReleasedCells) (old now : Cells) → IsSweeping first set.empty old now → (c : Cell) → set.contains first c ≡ true → is_spare kept now c ≡ false
  clean first old now h c was = h.told c was (set.contains-empty cell_cmp c)

  one-of : (a b : Bool) {P : Type 0} → (a ≡ true → P) → (b ≡ true → P) → (a || b) ≡ true → P
  one-of true b l r h = l refl
  one-of false b l r h = r h

  -- of three, one was let go
  one-of_three : (first : ReleasedCells) (old now : Cells) → IsSweeping first set.empty old now → {P : Type 0} (a b c : Cell)
      → (is_spare kept now a ≡ false → P) → (is_spare kept now b ≡ false → P) → (is_spare kept now c ≡ false → P)
      → (set.contains first a || set.contains first b || set.contains first c) ≡ true → P
  one-of_three first old now h a b c f g k was =
      one-of (set.contains first a || set.contains first b) (set.contains first c)
      (one-of (set.contains first a) (set.contains first b) (λ t. f (clean first old now h a t)) (λ t. g (clean first old now h b t)))
      (λ t. k (clean first old now h c t)) was

  clean-place : (first : ReleasedCells) (old now : Cells) → IsSweeping first set.empty old now → (c : Cell) → at_place (set.contains first) c ≡ true → is_spare kept now c ≡ false
  clean-place first old now h (Entry entry) was = clean first old now h (Entry entry) was
  clean-place first old now h (Names d) was = one-of_three first old now h (Names d) (Parent d) (DirAttributes d) (λ f. f) (λ f. f) (λ f. f) was
  clean-place first old now h (Parent d) was = one-of_three first old now h (Names d) (Parent d) (DirAttributes d) (λ f. f) (λ f. f) (λ f. f) was
  clean-place first old now h (DirAttributes d) was = one-of_three first old now h (Names d) (Parent d) (DirAttributes d) (λ f. f) (λ f. f) (λ f. f) was
  clean-place first old now h (Links i) was = one-of_three first old now h (Links i) (Bytes i) (FileAttributes i) (λ f. f) (λ f. f) (λ f. f) was
  clean-place first old now h (Bytes i) was = one-of_three first old now h (Links i) (Bytes i) (FileAttributes i) (λ f. f) (λ f. f) (λ f. f) was
  clean-place first old now h (FileAttributes i) was = one-of_three first old now h (Links i) (Bytes i) (FileAttributes i) (λ f. f) (λ f. f) (λ f. f) was
  clean-place first old now h (Fd f) was = clean first old now h (Fd f) was

  pub sweeping-clean : (first : ReleasedCells) (old now : Cells) → IsSweeping first set.empty old now → IsSweptClean kept (set.contains first) old now
  sweeping-clean first old now h = record { told = clean-place first old now h; others = h.others }

  -- where each place to drop was told, none is left
  pub clean-none_left : (released_cells : Cell → Bool) (old new : Cells) → IsSweptClean kept released_cells old new → IsAccounted kept released_cells old → HasNoneToDrop kept new
  clean-none_left released_cells old new h all c = by_test (is_spare kept new c)
      (λ t. unlike t (h.told c (all c (h.others c t))))
      (λ f. f)

  -- Sound cells stay so.
  root-there : (o : Option DirCells) → IsSome o → option_map_or (is_there 1) o false ≡ true
  root-there None h = absurd (false≢true h)
  root-there (Some x) h = refl

  there-root : (o : Option DirCells) → option_map_or (is_there 1) o false ≡ true → IsSome o
  there-root None h = absurd (false≢true h)
  there-root (Some x) h = refl

  -- what a directory had where it is not stored
  none-stored : (cells : Cells) (d : ℕ) → contains_key cells.directories d ≡ false → dir_attributes_of cells d ≡ None
  none-stored cells d n = by_option (get cells.directories d)
      (λ none. ap (λ o. (unwrap_or o no_dir).attributes) none)
      (λ x is. unlike (ap is_some is) n)

  no_value : {A : Type 0} (o : Option A) (x : A) → o ≡ None → o ≡ Some x → ⊥
  no_value o x h g = cc

  there-some : (cells : Cells) (d : ℕ) → has_dir cells d ≡ true → contains_key cells.directories d ≡ true
  there-some cells d h = by_option (get cells.directories d)
      (λ none. unlike (sym (ap (λ o. option_map_or (is_there d) o false) none) ∙ h) refl)
      (λ x is. ap is_some is)

  -- of sound cells a sweep leaves all attributes of directories
  pub swept-dir_attributes : (old new : Cells) → IsSwept kept old new → AreSoundCells old → (d : ℕ) → dir_attributes_of new d ≡ dir_attributes_of old d
  swept-dir_attributes old new h s d = by_test (contains_key new.directories d)
      (λ t. h.dir_attributes d t)
      (λ f. none-stored new d f ∙ sym (by_option (dir_attributes_of old d)
      (λ none. none)
      (λ a is. unlike (there-some new d (h.dirs d ∙ s.attributes d a is)) f)))

  pub sound-swept : (old new : Cells) → IsSwept kept old new → tidy new ≡ tidy old → AreSoundCells old → AreSoundCells new
  sound-swept old new h plain s =
      let entries : entry_of old ≡ entry_of new = λ i d name. sym (h.entries d name) i in
      let parents : parent_of old ≡ parent_of new = λ i d. sym (h.parents d) i in
      record {
        root_is = there-root (get new.directories 1) (h.dirs 1 ∙ root-there (get old.directories 1) s.root_is);
        tree = subst (λ (f : ℕ → List ℕ → Option Node). IsTree f (parent_of new)) entries (subst (λ (f : ℕ → Option ℕ). IsTree (entry_of old) f) parents s.tree);
        links = λ i. h.links i ∙ s.links i ∙ ap (λ p. view_in p (Links i)) (sym plain);
        opens = λ f o is.
            let was = s.opens f o (sym (h.opens f) ∙ is) in
            let place : contains_key new.files o.file ≡ true =
            by_test (contains_key new.files o.file) (λ t. t) (λ n.
            unlike (described-open old.opens f o (sym (h.opens f) ∙ is)) (none-right (nat_lt 0 (links_of old o.file)) _ (h.files o.file (both-of _ _ was.0 (not-of _ n))).dead)) in
            (place, (was.1.0, h.parents o.file ∙ was.1.1));
        attributes = λ d a is. h.dirs d ∙ s.attributes d a (sym (swept-dir_attributes old new h s d) ∙ is);
      }

pub sweeping-step : (kept now_kept : Cell → Bool) (first left rest : ReleasedCells) (old now new : Cells) (c : Cell) → IsSweeping kept first left old now → now_kept ≡ kept → rest ≡ set.remove left c → new ≡ swept_at now_kept now c → IsSweeping kept first rest old new
sweeping-step kept now_kept first left rest old now new c h same taken is =
    subst (λ (p : ReleasedCells × Cells). IsSweeping kept first p.0 old p.1) (λ i. (sym taken i, sym (is ∙ ap (λ k. swept_at k now c) same) i)) (sweeping-next kept first left old now c h)

-- what was taken out makes it smaller
pub smaller_set : (s t : ReleasedCells) (c : Cell) → t ≡ set.remove s c → set.contains s c ≡ true → set.len t < set.len s
smaller_set s t c is there =
    subst (λ n. n < set.len s) (sym (ap set.len is ∙ set.len-remove cell_cmp_total s c ∙ ap (λ b. cond b (set.len s - 1) (set.len s)) there)) (less (set.len s) (by_test (set.len s == 0)
    (λ t. unlike there (ap (λ x. set.contains x c) (set.empty_of_len s (eqb-true (set.len s) 0 t)) ∙ set.contains-empty cell_cmp c))
    (λ f. f)))
  where
    less : (n : ℕ) → (n == 0) ≡ false → n - 1 < n
    less zero h = unlike refl h
    less (suc n) h = omega arith

-- How many places went.

-- as many as were counted, where there are fewer than the largest number
pub counted-more : (top n r sum old now new : ℕ) → sum ≡ min (n + r) top → (old < top → old ≡ n + now) → now ≡ r + new → old < top → old ≡ sum + new
counted-more top n r sum old now new is were gone h =
    let o : old ≡ n + now = were h in
    let few : n + r < top = omega arith in
    let all : sum ≡ n + r = least (n + r) top sum is few in
    omega arith
  where
    least : (a b s : ℕ) → s ≡ min a b → a < b → s ≡ a
    least a b s is h = omega arith

one_less : (n a : ℕ) → (n == 0) ≡ false → a ≡ n - 1 → n ≡ 1 + a
one_less zero a h is = unlike refl h
one_less (suc n) a h is = omega arith

module _ {K X : Type 0} {R : K → K → Ordering} (o : IsTotalOrder R) where
  len-less : (m : FinMap R X) (k : K) → contains_key m k ≡ true → len m ≡ 1 + len (remove m k)
  len-less m k there = one_less (len m) _ (some_len o m k true there) (len-remove o m k ∙ ap (λ b. cond b (len m - 1) (len m)) there)

-- the places of one directory
abbrev weight_of : DirCells → ℕ
weight_of x = 1 + len x.entries

dirs-weight : (es : List (ℕ × DirCells)) → places_of_dirs es ≡ weight nat_cmp_total exact_unsigned weight_of es
dirs-weight [] = refl
dirs-weight (e ∷ es) = ap (λ n. (1 + len e.1.entries) + n) (dirs-weight es)

module _ (kept : Cell → Bool) where
  module _ (cells : Cells) where
    file-count : (i : ℕ) → is_spare kept cells (Links i) ≡ true → places_in cells ≡ 1 + places_in (without_place cells (Links i))
    file-count i t = ap (λ n. places_of_dirs (entries cells.directories) + n + len cells.opens) (len-less nat_cmp_total cells.files i (both-left (contains_key cells.files i) _ (both-left _ (not (at_place kept (Links i))) t))) ∙ out (places_of_dirs (entries cells.directories)) (len (remove cells.files i)) (len cells.opens)
      where
        out : (a b c : ℕ) → a + (1 + b) + c ≡ 1 + (a + b + c)
        out a b c = omega arith

    fd-count : (f : ℕ) → is_spare kept cells (Fd f) ≡ true → places_in cells ≡ 1 + places_in (without_place cells (Fd f))
    fd-count f t = ap (λ n. places_of_dirs (entries cells.directories) + len cells.files + n) (len-less nat_cmp_total cells.opens f (both-left (contains_key cells.opens f) _ (both-left _ (not (kept (Fd f))) t))) ∙ out (places_of_dirs (entries cells.directories) + len cells.files) (len (remove cells.opens f))
      where
        out : (a b : ℕ) → a + (1 + b) ≡ 1 + (a + b)
        out a b = omega arith

    dirs-out : (a b c d : ℕ) → a ≡ 1 + b → a + c + d ≡ 1 + (b + c + d)
    dirs-out a b c d e = omega arith

    dir-count : (d : ℕ) → is_spare kept cells (Parent d) ≡ true → places_in cells ≡ 1 + places_in (without_place cells (Parent d))
    dir-count d t = by_option (get cells.directories d)
        (λ n. unlike (both-left (contains_key cells.directories d) _ (both-left _ _ (both-left _ (not (at_place kept (Parent d))) t))) (ap is_some n))
        (λ x is.
        let none : len x.entries ≡ 0 = ap (λ o. len (unwrap_or o no_dir).entries) (sym is) ∙ eqb-true (len (dir_of cells d).entries) 0 (both-right (contains_key cells.directories d && not (has_dir cells d)) _ (both-left _ (not (at_place kept (Parent d))) t)) in
        let less = weight-remove nat_cmp_total exact_unsigned weight_of cells.directories d (tied-itself nat_cmp_total d) in
        dirs-out (places_of_dirs (entries cells.directories)) (places_of_dirs (entries (remove cells.directories d))) (len cells.files) (len cells.opens)
        (dirs-weight (entries cells.directories) ∙ sym less
        ∙ ap (λ o. option_map_or weight_of o 0 + weight nat_cmp_total exact_unsigned weight_of (entries (remove cells.directories d))) is
        ∙ ap (λ n. (1 + n) + weight nat_cmp_total exact_unsigned weight_of (entries (remove cells.directories d))) none
        ∙ ap (λ n. 1 + n) (sym (dirs-weight (entries (remove cells.directories d))))))

    entry-count : (d : ℕ) (name : List ℕ) (x : DirCells) → get cells.directories d ≡ Some x → is_spare kept cells (Entry (entry_at d name)) ≡ true → places_in cells ≡ 1 + places_in (put_dir cells d (without_dir_place x name))
    entry-count d name x is t =
        let there : contains_key x.entries name ≡ true = ap (λ o. contains_key (unwrap_or o no_dir).entries name) (sym is) ∙ both-left (contains_key (dir_of cells d).entries name) _ (both-left _ (not (kept (Entry (entry_at d name)))) t) in
        let less = without_dir_place x name in
        dirs-out (places_of_dirs (entries cells.directories)) (places_of_dirs (entries (insert cells.directories d less))) (len cells.files) (len cells.opens)
        (dirs-weight (entries cells.directories)
        ∙ one_of_it (len x.entries) (len less.entries) (weight nat_cmp_total exact_unsigned weight_of (entries (insert cells.directories d less))) (weight nat_cmp_total exact_unsigned weight_of (entries cells.directories))
        (len-less nat_list_cmp_total x.entries name there)
        (ap (λ o. option_map_or weight_of o 0 + weight nat_cmp_total exact_unsigned weight_of (entries (insert cells.directories d less))) (sym is) ∙ weight-insert nat_cmp_total exact_unsigned weight_of cells.directories d less)
        ∙ ap (λ n. 1 + n) (sym (dirs-weight (entries (insert cells.directories d less)))))
      where
        one_of_it : (n m b a : ℕ) → n ≡ 1 + m → (1 + n) + b ≡ (1 + m) + a → a ≡ 1 + b
        one_of_it n m b a e h = omega arith

    counted-drop : (c : Cell) → (is_spare kept cells c ≡ true → places_in cells ≡ 1 + places_in (without_place cells c)) → places_in cells ≡ one_if (is_spare kept cells c) + places_in (drop_spare kept cells c)
    counted-drop c goes = by_test (is_spare kept cells c)
        (λ t. goes t ∙ sym (ap (λ b. one_if b + places_in (cond b (without_place cells c) cells)) t))
        (λ f. sym (zero-add _) ∙ sym (ap (λ b. one_if b + places_in (cond b (without_place cells c) cells)) f))

    drop-file : (i : ℕ) → places_in cells ≡ one_if (is_spare kept cells (Links i)) + places_in (drop_spare kept cells (Links i))
    drop-file i = counted-drop (Links i) (file-count i)

    drop-fd : (f : ℕ) → places_in cells ≡ one_if (is_spare kept cells (Fd f)) + places_in (drop_spare kept cells (Fd f))
    drop-fd f = counted-drop (Fd f) (fd-count f)

    drop-dir : (d : ℕ) → places_in cells ≡ one_if (is_spare kept cells (Parent d)) + places_in (drop_spare kept cells (Parent d))
    drop-dir d = counted-drop (Parent d) (dir-count d)

    drop-entry : (d : ℕ) (name : List ℕ) → places_in cells ≡ one_if (is_spare kept cells (Entry (entry_at d name))) + places_in (drop_spare kept cells (Entry (entry_at d name)))
    drop-entry d name = counted-drop (Entry (entry_at d name))
        (λ t. by_entry kept (λ new. places_in cells ≡ 1 + places_in new) cells d name t (λ x is. entry-out kept (λ new. places_in cells ≡ 1 + places_in new) cells d name x is (entry-count d name x is t)))

  two : (a b c d e : ℕ) → a ≡ b + c → c ≡ d + e → a ≡ (b + d) + e
  two a b c d e h g = omega arith

  pub at-count : (cells : Cells) (c : Cell) → places_in cells ≡ dropped_at kept cells c + places_in (swept_at kept cells c)
  at-count cells (Entry entry) = two (places_in cells) (one_if (is_spare kept cells (Entry entry))) (places_in (drop_spare kept cells (Entry entry))) _ _ (drop-entry cells entry.dir entry.name) (drop-dir (drop_spare kept cells (Entry entry)) entry.dir)
  at-count cells (Names d) = drop-dir cells d
  at-count cells (Parent d) = drop-dir cells d
  at-count cells (Links i) = drop-file cells i
  at-count cells (Bytes i) = drop-file cells i
  at-count cells (Fd f) = drop-fd cells f
  at-count cells (DirAttributes d) = drop-dir cells d
  at-count cells (FileAttributes i) = drop-file cells i
