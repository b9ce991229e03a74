-- What is left of the cells where the place of one of them is dropped.
use Rattle.std.proofs.Common.{◌≡◌, ℕ, zero, suc, Bool, true, false, cond, not, ◌&&◌, ◌||◌, ◌==◌, List, Option, Some, None, IsSome, is_some, is_none, unwrap_or, nat_lt, lt-ltb, arith, eqb-true, refl, sym, ap, subst, ◌∙◌}
use Rattle.std.proofs.lemmas.Bool.{false≢true}
use Rattle.std.specs.Ordering.{nat_cmp, eq_by_cmp}
use Rattle.std.specs.Cmp.{nat_cmp_total}
use Rattle.std.specs.Cmp.Lexicographic.{slice_cmp, nat_list_cmp_total}
use Rattle.std.specs.Option.{option_flatten, option_map_or}
use Rattle.std.specs.FinMap.{get, remove, empty, len, contains_key, get-remove, get-insert, empty_of_len}
use Rattle.std.proofs.lemmas.Map.Lookups.{exact_unsigned, exact_bytes}
use Rattle.ft_cells.specs.Entries.{entry_at}
use Rattle.ft_cells.specs.declared.node.Node.{Node}
use Rattle.ft_cells.specs.declared.open_file.OpenFile.{OpenFile}
use Rattle.ft_cells.specs.declared.cell.Cell.{Cell}
use Rattle.ft_cells.specs.declared.cell.Cell.TheVariants.{Entry, Names, Parent, Links, Bytes, Fd, DirAttributes, FileAttributes}
use Rattle.ft_cells.specs.Cells.{Cells, DirCells, no_dir, no_file, dir_entry, dir_of, entry_of, links_of, open_of, is_there, has_dir, has_file, is_open, without_dir_place, put_dir}
use Rattle.ft_tree.specs.Held.{IsStored}
use Rattle.ft_tree.specs.Sweep.{is_useless, at_place, is_spare, IsDeadFile, IsSwept}
use Rattle.ft_cells.proofs.Splits.{by_test, by_option, unlike, both-left, both-right, both-of, none-left, none-right, not-true, not-of, tied-is, tied-itself}
use Rattle.ft_open_files.proofs.Opened.{is_open-remove}

zero-of : (n : ℕ) → nat_lt 0 n ≡ false → 0 ≡ n
zero-of zero h = refl
zero-of (suc n) h = unlike (lt-ltb 0 (suc n) (omega arith)) h

module _ (kept : Cell → Bool) where
  pub swept-none : (cells : Cells) → IsSwept kept cells cells
  swept-none cells = record {
    limits = refl;
    entries = λ d name. refl;
    parents = λ d. refl;
    links = λ i. refl;
    opens = λ f. refl;
    contents = λ i h. refl;
    dir_attributes = λ d h. refl;
    file_attributes = λ i h. refl;
    files = λ i h. unlike (both-left _ _ h) (not-true _ (both-right _ _ h));
    dirs = λ d. refl;
    named = λ i. refl;
    places = λ c k s. s;
    none_new = λ c s. s;
  }

  -- one after the other
  pub swept-then : (a b c : Cells) → IsSwept kept a b → IsSwept kept b c → IsSwept kept a c
  swept-then a b c h g = record {
    limits = g.limits ∙ h.limits;
    entries = λ d name. g.entries d name ∙ h.entries d name;
    parents = λ d. g.parents d ∙ h.parents d;
    links = λ i. g.links i ∙ h.links i;
    opens = λ f. g.opens f ∙ h.opens f;
    contents = λ i s. g.contents i s ∙ h.contents i (g.none_new (Links i) s);
    dir_attributes = λ d s. g.dir_attributes d s ∙ h.dir_attributes d (g.none_new (Names d) s);
    file_attributes = λ i s. g.file_attributes i s ∙ h.file_attributes i (g.none_new (Links i) s);
    files = λ i gone. by_test (contains_key b.files i)
        (λ t. let dead = g.files i (both-of _ _ t (both-right _ _ gone)) in record { dead = sym (h.named i) ∙ dead.dead; links = dead.links; bytes = dead.bytes; attributes = dead.attributes })
        (λ f. h.files i (both-of _ _ (both-left _ _ gone) (not-of _ f)));
    dirs = λ d. g.dirs d ∙ h.dirs d;
    named = λ i. g.named i ∙ h.named i;
    places = λ x k s. g.places x k (h.places x k s);
    none_new = λ x s. h.none_new x (g.none_new x s);
  }

  -- the entries of the directory of a cell, where it is one's, are the same
  abbrev pub SameDir : Cells → Cells → Cell → Type 0
  SameDir old new (Entry entry) = Unit {0}
  SameDir old new (Names d) = (dir_of new d).entries ≡ (dir_of old d).entries
  SameDir old new (Parent d) = (dir_of new d).entries ≡ (dir_of old d).entries
  SameDir old new (Links i) = Unit {0}
  SameDir old new (Bytes i) = Unit {0}
  SameDir old new (Fd f) = Unit {0}
  SameDir old new (DirAttributes d) = (dir_of new d).entries ≡ (dir_of old d).entries
  SameDir old new (FileAttributes i) = Unit {0}

  pub same_dirs : (old new : Cells) → ((d : ℕ) → (dir_of new d).entries ≡ (dir_of old d).entries) → (c : Cell) → SameDir old new c
  same_dirs old new same (Entry entry) = tt
  same_dirs old new same (Names d) = same d
  same_dirs old new same (Parent d) = same d
  same_dirs old new same (Links i) = tt
  same_dirs old new same (Bytes i) = tt
  same_dirs old new same (Fd f) = tt
  same_dirs old new same (DirAttributes d) = same d
  same_dirs old new same (FileAttributes i) = tt

  -- nothing comes to be of no use, but for a directory that has less places
  dir-before : (old new : Cells) → IsSwept kept old new → (d : ℕ) → (dir_of new d).entries ≡ (dir_of old d).entries → is_useless new (Names d) ≡ true → is_useless old (Names d) ≡ true
  dir-before old new h d same u =
      both-of _ _ (both-of _ _ (h.none_new (Names d) (both-left _ _ (both-left _ _ u))) (ap not (sym (h.dirs d)) ∙ both-right _ _ (both-left _ _ u))) (ap (λ m. len m == 0) (sym same) ∙ both-right _ _ u)

  file-before : (old new : Cells) → IsSwept kept old new → (i : ℕ) → is_useless new (Links i) ≡ true → is_useless old (Links i) ≡ true
  file-before old new h i u = both-of _ _ (h.none_new (Links i) (both-left _ _ u)) (ap not (sym (h.named i)) ∙ both-right _ _ u)

  useless-before : (old new : Cells) → IsSwept kept old new → (c : Cell) → SameDir old new c → is_useless new c ≡ true → is_useless old c ≡ true
  useless-before old new h (Entry entry) same u = both-of _ _ (h.none_new (Entry entry) (both-left _ _ u)) (ap is_none (sym (h.entries entry.dir entry.name)) ∙ both-right _ _ u)
  useless-before old new h (Names d) same u = dir-before old new h d same u
  useless-before old new h (Parent d) same u = dir-before old new h d same u
  useless-before old new h (Links i) same u = file-before old new h i u
  useless-before old new h (Bytes i) same u = file-before old new h i u
  useless-before old new h (DirAttributes d) same u = dir-before old new h d same u
  useless-before old new h (FileAttributes i) same u = file-before old new h i u
  useless-before old new h (Fd f) same u = both-of _ _ (h.none_new (Fd f) (both-left _ _ u)) (ap is_none (sym (h.opens f)) ∙ both-right _ _ u)

  pub spare-before : (old new : Cells) → IsSwept kept old new → (c : Cell) → SameDir old new c → is_spare kept new c ≡ true → is_spare kept old c ≡ true
  spare-before old new h c same s = both-of _ _ (useless-before old new h c same (both-left _ _ s)) (both-right _ _ s)

  -- A file.
  module _ (cells : Cells) (i : ℕ) (spare : is_spare kept cells (Links i) ≡ true) where
    abbrev no_file_left : Cells
    no_file_left = record cells { files = remove cells.files i }

    dead : has_file cells i ≡ false
    dead = not-true _ (both-right _ _ (both-left _ _ spare))

    free-file : at_place kept (Links i) ≡ false
    free-file = not-true _ (both-right _ _ spare)

    free-links : kept (Links i) ≡ false
    free-links = none-left _ _ (none-left _ _ free-file)

    free-bytes : kept (Bytes i) ≡ false
    free-bytes = none-right (kept (Links i)) _ (none-left _ _ free-file)

    free-attributes : kept (FileAttributes i) ≡ false
    free-attributes = none-right (kept (Links i) || kept (Bytes i)) _ free-file

    file-at : (j : ℕ) → get (remove cells.files i) j ≡ cond (eq_by_cmp nat_cmp j i) None (get cells.files j)
    file-at j = get-remove nat_cmp_total cells.files i j

    file-here : (j : ℕ) → eq_by_cmp nat_cmp j i ≡ true → get (remove cells.files i) j ≡ None
    file-here j t = file-at j ∙ ap (λ b. cond b None (get cells.files j)) t

    file-there : (j : ℕ) → eq_by_cmp nat_cmp j i ≡ false → get (remove cells.files i) j ≡ get cells.files j
    file-there j f = file-at j ∙ ap (λ b. cond b None (get cells.files j)) f

    file-links : (j : ℕ) → links_of no_file_left j ≡ links_of cells j
    file-links j = by_test (eq_by_cmp nat_cmp j i)
        (λ t. ap (λ o. (unwrap_or o no_file).links) (file-here j t) ∙ zero-of (links_of cells i) (none-left _ _ dead) ∙ ap (links_of cells) (sym (tied-is exact_unsigned j i t)))
        (λ f. ap (λ o. (unwrap_or o no_file).links) (file-there j f))

    stays-links : (j : ℕ) → kept (Links j) ≡ true → IsSome (get cells.files j) → IsSome (get (remove cells.files i) j)
    stays-links j k s = by_test (eq_by_cmp nat_cmp j i)
        (λ t. unlike k (ap (λ x. kept (Links x)) (tied-is exact_unsigned j i t) ∙ free-links))
        (λ f. subst IsSome (sym (file-there j f)) s)

    stays-bytes : (j : ℕ) → kept (Bytes j) ≡ true → IsSome (get cells.files j) → IsSome (get (remove cells.files i) j)
    stays-bytes j k s = by_test (eq_by_cmp nat_cmp j i)
        (λ t. unlike k (ap (λ x. kept (Bytes x)) (tied-is exact_unsigned j i t) ∙ free-bytes))
        (λ f. subst IsSome (sym (file-there j f)) s)

    stays-attributes : (j : ℕ) → kept (FileAttributes j) ≡ true → IsSome (get cells.files j) → IsSome (get (remove cells.files i) j)
    stays-attributes j k s = by_test (eq_by_cmp nat_cmp j i)
        (λ t. unlike k (ap (λ x. kept (FileAttributes x)) (tied-is exact_unsigned j i t) ∙ free-attributes))
        (λ f. subst IsSome (sym (file-there j f)) s)

    file-was : (j : ℕ) → IsSome (get (remove cells.files i) j) → IsSome (get cells.files j)
    file-was j s = by_test (eq_by_cmp nat_cmp j i)
        (λ t. unlike (sym (ap is_some (file-here j t)) ∙ s) refl)
        (λ f. subst IsSome (file-there j f) s)

    file-kept : (c : Cell) → kept c ≡ true → IsStored cells c → IsStored no_file_left c
    file-kept (Entry entry) k s = s
    file-kept (Names d) k s = s
    file-kept (Parent d) k s = s
    file-kept (Links j) k s = stays-links j k s
    file-kept (Bytes j) k s = stays-bytes j k s
    file-kept (Fd f) k s = s
    file-kept (DirAttributes d) k s = s
    file-kept (FileAttributes j) k s = stays-attributes j k s

    file-none_new : (c : Cell) → IsStored no_file_left c → IsStored cells c
    file-none_new (Entry entry) s = s
    file-none_new (Names d) s = s
    file-none_new (Parent d) s = s
    file-none_new (Links j) s = file-was j s
    file-none_new (Bytes j) s = file-was j s
    file-none_new (Fd f) s = s
    file-none_new (DirAttributes d) s = s
    file-none_new (FileAttributes j) s = file-was j s

    pub swept-file : IsSwept kept cells no_file_left
    swept-file = record {
      entries = λ d name. refl;
      parents = λ d. refl;
      links = file-links;
      opens = λ f. refl;
      contents = λ j s. by_test (eq_by_cmp nat_cmp j i)
          (λ t. unlike (sym (ap is_some (file-here j t)) ∙ s) refl)
          (λ f. ap (λ o. (unwrap_or o no_file).contents) (file-there j f));
      dir_attributes = λ d s. refl;
      file_attributes = λ j s. by_test (eq_by_cmp nat_cmp j i)
          (λ t. unlike (sym (ap is_some (file-here j t)) ∙ s) refl)
          (λ f. ap (λ o. (unwrap_or o no_file).attributes) (file-there j f));
      files = λ j gone. by_test (eq_by_cmp nat_cmp j i)
          (λ t. subst (IsDeadFile kept cells) (sym (tied-is exact_unsigned j i t)) (record { dead = dead; links = free-links; bytes = free-bytes; attributes = free-attributes }))
          (λ f. unlike (ap is_some (file-there j f) ∙ both-left _ _ gone) (not-true _ (both-right _ _ gone)));
      dirs = λ d. refl;
      named = λ j. ap (λ n. nat_lt 0 n || is_open cells.opens j) (file-links j);
      places = file-kept;
      limits = refl;
      none_new = file-none_new;
    }

    pub gone-file : is_spare kept no_file_left (Links i) ≡ false
    gone-file = ap (λ o. (is_some o && not (has_file no_file_left i)) && not (at_place kept (Links i))) (file-here i (tied-itself nat_cmp_total i))

  -- A descriptor.
  module _ (cells : Cells) (f : ℕ) (spare : is_spare kept cells (Fd f) ≡ true) where
    abbrev no_fd_left : Cells
    no_fd_left = record cells { opens = remove cells.opens f }

    free-fd : kept (Fd f) ≡ false
    free-fd = not-true _ (both-right _ _ spare)

    no_value : (o : Option (Option OpenFile)) → is_none (option_flatten o) ≡ true → option_flatten o ≡ None
    no_value None h = refl
    no_value (Some None) h = refl
    no_value (Some (Some x)) h = absurd (false≢true h)

    shut : open_of cells f ≡ None
    shut = no_value (get cells.opens f) (both-right _ _ (both-left _ _ spare))

    fd-here : (j : ℕ) → eq_by_cmp nat_cmp j f ≡ true → get (remove cells.opens f) j ≡ None
    fd-here j t = get-remove nat_cmp_total cells.opens f j ∙ ap (λ b. cond b None (get cells.opens j)) t

    fd-there : (j : ℕ) → eq_by_cmp nat_cmp j f ≡ false → get (remove cells.opens f) j ≡ get cells.opens j
    fd-there j n = get-remove nat_cmp_total cells.opens f j ∙ ap (λ b. cond b None (get cells.opens j)) n

    fd-kept : (c : Cell) → kept c ≡ true → IsStored cells c → IsStored no_fd_left c
    fd-kept (Entry entry) k s = s
    fd-kept (Names d) k s = s
    fd-kept (Parent d) k s = s
    fd-kept (Links j) k s = s
    fd-kept (Bytes j) k s = s
    fd-kept (Fd j) k s = by_test (eq_by_cmp nat_cmp j f)
        (λ t. unlike k (ap (λ x. kept (Fd x)) (tied-is exact_unsigned j f t) ∙ free-fd))
        (λ n. subst IsSome (sym (fd-there j n)) s)
    fd-kept (DirAttributes d) k s = s
    fd-kept (FileAttributes j) k s = s

    fd-none_new : (c : Cell) → IsStored no_fd_left c → IsStored cells c
    fd-none_new (Entry entry) s = s
    fd-none_new (Names d) s = s
    fd-none_new (Parent d) s = s
    fd-none_new (Links j) s = s
    fd-none_new (Bytes j) s = s
    fd-none_new (Fd j) s = by_test (eq_by_cmp nat_cmp j f)
        (λ t. unlike (sym (ap is_some (fd-here j t)) ∙ s) refl)
        (λ n. subst IsSome (fd-there j n) s)
    fd-none_new (DirAttributes d) s = s
    fd-none_new (FileAttributes j) s = s

    pub swept-fd : IsSwept kept cells no_fd_left
    swept-fd = record {
      entries = λ d name. refl;
      parents = λ d. refl;
      links = λ i. refl;
      opens = λ j. by_test (eq_by_cmp nat_cmp j f)
          (λ t. ap option_flatten (fd-here j t) ∙ sym (ap (open_of cells) (tied-is exact_unsigned j f t) ∙ shut))
          (λ n. ap option_flatten (fd-there j n));
      contents = λ i s. refl;
      dir_attributes = λ d s. refl;
      file_attributes = λ i s. refl;
      files = λ i gone. unlike (both-left _ _ gone) (not-true _ (both-right _ _ gone));
      dirs = λ d. refl;
      named = λ i. ap (λ b. nat_lt 0 (links_of cells i) || b) (is_open-remove cells.opens f shut i);
      places = fd-kept;
      limits = refl;
      none_new = fd-none_new;
    }

    pub gone-fd : is_spare kept no_fd_left (Fd f) ≡ false
    gone-fd = ap (λ o. (is_some o && is_none (open_of no_fd_left f)) && not (kept (Fd f))) (fd-here f (tied-itself nat_cmp_total f))

  -- A directory.
  module _ (cells : Cells) (d : ℕ) (spare : is_spare kept cells (Parent d) ≡ true) where
    abbrev no_dir_left : Cells
    no_dir_left = record cells { directories = remove cells.directories d }

    free-dir : at_place kept (Parent d) ≡ false
    free-dir = not-true _ (both-right _ _ spare)

    pub not_there : has_dir cells d ≡ false
    not_there = not-true (has_dir cells d) (both-right (contains_key cells.directories d) _ (both-left _ (len (dir_of cells d).entries == 0) (both-left _ (not (at_place kept (Parent d))) spare)))

    no_parent : (o : Option DirCells) → option_map_or (is_there d) o false ≡ false → (unwrap_or o no_dir).parent ≡ None
    no_parent None h = refl
    no_parent (Some x) h = by_option x.parent (λ n. n) (λ p is. unlike (ap is_some is) (none-right _ _ h))

    pub no_entries : (dir_of cells d).entries ≡ empty
    no_entries = empty_of_len (dir_of cells d).entries (eqb-true (len (dir_of cells d).entries) 0 (both-right (contains_key cells.directories d && not (has_dir cells d)) _ (both-left _ (not (at_place kept (Parent d))) spare)))

    free-names : kept (Names d) ≡ false
    free-names = none-left _ _ (none-left _ _ free-dir)

    free-parent : kept (Parent d) ≡ false
    free-parent = none-right (kept (Names d)) _ (none-left _ _ free-dir)

    free-dir_attributes : kept (DirAttributes d) ≡ false
    free-dir_attributes = none-right (kept (Names d) || kept (Parent d)) _ free-dir

    dir-here : (e : ℕ) → eq_by_cmp nat_cmp e d ≡ true → get (remove cells.directories d) e ≡ None
    dir-here e t = get-remove nat_cmp_total cells.directories d e ∙ ap (λ b. cond b None (get cells.directories e)) t

    dir-there : (e : ℕ) → eq_by_cmp nat_cmp e d ≡ false → get (remove cells.directories d) e ≡ get cells.directories e
    dir-there e f = get-remove nat_cmp_total cells.directories d e ∙ ap (λ b. cond b None (get cells.directories e)) f

    -- what a directory holds, but for the attributes of this one
    same-part : {P : Type 0} (part : DirCells → P) → part no_dir ≡ part (dir_of cells d) → (e : ℕ) → part (dir_of no_dir_left e) ≡ part (dir_of cells e)
    same-part part blank e = by_test (eq_by_cmp nat_cmp e d)
        (λ t. ap (λ o. part (unwrap_or o no_dir)) (dir-here e t) ∙ blank ∙ sym (ap (λ x. part (dir_of cells x)) (tied-is exact_unsigned e d t)))
        (λ f. ap (λ o. part (unwrap_or o no_dir)) (dir-there e f))

    pub dir-same : (e : ℕ) → (dir_of no_dir_left e).entries ≡ (dir_of cells e).entries
    dir-same = same-part (λ x. x.entries) (sym no_entries)

    parent-same : (e : ℕ) → (dir_of no_dir_left e).parent ≡ (dir_of cells e).parent
    parent-same = same-part (λ x. x.parent) (sym (no_parent (get cells.directories d) not_there))

    dir-stays : (e : ℕ) → (eq_by_cmp nat_cmp e d ≡ true → ⊥) → IsSome (get cells.directories e) → IsSome (get (remove cells.directories d) e)
    dir-stays e other s = by_test (eq_by_cmp nat_cmp e d) (λ t. absurd (other t)) (λ f. subst IsSome (sym (dir-there e f)) s)

    dir-was : (e : ℕ) → IsSome (get (remove cells.directories d) e) → IsSome (get cells.directories e)
    dir-was e s = by_test (eq_by_cmp nat_cmp e d)
        (λ t. unlike (sym (ap is_some (dir-here e t)) ∙ s) refl)
        (λ f. subst IsSome (dir-there e f) s)

    dir-kept : (c : Cell) → kept c ≡ true → IsStored cells c → IsStored no_dir_left c
    dir-kept (Entry entry) k s = subst (λ m. IsSome (get m entry.name)) (sym (dir-same entry.dir)) s
    dir-kept (Names e) k s = dir-stays e (λ t. unlike k (ap (λ x. kept (Names x)) (tied-is exact_unsigned e d t) ∙ free-names)) s
    dir-kept (Parent e) k s = dir-stays e (λ t. unlike k (ap (λ x. kept (Parent x)) (tied-is exact_unsigned e d t) ∙ free-parent)) s
    dir-kept (Links j) k s = s
    dir-kept (Bytes j) k s = s
    dir-kept (Fd f) k s = s
    dir-kept (DirAttributes e) k s = dir-stays e (λ t. unlike k (ap (λ x. kept (DirAttributes x)) (tied-is exact_unsigned e d t) ∙ free-dir_attributes)) s
    dir-kept (FileAttributes j) k s = s

    dir-none_new : (c : Cell) → IsStored no_dir_left c → IsStored cells c
    dir-none_new (Entry entry) s = subst (λ m. IsSome (get m entry.name)) (dir-same entry.dir) s
    dir-none_new (Names e) s = dir-was e s
    dir-none_new (Parent e) s = dir-was e s
    dir-none_new (Links j) s = s
    dir-none_new (Bytes j) s = s
    dir-none_new (Fd f) s = s
    dir-none_new (DirAttributes e) s = dir-was e s
    dir-none_new (FileAttributes j) s = s

    pub swept-dir : IsSwept kept cells no_dir_left
    swept-dir = record {
      entries = λ e name. ap (λ m. option_flatten (get m name)) (dir-same e);
      parents = parent-same;
      links = λ i. refl;
      opens = λ f. refl;
      contents = λ i s. refl;
      dir_attributes = λ e s. by_test (eq_by_cmp nat_cmp e d)
          (λ t. unlike (sym (ap is_some (dir-here e t)) ∙ s) refl)
          (λ f. ap (λ o. (unwrap_or o no_dir).attributes) (dir-there e f));
      file_attributes = λ i s. refl;
      files = λ i gone. unlike (both-left _ _ gone) (not-true _ (both-right _ _ gone));
      dirs = λ e. by_test (eq_by_cmp nat_cmp e d)
          (λ t. ap (λ o. option_map_or (is_there e) o false) (dir-here e t) ∙ sym (ap (has_dir cells) (tied-is exact_unsigned e d t) ∙ not_there))
          (λ f. ap (λ o. option_map_or (is_there e) o false) (dir-there e f));
      named = λ i. refl;
      places = dir-kept;
      limits = refl;
      none_new = dir-none_new;
    }

    pub gone-dir : is_spare kept no_dir_left (Parent d) ≡ false
    gone-dir = ap (λ o. (is_some o && not (has_dir no_dir_left d) && (len (dir_of no_dir_left d).entries == 0)) && not (at_place kept (Parent d))) (dir-here d (tied-itself nat_cmp_total d))

  -- An entry.
  module _ (cells : Cells) (d : ℕ) (name : List ℕ) (x : DirCells) (is : get cells.directories d ≡ Some x) (spare : is_spare kept cells (Entry (entry_at d name)) ≡ true) where
    abbrev less : DirCells
    less = without_dir_place x name

    abbrev no_entry_left : Cells
    no_entry_left = put_dir cells d less

    free-entry : kept (Entry (entry_at d name)) ≡ false
    free-entry = not-true _ (both-right _ _ spare)

    is_dir : dir_of cells d ≡ x
    is_dir = ap (λ o. unwrap_or o no_dir) is

    no_node : (o : Option Node) → is_none o ≡ true → o ≡ None
    no_node None h = refl
    no_node (Some y) h = absurd (false≢true h)

    blank_here : dir_entry x name ≡ None
    blank_here = ap (λ (y : DirCells). dir_entry y name) (sym is_dir) ∙ no_node (entry_of cells d name) (both-right _ _ (both-left _ _ spare))

    at-here : (e : ℕ) → eq_by_cmp nat_cmp e d ≡ true → get no_entry_left.directories e ≡ Some less
    at-here e t = get-insert nat_cmp_total cells.directories d less e ∙ ap (λ b. cond b (Some less) (get cells.directories e)) t

    at-there : (e : ℕ) → eq_by_cmp nat_cmp e d ≡ false → get no_entry_left.directories e ≡ get cells.directories e
    at-there e f = get-insert nat_cmp_total cells.directories d less e ∙ ap (λ b. cond b (Some less) (get cells.directories e)) f

    was-here : (e : ℕ) → eq_by_cmp nat_cmp e d ≡ true → get cells.directories e ≡ Some x
    was-here e t = ap (get cells.directories) (tied-is exact_unsigned e d t) ∙ is

    less-here : (m : List ℕ) → eq_by_cmp (slice_cmp nat_cmp) m name ≡ true → get less.entries m ≡ None
    less-here m t = get-remove nat_list_cmp_total x.entries name m ∙ ap (λ b. cond b None (get x.entries m)) t

    less-there : (m : List ℕ) → eq_by_cmp (slice_cmp nat_cmp) m name ≡ false → get less.entries m ≡ get x.entries m
    less-there m f = get-remove nat_list_cmp_total x.entries name m ∙ ap (λ b. cond b None (get x.entries m)) f

    less-entry : (m : List ℕ) → dir_entry less m ≡ dir_entry x m
    less-entry m = by_test (eq_by_cmp (slice_cmp nat_cmp) m name)
        (λ t. ap option_flatten (less-here m t) ∙ sym (ap (dir_entry x) (tied-is exact_bytes m name t) ∙ blank_here))
        (λ f. ap option_flatten (less-there m f))

    entry-same : (e : ℕ) (m : List ℕ) → entry_of no_entry_left e m ≡ entry_of cells e m
    entry-same e m = by_test (eq_by_cmp nat_cmp e d)
        (λ t. ap (λ o. dir_entry (unwrap_or o no_dir) m) (at-here e t) ∙ less-entry m ∙ ap (λ o. dir_entry (unwrap_or o no_dir) m) (sym (was-here e t)))
        (λ f. ap (λ o. dir_entry (unwrap_or o no_dir) m) (at-there e f))

    -- of the directories only this one has less places
    pub dir-other : (e : ℕ) → eq_by_cmp nat_cmp e d ≡ false → dir_of no_entry_left e ≡ dir_of cells e
    dir-other e f = ap (λ o. unwrap_or o no_dir) (at-there e f)

    dir-place : (e : ℕ) → is_some (get no_entry_left.directories e) ≡ is_some (get cells.directories e)
    dir-place e = by_test (eq_by_cmp nat_cmp e d)
        (λ t. ap is_some (at-here e t) ∙ sym (ap is_some (was-here e t)))
        (λ f. ap is_some (at-there e f))

    entry-stays : (e : ℕ) (m : List ℕ) → kept (Entry (entry_at e m)) ≡ true → IsStored cells (Entry (entry_at e m)) → IsStored no_entry_left (Entry (entry_at e m))
    entry-stays e m k s = by_test (eq_by_cmp nat_cmp e d)
        (λ t. by_test (eq_by_cmp (slice_cmp nat_cmp) m name)
        (λ u. unlike k (ap (λ y. kept (Entry (entry_at y m))) (tied-is exact_unsigned e d t) ∙ ap (λ y. kept (Entry (entry_at d y))) (tied-is exact_bytes m name u) ∙ free-entry))
        (λ v. subst (λ o. IsSome (get (unwrap_or o no_dir).entries m)) (sym (at-here e t)) (subst IsSome (sym (less-there m v)) (subst (λ o. IsSome (get (unwrap_or o no_dir).entries m)) (was-here e t) s))))
        (λ f. subst (λ o. IsSome (get (unwrap_or o no_dir).entries m)) (sym (at-there e f)) s)

    entry-was : (e : ℕ) (m : List ℕ) → IsStored no_entry_left (Entry (entry_at e m)) → IsStored cells (Entry (entry_at e m))
    entry-was e m s = by_test (eq_by_cmp nat_cmp e d)
        (λ t. by_test (eq_by_cmp (slice_cmp nat_cmp) m name)
        (λ u. unlike (sym (ap is_some (less-here m u)) ∙ subst (λ o. IsSome (get (unwrap_or o no_dir).entries m)) (at-here e t) s) refl)
        (λ v. subst (λ o. IsSome (get (unwrap_or o no_dir).entries m)) (sym (was-here e t)) (subst IsSome (less-there m v) (subst (λ o. IsSome (get (unwrap_or o no_dir).entries m)) (at-here e t) s))))
        (λ f. subst (λ o. IsSome (get (unwrap_or o no_dir).entries m)) (at-there e f) s)

    entry-kept : (c : Cell) → kept c ≡ true → IsStored cells c → IsStored no_entry_left c
    entry-kept (Entry entry) k s = entry-stays entry.dir entry.name k s
    entry-kept (Names e) k s = dir-place e ∙ s
    entry-kept (Parent e) k s = dir-place e ∙ s
    entry-kept (Links j) k s = s
    entry-kept (Bytes j) k s = s
    entry-kept (Fd f) k s = s
    entry-kept (DirAttributes e) k s = dir-place e ∙ s
    entry-kept (FileAttributes j) k s = s

    entry-none_new : (c : Cell) → IsStored no_entry_left c → IsStored cells c
    entry-none_new (Entry entry) s = entry-was entry.dir entry.name s
    entry-none_new (Names e) s = sym (dir-place e) ∙ s
    entry-none_new (Parent e) s = sym (dir-place e) ∙ s
    entry-none_new (Links j) s = s
    entry-none_new (Bytes j) s = s
    entry-none_new (Fd f) s = s
    entry-none_new (DirAttributes e) s = sym (dir-place e) ∙ s
    entry-none_new (FileAttributes j) s = s

    pub swept-entry : IsSwept kept cells no_entry_left
    swept-entry = record {
      entries = entry-same;
      parents = λ e. by_test (eq_by_cmp nat_cmp e d)
          (λ t. ap (λ o. (unwrap_or o no_dir).parent) (at-here e t) ∙ sym (ap (λ o. (unwrap_or o no_dir).parent) (was-here e t)))
          (λ f. ap (λ o. (unwrap_or o no_dir).parent) (at-there e f));
      links = λ i. refl;
      opens = λ f. refl;
      contents = λ i s. refl;
      dir_attributes = λ e s. by_test (eq_by_cmp nat_cmp e d)
          (λ t. ap (λ o. (unwrap_or o no_dir).attributes) (at-here e t) ∙ sym (ap (λ o. (unwrap_or o no_dir).attributes) (was-here e t)))
          (λ f. ap (λ o. (unwrap_or o no_dir).attributes) (at-there e f));
      file_attributes = λ i s. refl;
      files = λ i gone. unlike (both-left _ _ gone) (not-true _ (both-right _ _ gone));
      dirs = λ e. by_test (eq_by_cmp nat_cmp e d)
          (λ t. ap (λ o. option_map_or (is_there e) o false) (at-here e t) ∙ sym (ap (λ o. option_map_or (is_there e) o false) (was-here e t)))
          (λ f. ap (λ o. option_map_or (is_there e) o false) (at-there e f));
      named = λ i. refl;
      places = entry-kept;
      limits = refl;
      none_new = entry-none_new;
    }

    pub gone-entry : is_spare kept no_entry_left (Entry (entry_at d name)) ≡ false
    gone-entry =
        let none : is_some (get (dir_of no_entry_left d).entries name) ≡ false =
        ap (λ o. is_some (get (unwrap_or o no_dir).entries name)) (at-here d (tied-itself nat_cmp_total d)) ∙ ap is_some (less-here name (tied-itself nat_list_cmp_total name)) in
        ap (λ b. (b && is_none (entry_of no_entry_left d name)) && not (kept (Entry (entry_at d name)))) none
