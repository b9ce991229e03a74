-- A cell that was set and is taken back, its place too where that was new, leaves the cells as
-- they were.
use Rattle.std.proofs.Common.{◌≡◌, ℕ, Bool, true, false, cond, Option, None, Some, IsSome, unwrap_or, nat_cmp, Ordering, refl, sym, ap, subst, eq-eqb, ◌∙◌}
use Rattle.std.proofs.lemmas.Bool.{false≢true}
use Rattle.std.proofs.lemmas.Option.{none-some, same_Some}
use Rattle.std.specs.declared.cmp.Ordering.TheVariants.{Less, Equal, Greater}
use Rattle.std.specs.Ordering.{is_eq, eq_by_cmp}
use Rattle.std.specs.Cmp.{IsTotalOrder, nat_cmp_total, unsigned_tied}
use Rattle.std.specs.Cmp.Lexicographic.{nat_list_cmp_total}
use Rattle.std.specs.Option.{option_map, option_map_or}
use Rattle.std.specs.FinMap.{FinMap, get, insert, remove, get-insert, get-remove, get_tied, same_map}
use Rattle.std.proofs.lemmas.Map.Lookups.{CmpEqualImpliesEq, exact_unsigned, exact_bytes}
use Rattle.ft_cells.specs.declared.cell.Cell.{Cell}
use Rattle.ft_cells.specs.declared.cell.Cell.TheVariants.{Entry, Names, Parent, Links, Bytes, Fd, DirAttributes, FileAttributes}
use Rattle.ft_cells.specs.declared.open_file.OpenFile.{OpenFile}
use Rattle.ft_cells.specs.Cells.{Cells, DirCells, FileCells, no_dir, no_file, dir_of, put_dir, put_dir_entry, put_dir_parent, put_kept_of_dir, put_file, without_dir_place, put_parent, put_dir_attributes, put_links, put_file_attributes, put_contents, HasDirPlace}
use Rattle.ft_tree.specs.Held.{Holds, set_cell, place_at, without_place, CanSet}
use Rattle.ft_posix.specs.CellLaws.{RestoringLaw}
use Rattle.ft_posix.proofs.Places.{dir_place-entry}
use Rattle.ft_posix.proofs.Puts.{dir_of-put_dir, file_attributes-put_links, contents-put_links, links-put_file_attributes, contents-put_file_attributes, links-put_contents, file_attributes-put_contents}

-- Maps.

tied : (r : Ordering) → is_eq r ≡ true → r ≡ Equal
tied Less h = absurd (false≢true h)
tied Equal h = refl
tied Greater h = absurd (false≢true h)

shadowed : {A : Type 0} (b : Bool) (x y z : A) → cond b x (cond b y z) ≡ cond b x z
shadowed true x y z = refl
shadowed false x y z = refl

module _ {K X : Type 0} {R : K → K → Ordering} (o : IsTotalOrder R) (exact : CmpEqualImpliesEq R) where
  as_there : (m : FinMap R X) (k q : K) (y : Option X) → get m k ≡ y → (b : Bool) → is_eq (R q k) ≡ b → cond b y (get m q) ≡ get m q
  as_there m k q y is true e = sym is ∙ get_tied o m q k (tied _ e)
  as_there m k q y is false e = refl

  -- a value that is set again to what it was
  put_back : (m : FinMap R X) (k : K) (v x : X) → get m k ≡ Some x → insert (insert m k v) k x ≡ m
  put_back m k v x is = same_map o exact _ _ (λ q.
      get-insert o (insert m k v) k x q ∙ ap (cond (eq_by_cmp R q k) (Some x)) (get-insert o m k v q) ∙ shadowed (eq_by_cmp R q k) (Some x) (Some v) (get m q)
      ∙ as_there m k q (Some x) is (eq_by_cmp R q k) refl)

  -- a key that is new, and is taken out again
  take_out : (m : FinMap R X) (k : K) (v : X) → get m k ≡ None → remove (insert m k v) k ≡ m
  take_out m k v is = same_map o exact _ _ (λ q.
      get-remove o (insert m k v) k q ∙ ap (cond (eq_by_cmp R q k) None) (get-insert o m k v q) ∙ shadowed (eq_by_cmp R q k) None (Some v) (get m q)
      ∙ as_there m k q None is (eq_by_cmp R q k) refl)

-- what was set is there
own : {X : Type 0} (m : FinMap nat_cmp X) (k : ℕ) (v : X) → get (insert m k v) k ≡ Some v
own m k v = get-insert nat_cmp_total m k v k ∙ ap (λ b. cond b (Some v) (get m k)) (unsigned_tied k k ∙ eq-eqb k k refl)

-- a value that is nothing was nothing
none-mapped : {A B : Type 0} (f : A → B) (o : Option A) → option_map f o ≡ None → o ≡ None
none-mapped f None h = refl
none-mapped f (Some x) h = absurd (none-some (f x) (sym h))

-- Cells.

module _ (s : Cells) where
  abbrev with_dirs : FinMap nat_cmp DirCells → Cells
  with_dirs m = record { limits = s.limits; directories = m; files = s.files; opens = s.opens }

  abbrev with_files : FinMap nat_cmp FileCells → Cells
  with_files m = record { limits = s.limits; directories = s.directories; files = m; opens = s.opens }

  abbrev with_opens : FinMap nat_cmp (Option OpenFile) → Cells
  with_opens m = record { limits = s.limits; directories = s.directories; files = s.files; opens = m }

  own_dir : (d : ℕ) (y : DirCells) → dir_of (put_dir s d y) d ≡ y
  own_dir d y = dir_of-put_dir s d y d ∙ ap (λ b. cond b y (dir_of s d)) (eq-eqb d d refl)

  -- a directory that is stored, and is set to what it was
  same_dir : (d : ℕ) (y x : DirCells) → get s.directories d ≡ Some x → (z : DirCells) → z ≡ dir_of s d → put_dir (put_dir s d y) d z ≡ s
  same_dir d y x is z same = ap with_dirs (ap (insert (insert s.directories d y) d) (same ∙ ap (λ o. unwrap_or o no_dir) is) ∙ put_back nat_cmp_total exact_unsigned s.directories d y x is)

  stored_dir : (d : ℕ) → HasDirPlace s d → (x : DirCells) × (get s.directories d ≡ Some x)
  stored_dir d h = by_place (get s.directories d) refl h
    where
      by_place : (o : Option DirCells) → get s.directories d ≡ o → IsSome o → (x : DirCells) × (get s.directories d ≡ Some x)
      by_place None is there = absurd (false≢true there)
      by_place (Some x) is there = (x, is)

  -- a file that is stored, and is set to what it was
  same_file : (i : ℕ) (y x : FileCells) → get s.files i ≡ Some x → (z : FileCells) → z ≡ x → put_file (put_file s i y) i z ≡ s
  same_file i y x is z same = ap with_files (ap (insert (insert s.files i y) i) same ∙ put_back nat_cmp_total exact_unsigned s.files i y x is)

  -- what stands in a place that is there

  again : (c : Cell) (v was : Holds c) → place_at s c ≡ Some was → set_cell (set_cell s c v) c was ≡ s
  again (Entry entry) v was is =
      let y : DirCells = put_dir_entry (dir_of s entry.dir) entry.name v in
      let there = stored_dir entry.dir (dir_place-entry s entry.dir entry.name (subst IsSome (sym is) refl)) in
      ap (λ z. put_dir (put_dir s entry.dir y) entry.dir (put_dir_entry z entry.name was)) (own_dir entry.dir y)
      ∙ same_dir entry.dir y there.0 there.1 (put_dir_entry y entry.name was) (ap (λ m. record { parent = (dir_of s entry.dir).parent; attributes = (dir_of s entry.dir).attributes; entries = m }) (put_back nat_list_cmp_total exact_bytes (dir_of s entry.dir).entries entry.name v was is))
  again (Names d) v was is = refl
  again (Parent d) v was is = by_place (get s.directories d) refl is
    where
      by_place : (o : Option DirCells) → get s.directories d ≡ o → option_map (λ (x : DirCells). x.parent) o ≡ Some was → put_parent (put_parent s d v) d was ≡ s
      by_place None there h = absurd (none-some was h)
      by_place (Some x) there h =
          let y : DirCells = put_dir_parent (dir_of s d) v in
          let x_is : x ≡ dir_of s d = sym (ap (λ o. unwrap_or o no_dir) there) in
          ap (λ (z : DirCells). put_dir (put_dir s d y) d (put_dir_parent z was)) (own_dir d y)
          ∙ same_dir d y x there (put_dir_parent y was) (λ j. put_dir_parent (dir_of s d) ((sym (same_Some x.parent was h) ∙ ap (λ (z : DirCells). z.parent) x_is) j))
  again (Links i) v was is = by_place (get s.files i) refl is
    where
      by_place : (o : Option FileCells) → get s.files i ≡ o → option_map (λ (x : FileCells). x.links) o ≡ Some was → put_links (put_links s i v) i was ≡ s
      by_place None there h = absurd (none-some was h)
      by_place (Some x) there h = same_file i _ x there _ (λ j. record {
        links = sym (same_Some x.links was h) j;
        attributes = (file_attributes-put_links s i v i ∙ ap (λ o. (unwrap_or o no_file).attributes) there) j;
        contents = (contents-put_links s i v i ∙ ap (λ o. (unwrap_or o no_file).contents) there) j;
      })
  again (Bytes i) v was is = by_place (get s.files i) refl is
    where
      by_place : (o : Option FileCells) → get s.files i ≡ o → option_map (λ (x : FileCells). x.contents) o ≡ Some was → put_contents (put_contents s i v) i was ≡ s
      by_place None there h = absurd (none-some was h)
      by_place (Some x) there h = same_file i _ x there _ (λ j. record {
        links = (links-put_contents s i v i ∙ ap (λ o. (unwrap_or o no_file).links) there) j;
        attributes = (file_attributes-put_contents s i v i ∙ ap (λ o. (unwrap_or o no_file).attributes) there) j;
        contents = sym (same_Some x.contents was h) j;
      })
  again (Fd f) v was is = ap with_opens (put_back nat_cmp_total exact_unsigned s.opens f v was is)
  again (DirAttributes d) v was is = by_place (get s.directories d) refl is
    where
      by_place : (o : Option DirCells) → get s.directories d ≡ o → option_map (λ (x : DirCells). x.attributes) o ≡ Some was → put_dir_attributes (put_dir_attributes s d v) d was ≡ s
      by_place None there h = absurd (none-some was h)
      by_place (Some x) there h =
          let y : DirCells = put_kept_of_dir (dir_of s d) v in
          let x_is : x ≡ dir_of s d = sym (ap (λ o. unwrap_or o no_dir) there) in
          ap (λ (z : DirCells). put_dir (put_dir s d y) d (put_kept_of_dir z was)) (own_dir d y)
          ∙ same_dir d y x there (put_kept_of_dir y was) (λ j. put_kept_of_dir (dir_of s d) ((sym (same_Some x.attributes was h) ∙ ap (λ (z : DirCells). z.attributes) x_is) j))
  again (FileAttributes i) v was is = by_place (get s.files i) refl is
    where
      by_place : (o : Option FileCells) → get s.files i ≡ o → option_map (λ (x : FileCells). x.attributes) o ≡ Some was → put_file_attributes (put_file_attributes s i v) i was ≡ s
      by_place None there h = absurd (none-some was h)
      by_place (Some x) there h = same_file i _ x there _ (λ j. record {
        links = (links-put_file_attributes s i v i ∙ ap (λ o. (unwrap_or o no_file).links) there) j;
        attributes = sym (same_Some x.attributes was h) j;
        contents = (contents-put_file_attributes s i v i ∙ ap (λ o. (unwrap_or o no_file).contents) there) j;
      })

  -- a place that is new

  new : (c : Cell) (v : Holds c) → CanSet s c → place_at s c ≡ None → without_place (set_cell s c v) c ≡ s
  new (Entry entry) v can is =
      let y : DirCells = put_dir_entry (dir_of s entry.dir) entry.name v in
      let there = stored_dir entry.dir can in
      ap (λ o. option_map_or (λ z. put_dir (put_dir s entry.dir y) entry.dir (without_dir_place z entry.name)) o (put_dir s entry.dir y)) (own s.directories entry.dir y)
      ∙ same_dir entry.dir y there.0 there.1 (without_dir_place y entry.name) (ap (λ m. record { parent = (dir_of s entry.dir).parent; attributes = (dir_of s entry.dir).attributes; entries = m }) (take_out nat_list_cmp_total exact_bytes (dir_of s entry.dir).entries entry.name v is))
  new (Names d) v can is = refl
  new (Parent d) v can is = ap with_dirs (take_out nat_cmp_total exact_unsigned s.directories d _ (none-mapped (λ (x : DirCells). x.parent) (get s.directories d) is))
  new (Links i) v can is = ap with_files (take_out nat_cmp_total exact_unsigned s.files i _ (none-mapped (λ (x : FileCells). x.links) (get s.files i) is))
  new (Bytes i) v can is = absurd (false≢true (subst IsSome (none-mapped (λ (x : FileCells). x.contents) (get s.files i) is) can))
  new (Fd f) v can is = ap with_opens (take_out nat_cmp_total exact_unsigned s.opens f v is)
  new (DirAttributes d) v can is = absurd (false≢true (subst IsSome (none-mapped (λ (x : DirCells). x.attributes) (get s.directories d) is) can))
  new (FileAttributes i) v can is = absurd (false≢true (subst IsSome (none-mapped (λ (x : FileCells). x.attributes) (get s.files i) is) can))

pub restoring : RestoringLaw
restoring = record { again = again; new = new }
