-- What the plain tree has that stored cells are.
use Rattle.std.proofs.Common.{◌≡◌, ℕ, Bool, true, false, cond, ◌||◌, List, [], ◌∷◌, ◌++◌, map, filter, Option, Some, None, IsSome, is_some, unwrap_or, Ordering, arith, refl, sym, ap, subst, ◌∙◌}
use Rattle.std.specs.Prelude.{T, ◌==◌, nat_lt}
use Rattle.std.proofs.lemmas.Bool.{false≢true, ltb-true}
use Rattle.std.specs.declared.cmp.Ordering.TheVariants.{Less, Equal, Greater}
use Rattle.std.specs.Ordering.{nat_cmp, is_eq, eq_by_cmp, ordering_then}
use Rattle.std.specs.Cmp.{IsTotalOrder, nat_cmp_total}
use Rattle.std.specs.Cmp.Lexicographic.{slice_cmp, nat_list_cmp_total}
use Rattle.std.specs.List.{filter_map}
use Rattle.std.specs.Option.{option_flatten, option_map, option_map_or, option_or}
use Rattle.std.specs.FinMap.{find, get, contains_key, entries, entries_sorted, get-entries, get-empty, is_sorted, get-from_entries, same_map}
use Rattle.std.specs.FinMap.Entries.{below_all}
use Rattle.std.proofs.lemmas.Map.Lookups.{exact_unsigned}
use Rattle.ft_cells.specs.Entries.{entry_at, entry_cmp, entry_cmp_total, entry_cmp_exact}
use Rattle.ft_cells.specs.declared.entry.Entry.{Entry as DirEntry}
use Rattle.ft_cells.specs.declared.node.Node.{Node}
use Rattle.ft_cells.specs.declared.open_file.OpenFile.{OpenFile}
use Rattle.ft_cells.specs.declared.attributes.Attributes.{Attributes}
use Rattle.ft_cells.specs.Cells.{Cells, DirCells, FileCells, Opens, no_dir, no_file, file_of, dir_names, dir_entry, filled, entry_of, parent_of, dir_attributes_of, links_of, open_of, is_there, has_dir, is_open, has_file, HasDirPlace, HasFilePlace}
use Rattle.ft_cells.specs.Plain.{PlainFile, PlainTree}
use Rattle.ft_tree.specs.Tidy.{tidy, edges_at, edges_from, member, dirs_from, is_named, plain_file, files_from, opens_from}
use Rattle.ft_tree.specs.Sound.{AreSoundCells}
use Rattle.ft_cells.proofs.Conjunction.{first, second}
use Rattle.ft_posix.proofs.Listed.{lesser}
use Rattle.ft_posix.proofs.Places.{file_place-linked}
use Rattle.ft_posix.proofs.Opens.{named-open}
use Rattle.ft_posix.proofs.Free.{has_dir-parent}

-- what tests as equal is Equal
tied_from : (r : Ordering) → is_eq r ≡ true → r ≡ Equal
tied_from Less h = absurd (false≢true h)
tied_from Equal h = refl
tied_from Greater h = absurd (false≢true h)

-- none of two is the first
or-none : (o : Option Node) → option_or o None ≡ o
or-none None = refl
or-none (Some x) = refl

module _ {K X : Type 0} (R : K → K → Ordering) (o : IsTotalOrder R) where
  -- a key that ties with one below all of a list is not found in it
  gone : (q x : K) (es : List (K × X)) → R q x ≡ Equal → T (below_all R x es) → find R q es ≡ None
  gone q x [] tie h = refl
  gone q x (e ∷ es) tie h = ap (λ r. cond (is_eq r) (Some e.1) (find R q es)) (o.congr q x e.0 tie ∙ lesser _ (first _ _ h)) ∙ gone q x es tie (second _ _ h)

  -- what is found in two lists, one behind the other
  find-append : (q : K) (xs ys : List (K × X)) → find R q (xs ++ ys) ≡ option_or (find R q xs) (find R q ys)
  find-append q [] ys = refl
  find-append q (e ∷ xs) ys =
      elim (eq_by_cmp R q e.0) as (λ b. cond b (Some e.1) (find R q (xs ++ ys)) ≡ option_or (cond b (Some e.1) (find R q xs)) (find R q ys)) [ true ↦ refl | false ↦ find-append q xs ys ]

-- The edges.

-- a directory that is not stored has no entry
entry-no_dir : (name : List ℕ) → dir_entry no_dir name ≡ None
entry-no_dir name = ap option_flatten (get-empty (slice_cmp nat_cmp) name)

-- what is found among the places that are not empty
filled-find : (name : List ℕ) (es : List (List ℕ × Option Node)) → T (is_sorted (slice_cmp nat_cmp) es) → find (slice_cmp nat_cmp) name (filter_map filled es) ≡ option_flatten (find (slice_cmp nat_cmp) name es)
filled-find name [] h = refl
filled-find name ((other, Some x) ∷ es) h =
    elim (eq_by_cmp (slice_cmp nat_cmp) name other) as (λ b. cond b (Some x) (find (slice_cmp nat_cmp) name (filter_map filled es)) ≡ option_flatten (cond b (Some (Some x)) (find (slice_cmp nat_cmp) name es))) [
      | true ↦ refl
      | false ↦ filled-find name es (second _ _ h)
    ]
filled-find name ((other, None) ∷ es) h = filled-find name es (second _ _ h) ∙ by_tie (eq_by_cmp (slice_cmp nat_cmp) name other) refl
  where
    by_tie : (b : Bool) → eq_by_cmp (slice_cmp nat_cmp) name other ≡ b → option_flatten (find (slice_cmp nat_cmp) name es) ≡ option_flatten (cond b (Some None) (find (slice_cmp nat_cmp) name es))
    by_tie true is = ap option_flatten (gone (slice_cmp nat_cmp) nat_list_cmp_total name other es (tied_from _ is) (first _ _ h))
    by_tie false is = refl

-- a name is found in a directory's list where it is an entry
pub dir_names-find : (name : List ℕ) (x : DirCells) → find (slice_cmp nat_cmp) name (dir_names x) ≡ dir_entry x name
dir_names-find name x = filled-find name (entries x.entries) (entries_sorted x.entries) ∙ ap option_flatten (sym (get-entries x.entries name))

-- the edges that the names of a directory make
abbrev pub edges_named : ℕ → List (List ℕ × Node) → List (DirEntry × Node)
edges_named d names = map (λ x. (entry_at d x.0, x.1)) names

-- what is found among them
pub edges_named-find : (e d : ℕ) (name : List ℕ) (names : List (List ℕ × Node)) → find entry_cmp (entry_at d name) (edges_named e names) ≡ cond (eq_by_cmp nat_cmp d e) (find (slice_cmp nat_cmp) name names) None
edges_named-find e d name [] = elim (eq_by_cmp nat_cmp d e) as (λ b. ◌≡◌ {A = Option Node} None (cond b None None)) [ true ↦ refl | false ↦ refl ]
edges_named-find e d name (x ∷ names) =
    ap (cond (eq_by_cmp entry_cmp (entry_at d name) (entry_at e x.0)) (Some x.1)) (edges_named-find e d name names)
    ∙ elim (nat_cmp d e) as (λ r. cond (is_eq (ordering_then r (slice_cmp nat_cmp name x.0))) (Some x.1) (cond (is_eq r) (find (slice_cmp nat_cmp) name names) None)
    ≡ cond (is_eq r) (cond (eq_by_cmp (slice_cmp nat_cmp) name x.0) (Some x.1) (find (slice_cmp nat_cmp) name names)) None) [
      | Less ↦ refl
      | Equal ↦ refl
      | Greater ↦ refl
    ]

-- what is found among the edges of all directories
edges_from-find : (d : ℕ) (name : List ℕ) (es : List (ℕ × DirCells)) → T (is_sorted nat_cmp es) → find entry_cmp (entry_at d name) (edges_from es) ≡ dir_entry (unwrap_or (find nat_cmp d es) no_dir) name
edges_from-find d name [] h = sym (entry-no_dir name)
edges_from-find d name (e ∷ es) h =
    find-append entry_cmp entry_cmp_total (entry_at d name) (edges_at e) (edges_from es)
    ∙ (λ i. option_or ((edges_named-find e.0 d name (dir_names e.1) ∙ ap (λ x. cond (eq_by_cmp nat_cmp d e.0) x None) (dir_names-find name e.1)) i) (edges_from-find d name es (second _ _ h) i))
    ∙ by_tie (eq_by_cmp nat_cmp d e.0) refl
  where
    by_tie : (b : Bool) → eq_by_cmp nat_cmp d e.0 ≡ b
        → option_or (cond b (dir_entry e.1 name) None) (dir_entry (unwrap_or (find nat_cmp d es) no_dir) name)
        ≡ dir_entry (unwrap_or (cond b (Some e.1) (find nat_cmp d es)) no_dir) name
    by_tie true is =
        ap (λ o. option_or (dir_entry e.1 name) (dir_entry (unwrap_or o no_dir) name)) (gone nat_cmp nat_cmp_total d e.0 es (tied_from _ is) (first _ _ h))
        ∙ ap (λ o. option_or (dir_entry e.1 name) o) (entry-no_dir name) ∙ or-none (dir_entry e.1 name)
    by_tie false is = refl

-- an edge of the plain tree is an entry
pub get-tidy : (cells : Cells) (d : ℕ) (name : List ℕ) → get (tidy cells).edges (entry_at d name) ≡ entry_of cells d name
get-tidy cells d name =
    get-from_entries entry_cmp_total (edges_from (entries cells.directories)) (entry_at d name) ∙ edges_from-find d name (entries cells.directories) (entries_sorted cells.directories)
    ∙ ap (λ o. dir_entry (unwrap_or o no_dir) name) (sym (get-entries cells.directories d))

-- The directories.

-- what is kept of a stored directory, where it is there
abbrev there_dir : ℕ → Option DirCells → Option (Option Attributes)
there_dir d None = None
there_dir d (Some x) = cond (is_there d x) (Some x.attributes) None

-- what is found among the directories that are there
dirs_from-find : (d : ℕ) (es : List (ℕ × DirCells)) → T (is_sorted nat_cmp es) → find nat_cmp d (dirs_from es) ≡ there_dir d (find nat_cmp d es)
dirs_from-find d [] h = refl
dirs_from-find d (e ∷ es) h = by_tie (eq_by_cmp nat_cmp d e.0) refl (is_there e.0 e.1) refl (dirs_from-find d es (second _ _ h))
  where
    none_later : eq_by_cmp nat_cmp d e.0 ≡ true → there_dir d (find nat_cmp d es) ≡ None
    none_later tie = ap (there_dir d) (gone nat_cmp nat_cmp_total d e.0 es (tied_from _ tie) (first _ _ h))

    there : (b : Bool) → eq_by_cmp nat_cmp d e.0 ≡ true → is_there e.0 e.1 ≡ b → there_dir d (Some e.1) ≡ cond b (Some e.1.attributes) None
    there b tie is = ap (λ t. cond t (Some e.1.attributes) None) (ap (λ i. is_there i e.1) (exact_unsigned d e.0 (tied_from _ tie)) ∙ is)

    by_tie : (t : Bool) → eq_by_cmp nat_cmp d e.0 ≡ t → (b : Bool) → is_there e.0 e.1 ≡ b → find nat_cmp d (dirs_from es) ≡ there_dir d (find nat_cmp d es)
        → find nat_cmp d (map member (cond b (e ∷ filter (λ x. is_there x.0 x.1) es) (filter (λ x. is_there x.0 x.1) es))) ≡ there_dir d (cond t (Some e.1) (find nat_cmp d es))
    by_tie true tie true is rest = ap (λ t. cond t (Some e.1.attributes) (find nat_cmp d (dirs_from es))) tie ∙ sym (there true tie is)
    by_tie true tie false is rest = rest ∙ none_later tie ∙ sym (there false tie is)
    by_tie false tie true is rest = ap (λ t. cond t (Some e.1.attributes) (find nat_cmp d (dirs_from es))) tie ∙ rest
    by_tie false tie false is rest = rest

-- what is there of a directory is kept of it
there-kept : (d : ℕ) (o : Option DirCells) → there_dir d o ≡ cond (option_map_or (is_there d) o false) (Some (unwrap_or o no_dir).attributes) None
there-kept d None = refl
there-kept d (Some x) = refl

-- a directory of the plain tree is one of the cells, with its attributes
pub get-tidy_dir : (cells : Cells) (d : ℕ) → get (tidy cells).dirs d ≡ cond (has_dir cells d) (Some (dir_attributes_of cells d)) None
get-tidy_dir cells d =
    get-from_entries nat_cmp_total (dirs_from (entries cells.directories)) d ∙ dirs_from-find d (entries cells.directories) (entries_sorted cells.directories)
    ∙ ap (there_dir d) (sym (get-entries cells.directories d)) ∙ there-kept d (get cells.directories d)

-- whether one of two is there
there-some : {A : Type 0} (b : Bool) (x : A) → is_some (cond b (Some x) None) ≡ b
there-some true x = refl
there-some false x = refl

pub contains-tidy : (cells : Cells) (d : ℕ) → contains_key (tidy cells).dirs d ≡ has_dir cells d
contains-tidy cells d = ap is_some (get-tidy_dir cells d) ∙ there-some (has_dir cells d) (dir_attributes_of cells d)

-- what is kept of directories with these parents: of the root, and of those that have one
abbrev pub kept_dir : (ℕ → Option ℕ) → (ℕ → Option Attributes) → ℕ → Option (Option Attributes)
kept_dir parent attributes d = cond ((d == 1) || is_some (parent d)) (Some (attributes d)) None

-- the root or one with a parent
pub get-dirs : (cells : Cells) → HasDirPlace cells 1 → (d : ℕ) → get (tidy cells).dirs d ≡ kept_dir (parent_of cells) (dir_attributes_of cells) d
get-dirs cells root d = get-tidy_dir cells d ∙ ap (λ b. cond b (Some (dir_attributes_of cells d)) None) (has_dir-parent cells root d)

pub contains-parent : (cells : Cells) → HasDirPlace cells 1 → (d : ℕ) → contains_key (tidy cells).dirs d ≡ ((d == 1) || is_some (parent_of cells d))
contains-parent cells root d = contains-tidy cells d ∙ has_dir-parent cells root d

-- The files.

-- whether a file is there, by what is stored of it
abbrev is_kept : Opens → ℕ → Option FileCells → Bool
is_kept opens i o = nat_lt 0 (unwrap_or o no_file).links || is_open opens i

-- a file of the cells as the plain tree has it
abbrev pub plain_of : FileCells → PlainFile
plain_of f = record { attributes = f.attributes; contents = f.contents }

-- the file of what is stored, where it is there
abbrev kept_file : Opens → ℕ → Option FileCells → Option PlainFile
kept_file opens i o = cond (is_kept opens i o) (option_map plain_of o) None

-- of what is not stored there is none
kept-none : (opens : Opens) (i : ℕ) → kept_file opens i None ≡ None
kept-none opens i = elim (is_kept opens i None) as (λ b. ◌≡◌ {A = Option PlainFile} (cond b None None) None) [ true ↦ refl | false ↦ refl ]

-- what is found among the files that are there
files_from-find : (opens : Opens) (i : ℕ) (es : List (ℕ × FileCells)) → T (is_sorted nat_cmp es) → find nat_cmp i (files_from opens es) ≡ kept_file opens i (find nat_cmp i es)
files_from-find opens i [] h = sym (kept-none opens i)
files_from-find opens i (e ∷ es) h = by_tie (eq_by_cmp nat_cmp i e.0) refl (is_named opens e) refl (files_from-find opens i es (second _ _ h))
  where
    none_later : eq_by_cmp nat_cmp i e.0 ≡ true → kept_file opens i (find nat_cmp i es) ≡ None
    none_later tie = ap (kept_file opens i) (gone nat_cmp nat_cmp_total i e.0 es (tied_from _ tie) (first _ _ h)) ∙ kept-none opens i

    kept : (b : Bool) → eq_by_cmp nat_cmp i e.0 ≡ true → is_named opens e ≡ b → kept_file opens i (Some e.1) ≡ cond b (Some (plain_of e.1)) None
    kept b tie is = ap (λ t. cond t (Some (plain_of e.1)) None) (ap (λ j. is_named opens (j, e.1)) (exact_unsigned i e.0 (tied_from _ tie)) ∙ is)

    by_tie : (t : Bool) → eq_by_cmp nat_cmp i e.0 ≡ t → (b : Bool) → is_named opens e ≡ b → find nat_cmp i (files_from opens es) ≡ kept_file opens i (find nat_cmp i es)
        → find nat_cmp i (map plain_file (cond b (e ∷ filter (is_named opens) es) (filter (is_named opens) es))) ≡ kept_file opens i (cond t (Some e.1) (find nat_cmp i es))
    by_tie true tie true is rest = ap (λ t. cond t (Some (plain_of e.1)) (find nat_cmp i (files_from opens es))) tie ∙ sym (kept true tie is)
    by_tie true tie false is rest = rest ∙ none_later tie ∙ sym (kept false tie is)
    by_tie false tie true is rest = ap (λ t. cond t (Some (plain_of e.1)) (find nat_cmp i (files_from opens es))) tie ∙ rest
    by_tie false tie false is rest = rest

-- a file of the plain tree is one of the cells that an entry or a description names
pub get-there : (cells : Cells) (i : ℕ) → get (tidy cells).files i ≡ cond (has_file cells i) (option_map plain_of (get cells.files i)) None
get-there cells i =
    get-from_entries nat_cmp_total (files_from cells.opens (entries cells.files)) i ∙ files_from-find cells.opens i (entries cells.files) (entries_sorted cells.files)
    ∙ ap (kept_file cells.opens i) (sym (get-entries cells.files i))

-- a file that an entry or a description names is stored
pub file_place-there : (cells : Cells) → AreSoundCells cells → (i : ℕ) → has_file cells i ≡ true → HasFilePlace cells i
file_place-there cells sound i h = by_links (nat_lt 0 (links_of cells i)) refl h
  where
    by_links : (b : Bool) → nat_lt 0 (links_of cells i) ≡ b → (b || is_open cells.opens i) ≡ true → HasFilePlace cells i
    by_links true is h = file_place-linked cells i (λ none. let above = ltb-true 0 (links_of cells i) is in absurd (omega arith))
    by_links false is h = let x = named-open cells i h in subst (HasFilePlace cells) x.3 (sound.opens x.0 x.1 x.2).0

-- the file of a number, as the plain tree has it
abbrev pub file_at : Cells → ℕ → PlainFile
file_at cells i = plain_of (file_of cells i)

-- of one that is stored
pub stored-file : (o : Option FileCells) → IsSome o → option_map plain_of o ≡ Some (plain_of (unwrap_or o no_file))
stored-file None is = absurd (false≢true is)
stored-file (Some x) is = refl

-- so it is that of the cells
pub get-files : (cells : Cells) → AreSoundCells cells → (i : ℕ) → get (tidy cells).files i ≡ cond (has_file cells i) (Some (file_at cells i)) None
get-files cells sound i = get-there cells i ∙ by_there (has_file cells i) refl
  where
    by_there : (b : Bool) → has_file cells i ≡ b → cond b (option_map plain_of (get cells.files i)) None ≡ cond b (Some (file_at cells i)) None
    by_there true is = stored-file (get cells.files i) (file_place-there cells sound i is)
    by_there false is = refl

pub contains-files : (cells : Cells) → AreSoundCells cells → (i : ℕ) → contains_key (tidy cells).files i ≡ has_file cells i
contains-files cells sound i = ap is_some (get-files cells sound i) ∙ there-some (has_file cells i) (file_at cells i)

-- The descriptions.

-- what is found among the places that are not empty
opens_from-find : (f : ℕ) (es : List (ℕ × Option OpenFile)) → T (is_sorted nat_cmp es) → find nat_cmp f (opens_from es) ≡ option_flatten (find nat_cmp f es)
opens_from-find f [] h = refl
opens_from-find f ((g, Some o) ∷ es) h =
    elim (eq_by_cmp nat_cmp f g) as (λ b. cond b (Some o) (find nat_cmp f (opens_from es)) ≡ option_flatten (cond b (Some (Some o)) (find nat_cmp f es))) [
      | true ↦ refl
      | false ↦ opens_from-find f es (second _ _ h)
    ]
opens_from-find f ((g, None) ∷ es) h = opens_from-find f es (second _ _ h) ∙ by_tie (eq_by_cmp nat_cmp f g) refl
  where
    by_tie : (b : Bool) → eq_by_cmp nat_cmp f g ≡ b → option_flatten (find nat_cmp f es) ≡ option_flatten (cond b (Some None) (find nat_cmp f es))
    by_tie true is = ap option_flatten (gone nat_cmp nat_cmp_total f g es (tied_from _ is) (first _ _ h))
    by_tie false is = refl

-- a description of the plain tree is one of the cells
pub get-opens : (cells : Cells) (f : ℕ) → get (tidy cells).opens f ≡ open_of cells f
get-opens cells f =
    get-from_entries nat_cmp_total (opens_from (entries cells.opens)) f ∙ opens_from-find f (entries cells.opens) (entries_sorted cells.opens) ∙ ap option_flatten (sym (get-entries cells.opens f))

-- plain trees with the same limits, edges, directories, files and descriptions are one
pub same_plain : (p q : PlainTree) → p.limits ≡ q.limits → ((d : ℕ) (name : List ℕ) → get p.edges (entry_at d name) ≡ get q.edges (entry_at d name)) → ((d : ℕ) → get p.dirs d ≡ get q.dirs d)
    → ((i : ℕ) → get p.files i ≡ get q.files i) → ((f : ℕ) → get p.opens f ≡ get q.opens f) → p ≡ q
same_plain p q limits same_edges same_dirs same_files same_opens =
    let edges = same_map entry_cmp_total entry_cmp_exact p.edges q.edges (λ e. same_edges e.dir e.name) in
    let dirs = same_map nat_cmp_total exact_unsigned p.dirs q.dirs same_dirs in
    let files = same_map nat_cmp_total exact_unsigned p.files q.files same_files in
    let opens = same_map nat_cmp_total exact_unsigned p.opens q.opens same_opens in
    λ i. record { limits = limits i; edges = edges i; dirs = dirs i; files = files i; opens = opens i }
