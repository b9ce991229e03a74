-- When a number is free in sound cells.
use Rattle.std.proofs.Common.{◌≡◌, ◌≢◌, ◌≤◌, ℕ, Bool, true, false, cond, is_some, nat_lt, ◌||◌, ◌==◌, List, Option, Some, None, refl, sym, ap, ◌∙◌, subst, eq-eqb, arith}
use Rattle.std.proofs.lemmas.Bool.{false≢true}
use Rattle.std.proofs.lemmas.Bool.Decides.{nat_tests}
use Rattle.ft_laws.proofs.Tests.{by_option}
use Rattle.std.specs.FinMap as finite
use Rattle.std.specs.Option.{option_map, unwrap_or}
use Rattle.ft_cells.specs.declared.cell.Cell.TheVariants.{Entry, Fd}
use Rattle.ft_cells.specs.declared.node.Node.{Node}
use Rattle.ft_cells.specs.declared.node.Node.TheVariants.{Dir as DirNode, File as FileNode}
use Rattle.ft_cells.specs.declared.node.Kind.{Kind}
use Rattle.ft_cells.specs.declared.open_file.OpenFile.{OpenFile}
use Rattle.ft_cells.specs.Cells.{Cells, FileCells, no_file, entry_of, parent_of, dir_attributes_of, links_of, body_in, open_of, has_dir, has_file, kind_of}
use Rattle.ft_cells.specs.Nodes.{number_of}
use Rattle.ft_tree.specs.Sound.{AreSoundCells, IsFree}
use Rattle.ft_posix.specs.Posix.{node_names, description_names}
use Rattle.ft_posix.proofs.Free.{made_free, has_dir-parent}
use Rattle.ft_posix.proofs.Nameless.{nameless}

pub nothing : {A : Type 0} (o : Option A) → is_some o ≡ false → o ≡ None
nothing None e = refl
nothing (Some x) e = absurd (false≢true (sym e))

-- a kind is none only where there is neither a directory nor a file
no_dir_there : (a b : Bool) (d f : Kind) → cond a (Some d) (cond b (Some f) None) ≡ None → a ≡ false
no_dir_there true b d f e = absurd cc
no_dir_there false b d f e = refl

no_file_there : (a b : Bool) (d f : Kind) → cond a (Some d) (cond b (Some f) None) ≡ None → b ≡ false
no_file_there true b d f e = absurd cc
no_file_there false true d f e = absurd cc
no_file_there false false d f e = refl

-- a number that is no directory has no parent
no_parent : (b : Bool) (p : Option ℕ) → false ≡ (b || is_some p) → p ≡ None
no_parent b None e = refl
no_parent true (Some p) e = absurd (false≢true e)
no_parent false (Some p) e = absurd (false≢true e)

no_links : (n : ℕ) (b : Bool) → (nat_lt 0 n || b) ≡ false → n ≡ 0
no_links n b e = by_count (nat_lt 0 n) refl e
  where
    by_count : (some : Bool) → nat_lt 0 n ≡ some → (some || b) ≡ false → n ≡ 0
    by_count true is e = absurd (false≢true (sym e))
    by_count false is e = grind (arith, nat_tests)

not_stored : (file : Option FileCells) → option_map (λ (f : FileCells). f.contents.bytes) file ≡ None → unwrap_or file no_file ≡ no_file
not_stored None e = refl
not_stored (Some f) e = absurd cc

pub free_number : (cells : Cells) → AreSoundCells cells → (k : ℕ) → 2 ≤ k → kind_of cells k ≡ None → body_in cells k ≡ None → open_of cells k ≡ None → IsFree cells k
free_number cells sound k above kind body closed =
    let stored = not_stored (finite.get cells.files k) body in
    made_free cells k above parent attributes (no_links (links_of cells k) _ file) (ap (λ (f : FileCells). f.attributes) stored) (ap (λ (f : FileCells). f.contents) stored) closed entries files
  where
    dir : has_dir cells k ≡ false
    dir = no_dir_there (has_dir cells k) (has_file cells k) _ _ kind

    file : has_file cells k ≡ false
    file = no_file_there (has_dir cells k) (has_file cells k) _ _ kind

    parent : parent_of cells k ≡ None
    parent = no_parent (k == 1) (parent_of cells k) (sym dir ∙ has_dir-parent cells sound.root_is k)

    attributes : dir_attributes_of cells k ≡ None
    attributes = by_option (dir_attributes_of cells k) (λ none. none) (λ a is. absurd (false≢true (sym dir ∙ sound.attributes k a is)))

    entries : (d : ℕ) (name : List ℕ) (x : Node) → entry_of cells d name ≡ Some x → number_of x ≢ k
    entries d name (DirNode i) is e = absurd (cc (sym parent ∙ subst (λ (j : ℕ). parent_of cells j ≡ Some d) e (sound.tree.leads d name i is)))
    entries d name (FileNode form i) is e =
        let unnamed = nameless cells sound k file (Entry (record { dir = d; name = name })) in
        false≢true (sym unnamed ∙ subst (λ (o : Option Node). node_names o k ≡ true) (sym is) (eq-eqb i k e))

    files : (f : ℕ) (o : OpenFile) → open_of cells f ≡ Some o → o.file ≢ k
    files f o is e = false≢true (sym (nameless cells sound k file (Fd f)) ∙ subst (λ (x : Option OpenFile). description_names x k ≡ true) (sym is) (eq-eqb o.file k e))
