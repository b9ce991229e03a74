-- Sound cells are a sound plain tree.
use Rattle.std.proofs.Common.{◌≡◌, ◌≢◌, ℕ, Bool, true, false, cond, ◌||◌, List, Some, is_some, arith, refl, sym, ap, subst, ◌∙◌}
use Rattle.std.specs.Prelude.{nat_lt}
use Rattle.std.proofs.lemmas.Bool.{false≢true, lt-ltb}
use Rattle.std.proofs.lemmas.Option.{same_Some}
use Rattle.std.proofs.Math.Bool.{or-true}
use Rattle.std.specs.FinMap.{get, contains_key}
use Rattle.ft_cells.specs.Entries.{entry_at}
use Rattle.ft_cells.specs.declared.entry.Entry.{Entry as DirEntry}
use Rattle.ft_cells.specs.declared.node.Node.{Node}
use Rattle.ft_cells.specs.declared.node.Node.TheVariants.{Dir as DirNode, File as FileNode}
use Rattle.ft_cells.specs.Nodes.{number_of}
use Rattle.ft_cells.specs.Cells.{Cells, entry_of, parent_of, links_of, is_open, has_file}
use Rattle.ft_cells.specs.Plain.{parent_in, links_in}
use Rattle.ft_tree.specs.Tidy.{tidy}
use Rattle.ft_tree.specs.Sound.{Stands, Hangs, the_root, under, AreSoundCells}
use Rattle.ft_posix.specs.Laws.{PlainSoundnessLaw}
use Rattle.ft_posix.proofs.Opens.{open-named, named-open}
use Rattle.ft_posix.proofs.Tidied.{get-tidy, get-opens, contains-files}
use Rattle.ft_posix.proofs.Counting.{count-some}
use Rattle.ft_posix.proofs.Parents.{contains-root, contains-under, contains-hangs, hangs-contains, contains-no_dir, entry-edge, parent_in-tidy}

module _ (cells : Cells) (sound : AreSoundCells cells) where
  -- an edge is an entry
  pub edge-entry : (d : ℕ) (name : List ℕ) (x : Node) → get (tidy cells).edges (entry_at d name) ≡ Some x → entry_of cells d name ≡ Some x
  edge-entry d name x h = sym (get-tidy cells d name) ∙ h

  -- a number that is no directory has the links that lead to it
  pub links-no_dir : (i : ℕ) → contains_key (tidy cells).dirs i ≡ false → links_of cells i ≡ links_in (tidy cells) i
  links-no_dir i h = sound.links i ∙ ap (λ b. cond b 0 (links_in (tidy cells) i)) h

  -- what an edge leads to, where it is no directory, is there as a file
  pub file-edge : (e : DirEntry) (x : Node) → contains_key (tidy cells).dirs (number_of x) ≡ false → get (tidy cells).edges e ≡ Some x → has_file cells (number_of x) ≡ true
  file-edge e x none h =
      let i = number_of x in
      let linked : links_of cells i ≢ 0 = λ is. count-some (tidy cells).edges e x h (sym (links-no_dir i none) ∙ is) in
      ap (λ b. b || is_open cells.opens i) (lt-ltb 0 (links_of cells i) (omega arith))

  -- a directory has no links, and no description names it
  pub dir-no_file : (i : ℕ) → contains_key (tidy cells).dirs i ≡ true → has_file cells i ≡ false
  dir-no_file i dir = (λ x. nat_lt 0 ((sound.links i ∙ ap (λ b. cond b 0 (links_in (tidy cells) i)) dir) x) || is_open cells.opens i) ∙ by_open (is_open cells.opens i) refl
    where
      by_open : (b : Bool) → is_open cells.opens i ≡ b → is_open cells.opens i ≡ false
      by_open true is =
          let x = named-open cells i is in
          absurd (false≢true (sym (contains-no_dir cells sound x.1.file (sound.opens x.0 x.1 x.2).1) ∙ ap (contains_key (tidy cells).dirs) x.3 ∙ dir))
      by_open false is = is

  -- no edge leads to the root
  no_edge_up : (e : DirEntry) (x : Node) → get (tidy cells).edges e ≡ Some x → number_of x ≢ 1
  no_edge_up e x h root =
      let leads = sound.tree.leads e.dir e.name 1 (entry-edge cells sound e.dir e.name x (ap (contains_key (tidy cells).dirs) root ∙ contains-root cells sound) h ∙ ap (λ n. Some (DirNode n)) root) in
      false≢true (ap is_some (sym sound.tree.top ∙ leads))

  -- an edge leads to a directory or a file
  leads_to : (e : DirEntry) (x : Node) → get (tidy cells).edges e ≡ Some x → Stands (tidy cells) x
  leads_to e (DirNode i) h = contains-under cells sound i e.dir (sound.tree.leads e.dir e.name i (edge-entry e.dir e.name (DirNode i) h))
  leads_to e (FileNode form i) h = contains-files cells sound i ∙ file-edge e (FileNode form i) (contains-no_dir cells sound i (sound.tree.apart e.dir e.name form i (edge-entry e.dir e.name (FileNode form i) h))) h

  -- a directory has an edge
  stands_in : (i : ℕ) → contains_key (tidy cells).dirs i ≡ true → i ≢ 1 → (e : DirEntry) × (get (tidy cells).edges e ≡ Some (DirNode i))
  stands_in i dir other = by_hanging i (hangs-contains cells sound i dir) other
    where
      by_hanging : (i : ℕ) → Hangs (parent_of cells) i → i ≢ 1 → (e : DirEntry) × (get (tidy cells).edges e ≡ Some (DirNode i))
      by_hanging _ the_root other = absurd (other refl)
      by_hanging _ (under d p h up) other = let place = sound.tree.stands d p h in (entry_at p place.0, get-tidy cells p place.0 ∙ place.1)

  -- and one alone
  one_edge : (i : ℕ) → contains_key (tidy cells).dirs i ≡ true → (e f : DirEntry) → get (tidy cells).edges e ≡ Some (DirNode i) → get (tidy cells).edges f ≡ Some (DirNode i) → e ≡ f
  one_edge i dir e f h g =
      let at_e = edge-entry e.dir e.name (DirNode i) h in
      let at_f = edge-entry f.dir f.name (DirNode i) g in
      let same : f.dir ≡ e.dir = same_Some _ _ (sym (sound.tree.leads f.dir f.name i at_f) ∙ sound.tree.leads e.dir e.name i at_e) in
      let names : e.name ≡ f.name = sound.tree.once e.dir e.name f.name i at_e (subst (λ d. entry_of cells d f.name ≡ Some (DirNode i)) same at_f) in
      λ x. entry_at (sym same x) (names x)

  -- the parents that are found lead up to the root
  found_up : (d : ℕ) → Hangs (parent_of cells) d → Hangs (parent_in (tidy cells)) d
  found_up _ the_root = the_root
  found_up _ (under d p h up) = under d p (parent_in-tidy cells sound d (contains-under cells sound d p h) ∙ h) (found_up p up)

-- sound cells are a sound plain tree
pub plain_soundness : PlainSoundnessLaw
plain_soundness cells sound = record {
  root = contains-root cells sound;
  top = no_edge_up cells sound;
  starts = λ e x h. contains-hangs cells sound e.dir (sound.tree.starts e.dir e.name x (edge-entry cells sound e.dir e.name x h));
  leads = leads_to cells sound;
  apart = λ i dir. contains-files cells sound i ∙ dir-no_file cells sound i dir;
  stands = stands_in cells sound;
  once = one_edge cells sound;
  hangs = λ d dir. found_up cells sound d (hangs-contains cells sound d dir);
  opens = λ f o h. contains-files cells sound o.file ∙ ap (λ b. nat_lt 0 (links_of cells o.file) || b) (open-named cells f o (sym (get-opens cells f) ∙ h)) ∙ or-true (nat_lt 0 (links_of cells o.file));
}
