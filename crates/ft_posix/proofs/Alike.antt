-- Cells that hold the same show the same, and a call does the same on them.
use Rattle.std.proofs.Common.{◌≡◌, ◌+◌, ◌≤◌, ℕ, true, List, [], ◌∷◌, Option, inl, inr, arith, refl, sym, ap, subst, eq-eqb, ◌∙◌}
use Rattle.std.specs.Ordering.{nat_cmp}
use Rattle.std.specs.Cmp.Lexicographic.{slice_cmp, nat_list_cmp_total}
use Rattle.std.specs.FinMap.{empty, entries, entries_sorted}
use Rattle.std.specs.FinMap.Entries.{same_entries}
use Rattle.std.proofs.lemmas.Map.Lookups.{exact_bytes}
use Rattle.ft_laws.specs.Lists.{In}
use Rattle.ft_cells.specs.Entries.{entry_at}
use Rattle.ft_cells.specs.declared.node.Node.{Node}
use Rattle.ft_cells.specs.declared.cell.Cell.{Cell}
use Rattle.ft_cells.specs.declared.cell.Cell.TheVariants.{Entry, Names, Parent, Links, Bytes, Fd, DirAttributes, FileAttributes}
use Rattle.ft_cells.specs.Cells.{Cells, DirCells, dir_entry, dir_names, dir_of, directory_count, entry_of, parent_of}
use Rattle.ft_tree.specs.Views.{view_of}
use Rattle.ft_cells.specs.Looks.{View, Agree, answer, looked_at, answer-agree, looked_at-agree}
use Rattle.ft_tree.specs.Held.{held}
use Rattle.ft_tree.specs.Sound.{IsTree, SaysNothingOf, IsFree, SameValues}
use Rattle.ft_cells.specs.CellOrder.{same_cell-refl}
use Rattle.ft_posix.specs.declared.call.Call.{Call}
use Rattle.ft_posix.specs.Outcomes.{Write}
use Rattle.ft_posix.specs.Steps.{steps}
use Rattle.ft_posix.specs.Stored.{put_all, outcome}
use Rattle.ft_posix.specs.Accesses.{with_looks, with_writes, listed, accesses_of}
use Rattle.ft_posix.specs.Posix.{covers, HasSoundValues}
use Rattle.ft_posix.proofs.Puts.{entry_after, parent_after, dir_attributes_after, links_after, file_attributes_after, contents_after, open_after, entry-put_all, parent-put_all, dir_attributes-put_all, links-put_all, file_attributes-put_all, contents-put_all, open-put_all, limits-put_all}
use Rattle.ft_posix.proofs.Tidied.{dir_names-find}
use Rattle.ft_posix.proofs.Below.{IsEnough, StoredEnough, StepsAlike}
use Rattle.ft_posix.proofs.Accessed.{with_accesses-parts}
use Rattle.ft_posix.proofs.Listed.{sorted_filled}

-- Names.

-- directories with the same entries have the same list of names
pub names-alike : (x y : DirCells) → ((name : List ℕ) → dir_entry x name ≡ dir_entry y name) → dir_names x ≡ dir_names y
names-alike x y same =
    same_entries (slice_cmp nat_cmp) nat_list_cmp_total exact_bytes (dir_names x) (dir_names y) (sorted_filled (entries x.entries) (entries_sorted x.entries)) (sorted_filled (entries y.entries) (entries_sorted y.entries))
    (λ name. dir_names-find name x ∙ same name ∙ sym (dir_names-find name y))

-- Views.

-- where all that a cell covers holds the same, the cell shows the same
pub view-covered : (s t : Cells) (c : Cell) → ((x : Cell) → covers c x ≡ true → held s x ≡ held t x) → view_of s c ≡ view_of t c
view-covered s t (Entry entry) same = same (Entry entry) (same_cell-refl (Entry entry))
view-covered s t (Names d) same = names-alike (dir_of s d) (dir_of t d) (λ name. same (Entry (entry_at d name)) (eq-eqb d d refl))
view-covered s t (Parent d) same = same (Parent d) (same_cell-refl (Parent d))
view-covered s t (Links i) same = same (Links i) (same_cell-refl (Links i))
view-covered s t (Bytes i) same = same (Bytes i) (same_cell-refl (Bytes i))
view-covered s t (Fd f) same = same (Fd f) (same_cell-refl (Fd f))
view-covered s t (DirAttributes d) same = same (DirAttributes d) (same_cell-refl (DirAttributes d))
view-covered s t (FileAttributes i) same = same (FileAttributes i) (same_cell-refl (FileAttributes i))

-- views that show the same of each cell of a list agree on it
pub agree-each : (v w : View) (cs : List Cell) → ((c : Cell) → In c cs → v c ≡ w c) → Agree v w cs
agree-each v w [] same = tt
agree-each v w (c ∷ cs) same = (same c (inl refl), agree-each v w cs (λ d i. same d (inr i)))

-- Cells of the same values.

-- the other way round
pub same_back : (old new : Cells) → SameValues old new → SameValues new old
same_back old new same = record { limits = sym same.limits; values = λ c. sym (same.values c) }

-- they are a tree alike
pub same_tree : (old new : Cells) → SameValues old new → IsTree (entry_of old) (parent_of old) → IsTree (entry_of new) (parent_of new)
same_tree old new same tree =
    let entries : entry_of old ≡ entry_of new = λ i d name. sym (same.values (Entry (entry_at d name))) i in
    let parents : parent_of old ≡ parent_of new = λ i d. sym (same.values (Parent d)) i in
    subst (λ (f : ℕ → List ℕ → Option Node). IsTree f (parent_of new)) entries (subst (λ (f : ℕ → Option ℕ). IsTree (entry_of old) f) parents tree)

-- the same numbers are free
pub same_free : (old new : Cells) → ((c : Cell) → held new c ≡ held old c) → (k : ℕ) → IsFree old k → IsFree new k
same_free old new same k free = record { above_root = free.above_root; unused = λ c. subst (SaysNothingOf k c) (sym (same c)) (free.unused c) }

-- and they have the same values after the same writes
pub same_after : (ws : List Write) (old new : Cells) → SameValues old new → SameValues (put_all old ws) (put_all new ws)
same_after ws old new same = record { limits = limits-put_all ws new ∙ same.limits ∙ sym (limits-put_all ws old); values = values }
  where
    values : (c : Cell) → held (put_all new ws) c ≡ held (put_all old ws) c
    values (Entry entry) = ap (λ f. f entry.dir entry.name) (entry-put_all ws new ∙ (λ i. entry_after (λ e other. same.values (Entry (entry_at e other)) i) ws) ∙ sym (entry-put_all ws old))
    values (Names d) = refl
    values (Parent d) = ap (λ f. f d) (parent-put_all ws new ∙ (λ i. parent_after (λ e. same.values (Parent e) i) ws) ∙ sym (parent-put_all ws old))
    values (Links n) = ap (λ f. f n) (links-put_all ws new ∙ (λ i. links_after (λ e. same.values (Links e) i) ws) ∙ sym (links-put_all ws old))
    values (Bytes n) = ap (λ f. f n) (contents-put_all ws new ∙ (λ i. contents_after (λ e. same.values (Bytes e) i) ws) ∙ sym (contents-put_all ws old))
    values (Fd f) = ap (λ g. g f) (open-put_all ws new ∙ (λ i. open_after (λ e. same.values (Fd e) i) ws) ∙ sym (open-put_all ws old))
    values (DirAttributes d) = ap (λ f. f d) (dir_attributes-put_all ws new ∙ (λ i. dir_attributes_after (λ e. same.values (DirAttributes e) i) ws) ∙ sym (dir_attributes-put_all ws old))
    values (FileAttributes n) = ap (λ f. f n) (file_attributes-put_all ws new ∙ (λ i. file_attributes_after (λ e. same.values (FileAttributes e) i) ws) ∙ sym (file_attributes-put_all ws old))

-- sound values are those of a tree
pub tree-values : (cells : Cells) → HasSoundValues cells → IsTree (entry_of cells) (parent_of cells)
tree-values cells has = same_tree has.with_places cells has.same has.sound.tree

-- Calls.

-- what is looked at by the call with stamp k
abbrev pub looked : Cells → ℕ → Call → List Cell
looked cells k call = looked_at (steps cells.limits (directory_count cells) k call) (view_of cells)

-- the call does the same in both
pub record DoesAlike (s t : Cells) (k : ℕ) (call : Call) : Type 0 where
  pub outcomes : outcome s k call ≡ outcome t k call
  pub looks : looked s k call ≡ looked t k call

-- so its accesses are the same
pub accesses-alike : (s t : Cells) (k : ℕ) (call : Call) → DoesAlike s t k call → accesses_of s k call ≡ accesses_of t k call
accesses-alike s t k call alike =
    ap listed (with_accesses-parts (steps s.limits (directory_count s) k call) empty (view_of s)) ∙ (λ i. listed (with_writes (with_looks empty (alike.looks i)) (alike.outcomes i).writes))
    ∙ sym (ap listed (with_accesses-parts (steps t.limits (directory_count t) k call) empty (view_of t)))

module _ (steps-alike : StepsAlike) (stored-enough : StoredEnough) where
  -- more than enough is enough
  enough : (cells : Cells) (n m : ℕ) → IsEnough cells n → n ≤ m → IsEnough cells m
  enough cells n m h le d hangs = let below = h d hangs in omega arith

  -- on trees that show the same where it looks a call does the same
  pub does-alike : (s t : Cells) → IsTree (entry_of s) (parent_of s) → IsTree (entry_of t) (parent_of t) → (k : ℕ) (call : Call) → s.limits ≡ t.limits → Agree (view_of s) (view_of t) (looked s k call) → DoesAlike s t k call
  does-alike s t tree_s tree_t k call limits agree =
      let n = directory_count s + directory_count t in
      let enough_s = stored-enough s tree_s in
      let enough_t = stored-enough t tree_t in
      let from = steps-alike s.limits s tree_s (directory_count s) n enough_s (enough s (directory_count s) n enough_s (omega arith)) k call in
      let to = steps-alike s.limits t tree_t n (directory_count t) (enough t (directory_count t) n enough_t (omega arith)) enough_t k call in
      let there : Agree (view_of s) (view_of t) (looked_at (steps s.limits n k call) (view_of s)) = subst (Agree (view_of s) (view_of t)) from.1 agree in
      record {
        outcomes = from.0 ∙ answer-agree (steps s.limits n k call) (view_of s) (view_of t) there ∙ to.0 ∙ ap (λ l. answer (steps l (directory_count t) k call) (view_of t)) limits;
        looks = from.1 ∙ looked_at-agree (steps s.limits n k call) (view_of s) (view_of t) there ∙ to.1 ∙ ap (λ l. looked_at (steps l (directory_count t) k call) (view_of t)) limits;
      }

  -- and so it does on trees of the same values
  pub does-same : (old new : Cells) → SameValues old new → IsTree (entry_of old) (parent_of old) → (k : ℕ) (call : Call) → DoesAlike old new k call
  does-same old new same tree k call =
      does-alike old new tree (same_tree old new same tree) k call (sym same.limits)
      (agree-each (view_of old) (view_of new) (looked old k call) (λ c i. view-covered old new c (λ x h. sym (same.values x))))
