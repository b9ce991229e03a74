-- The edges of the plain tree after an entry was set, and their count.
use Rattle.std.proofs.Common.{◌≡◌, ◌≢◌, ℕ, ◌+◌, Bool, cond, arith, ne_eqb, ◌&&◌, List, Option, Some, None, Ordering, refl, sym, ap, ◌∙◌}
use Rattle.std.specs.Prelude.{◌==◌}
use Rattle.std.specs.declared.cmp.Ordering.TheVariants.{Less, Equal, Greater}
use Rattle.std.specs.Ordering.{nat_cmp, is_eq, eq_by_cmp, ordering_then}
use Rattle.std.specs.Cmp.{unsigned_tied}
use Rattle.std.specs.Cmp.Lexicographic.{slice_cmp, texts_ties}
use Rattle.std.specs.FinMap.{FinMap, get, get-insert, get-remove, same_map}
use Rattle.ft_cells.specs.Entries.{entry_at, entry_cmp, entry_cmp_total, entry_cmp_exact}
use Rattle.ft_cells.specs.declared.node.Node.{Node}
use Rattle.ft_cells.specs.Nodes.{number_of}
use Rattle.ft_cells.specs.Cells.{Cells, entry_of, put_entry}
use Rattle.ft_cells.specs.Plain.{links_in}
use Rattle.ft_tree.specs.Tidy.{tidy}
use Rattle.ft_posix.specs.Exec.{set_edge}
use Rattle.ft_posix.proofs.Puts.{is_place, with_entry, entry-put_entry}
use Rattle.ft_posix.proofs.Tidied.{get-tidy}
use Rattle.ft_posix.proofs.Counting.{count_edges, count-insert, count-remove}

-- edges tie where their places are the same
edge_tied : (d e : ℕ) (name other : List ℕ) → eq_by_cmp entry_cmp (entry_at e other) (entry_at d name) ≡ is_place d name e other
edge_tied d e name other = by_number (nat_cmp e d) ∙ (λ i. unsigned_tied e d i && sym (texts_ties other name) i)
  where
    by_number : (r : Ordering) → is_eq (ordering_then r (slice_cmp nat_cmp other name)) ≡ (is_eq r && is_eq (slice_cmp nat_cmp other name))
    by_number Less = refl
    by_number Equal = refl
    by_number Greater = refl

-- the edges after one was drawn, or taken away
pub get-set_edge : (m : FinMap entry_cmp Node) (d : ℕ) (name : List ℕ) (to : Option Node) (e : ℕ) (other : List ℕ) → get (set_edge m (entry_at d name) to) (entry_at e other) ≡ cond (is_place d name e other) to (get m (entry_at e other))
get-set_edge m d name None e other = get-remove entry_cmp_total m (entry_at d name) (entry_at e other) ∙ ap (λ b. cond b None (get m (entry_at e other))) (edge_tied d e name other)
get-set_edge m d name (Some x) e other = get-insert entry_cmp_total m (entry_at d name) x (entry_at e other) ∙ ap (λ b. cond b (Some x) (get m (entry_at e other))) (edge_tied d e name other)

-- cells of the same entries have the same edges
pub edges-same : (old new : Cells) → entry_of new ≡ entry_of old → (tidy new).edges ≡ (tidy old).edges
edges-same old new is = same_map entry_cmp_total entry_cmp_exact _ _ (λ e. get-tidy new e.dir e.name ∙ ap (λ f. f e.dir e.name) is ∙ sym (get-tidy old e.dir e.name))

-- and where one entry was set, that edge is set
pub edges-set : (old new : Cells) (d : ℕ) (name : List ℕ) (to : Option Node) → entry_of new ≡ with_entry (entry_of old) d name to → (tidy new).edges ≡ set_edge (tidy old).edges (entry_at d name) to
edges-set old new d name to is =
    same_map entry_cmp_total entry_cmp_exact _ _
    (λ e. get-tidy new e.dir e.name ∙ ap (λ f. f e.dir e.name) is
    ∙ sym (get-set_edge (tidy old).edges d name to e.dir e.name ∙ ap (cond (is_place d name e.dir e.name) to) (get-tidy old e.dir e.name)))

pub edges-put_entry : (cells : Cells) (d : ℕ) (name : List ℕ) (to : Option Node) → (tidy (put_entry cells d name to)).edges ≡ set_edge (tidy cells).edges (entry_at d name) to
edges-put_entry cells d name to = edges-set cells (put_entry cells d name to) d name to (λ i e other. entry-put_entry cells d name to e other i)

-- The count.

-- where an entry is made, the count of its number grows
pub count-drawn : (old new : Cells) (d : ℕ) (name : List ℕ) (x : Node) → entry_of new ≡ with_entry (entry_of old) d name (Some x) → entry_of old d name ≡ None → (i : ℕ)
    → links_in (tidy new) i ≡ cond (number_of x == i) 1 0 + links_in (tidy old) i
count-drawn old new d name x is empty i = ap (λ m. count_edges m i) (edges-set old new d name (Some x) is) ∙ count-insert (tidy old).edges (entry_at d name) x i (get-tidy old d name ∙ empty)

-- and at another number it stays
pub count-other : (k i n m : ℕ) → i ≢ k → n ≡ cond (k == i) 1 0 + m → n ≡ m
count-other k i n m other sum =
    let none : ◌≡◌ {A = ℕ} (cond (k == i) 1 0) 0 = ap (λ (b : Bool). cond {A = ℕ} b 1 0) (ne_eqb k i (λ is. other (sym is))) in omega arith

-- where one is taken away, the count of its number goes down
pub count-erased : (old new : Cells) (d : ℕ) (name : List ℕ) (x : Node) → entry_of new ≡ with_entry (entry_of old) d name None → entry_of old d name ≡ Some x → (i : ℕ)
    → cond (number_of x == i) 1 0 + links_in (tidy new) i ≡ links_in (tidy old) i
count-erased old new d name x is was i =
    ap (λ m. cond (number_of x == i) 1 0 + count_edges m i) (edges-set old new d name None is) ∙ count-remove (tidy old).edges (entry_at d name) x i (get-tidy old d name ∙ was)
