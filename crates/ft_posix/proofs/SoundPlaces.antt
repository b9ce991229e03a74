-- Sound values with their places are sound cells.
use Rattle.std.proofs.Common.{◌≡◌, ℕ, ◌||◌, List, Option, is_some, refl, sym, ap, subst, ◌∙◌}
use Rattle.std.specs.Prelude.{◌==◌}
use Rattle.std.specs.FinMap.{empty}
use Rattle.ft_cells.specs.Entries.{entry_at}
use Rattle.ft_cells.specs.declared.node.Node.{Node}
use Rattle.ft_cells.specs.declared.cell.Cell.TheVariants.{Entry, Parent, Links, Fd, DirAttributes}
use Rattle.ft_cells.specs.Cells.{Cells, entry_of, parent_of}
use Rattle.ft_cells.specs.Limits.{default_limits}
use Rattle.ft_cells.specs.Plain.{PlainTree, view_in}
use Rattle.ft_tree.specs.Sound.{IsTree, IsNoDir}
use Rattle.ft_tree.specs.Tidy.{tidy}
use Rattle.ft_posix.proofs.Free.{has_dir-parent}
use Rattle.ft_posix.proofs.Tidied.{get-tidy, kept_dir, get-dirs, same_plain}
use Rattle.ft_posix.specs.RunLaws.{PlacedLaw}

-- the tree without its files and descriptions, of which the count of links does not depend
abbrev frame : Cells → PlainTree
frame c = record { limits = default_limits; edges = (tidy c).edges; dirs = (tidy c).dirs; files = empty; opens = empty }

pub placed : PlacedLaw
placed s values places =
    let w = values.with_places in
    let ws = values.sound in
    let same = values.same in
    let entries : entry_of w ≡ entry_of s = λ i d name. sym (same.values (Entry (entry_at d name))) i in
    let parents : parent_of w ≡ parent_of s = λ i d. sym (same.values (Parent d)) i in
    let one : frame w ≡ frame s = same_plain (frame w) (frame s) refl
    (λ d name. get-tidy w d name ∙ sym (same.values (Entry (entry_at d name))) ∙ sym (get-tidy s d name))
    (λ d. get-dirs w ws.root_is d ∙ (λ x. kept_dir (λ e. sym (same.values (Parent e)) x) (λ e. sym (same.values (DirAttributes e)) x) d) ∙ sym (get-dirs s places.root d)) (λ i. refl) (λ f. refl) in
    record {
      root_is = places.root;
      tree = subst (λ (f : ℕ → List ℕ → Option Node). IsTree f (parent_of s)) entries (subst (λ (f : ℕ → Option ℕ). IsTree (entry_of w) f) parents ws.tree);
      links = λ i. same.values (Links i) ∙ ws.links i ∙ ap (λ p. view_in p (Links i)) one;
      opens = λ f o h. (places.opens f o h, subst (λ (g : ℕ → Option ℕ). IsNoDir g o.file) parents (ws.opens f o (sym (same.values (Fd f)) ∙ h)).1);
      attributes = λ d a h.
          has_dir-parent s places.root d ∙ ap (λ o. (d == 1) || is_some o) (same.values (Parent d)) ∙ sym (has_dir-parent w ws.root_is d)
          ∙ ws.attributes d a (sym (same.values (DirAttributes d)) ∙ h);
    }
