-- What is read of a tree in two parts, one after the other.
use Rattle.std.proofs.Common.{◌≡◌, List, [], ◌∷◌, refl, sym, ap, ◌∙◌}
use Rattle.ft_cells.specs.declared.cell.Cell.{Cell}
use Rattle.ft_cells.specs.Cells.{Cells}
use Rattle.ft_cells.specs.Looks.{Looks, answer, looked_at, all_noted, then, answer-then, all_noted-then}
use Rattle.ft_tree.specs.Views.{view_of}

module _ {R : Type 0} (cells : R → Cells) (noted : R → Cell → R) (stays : (r : R) (c : Cell) → cells (noted r c) ≡ cells r) where
  -- it is one tree that is read
  same-cells : (r : R) (cs : List Cell) → cells (all_noted noted r cs) ≡ cells r
  same-cells r [] = refl
  same-cells r (c ∷ cs) = same-cells (noted r c) cs ∙ stays r c

  module _ {A B : Type 0} (old mid : R) (s : Looks A) (f : A → Looks B) (x : A) (is : x ≡ answer s (view_of (cells old))) (looks : mid ≡ all_noted noted old (looked_at s (view_of (cells old)))) where
    mid-cells : cells mid ≡ cells old
    mid-cells = ap cells looks ∙ same-cells old (looked_at s (view_of (cells old)))

    -- what is found out behind the first part
    pub end-on : answer (f x) (view_of (cells mid)) ≡ answer (then s f) (view_of (cells old))
    end-on = ap (λ k. answer (f x) (view_of k)) mid-cells ∙ ap (λ y. answer (f y) (view_of (cells old))) is ∙ sym (answer-then s f (view_of (cells old)))

    -- and what is noted
    pub noted-on : all_noted noted mid (looked_at (f x) (view_of (cells mid))) ≡ all_noted noted old (looked_at (then s f) (view_of (cells old)))
    noted-on =
        ap (λ k. all_noted noted mid (looked_at (f x) (view_of k))) mid-cells
        ∙ ap (λ y. all_noted noted mid (looked_at (f y) (view_of (cells old)))) is
        ∙ ap (λ r. all_noted noted r (looked_at (f (answer s (view_of (cells old)))) (view_of (cells old)))) looks
        ∙ sym (all_noted-then noted old s f (view_of (cells old)))
