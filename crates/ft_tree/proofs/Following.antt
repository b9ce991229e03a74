-- What is read of a tree behind a leg of a walk.
use Rattle.std.proofs.Common.{◌≡◌, ℕ, zero, suc, Bool, List, Result, Err, refl, sym, ap, ◌∙◌}
use Rattle.ft_path.specs.declared.errno.Errno.{Errno}
use Rattle.ft_path.specs.declared.errno.Errno.TheVariants.{ELOOP}
use Rattle.ft_cells.specs.declared.node.PathEnd.{PathEnd}
use Rattle.ft_cells.specs.declared.cell.Cell.{Cell}
use Rattle.ft_cells.specs.Cells.{Cells}
use Rattle.ft_cells.specs.Looks.{Looks, Answer, answer, looked_at, all_noted}
use Rattle.ft_tree.specs.Views.{view_of}
use Rattle.ft_tree.specs.Walk.{Leg, Ends, Meets, leg, onward, ended, walk_on}
use Rattle.ft_tree.proofs.Reading.{end-on, noted-on}

-- what is behind a leg, where so many links may still be followed
abbrev pub behind : ℕ → Bool → Bool → Leg → Looks (Result PathEnd Errno)
behind zero follow slash = λ end. Answer (ended end)
behind (suc left) follow slash = onward (walk_on left follow) slash

-- nothing is behind one that ends
pub behind-ends : (left : ℕ) (follow slash : Bool) (end : Result PathEnd Errno) → behind left follow slash (Ends end) ≡ Answer end
behind-ends zero follow slash end = refl
behind-ends (suc left) follow slash end = refl

-- nor behind one that meets a link too many
pub behind-last : (left : ℕ) (follow slash : Bool) (link dir : ℕ) (names : List (List ℕ)) → left ≡ 0 → behind left follow slash (Meets link dir names) ≡ Answer (Err ELOOP)
behind-last left follow slash link dir names is = ap (λ n. behind n follow slash (Meets link dir names)) is

-- and else the link is followed
pub behind-more : (left less : ℕ) (follow slash : Bool) (end : Leg) → left ≡ suc less → behind left follow slash end ≡ onward (walk_on less follow) slash end
behind-more left less follow slash end is = ap (λ n. behind n follow slash end) is

module _ {R : Type 0} (cells : R → Cells) (noted : R → Cell → R) (stays : (r : R) (c : Cell) → cells (noted r c) ≡ cells r) (old mid : R) (follow : Bool) (dir : ℕ) (names : List (List ℕ)) (slash : Bool) (end : Leg)
    (is : end ≡ answer (leg dir names follow slash) (view_of (cells old))) (looks : mid ≡ all_noted noted old (looked_at (leg dir names follow slash) (view_of (cells old)))) where
  -- a walk is a leg, and what is behind it
  pub walk-end : (left : ℕ) (s : Looks (Result PathEnd Errno)) → behind left follow slash end ≡ s → answer s (view_of (cells mid)) ≡ answer (walk_on left follow dir names slash) (view_of (cells old))
  walk-end zero s same = ap (λ t. answer t (view_of (cells mid))) (sym same) ∙ end-on cells noted stays old mid (leg dir names follow slash) (λ e. Answer (ended e)) end is looks
  walk-end (suc left) s same = ap (λ t. answer t (view_of (cells mid))) (sym same) ∙ end-on cells noted stays old mid (leg dir names follow slash) (onward (walk_on left follow) slash) end is looks

  pub walk-noted : (left : ℕ) (s : Looks (Result PathEnd Errno)) → behind left follow slash end ≡ s → all_noted noted mid (looked_at s (view_of (cells mid))) ≡ all_noted noted old (looked_at (walk_on left follow dir names slash) (view_of (cells old)))
  walk-noted zero s same = ap (λ t. all_noted noted mid (looked_at t (view_of (cells mid)))) (sym same) ∙ noted-on cells noted stays old mid (leg dir names follow slash) (λ e. Answer (ended e)) end is looks
  walk-noted (suc left) s same = ap (λ t. all_noted noted mid (looked_at t (view_of (cells mid)))) (sym same) ∙ noted-on cells noted stays old mid (leg dir names follow slash) (onward (walk_on left follow) slash) end is looks
