use Rattle.std.proofs.Common.{◌≡◌, ◌∷◌, ◌++◌, rules, ap, sym, append_assoc, ◌∙◌}
use Rattle.ft_cells.specs.Cells.{dir_names}
use Rattle.ft_tree.specs.Tidy.{edges_from}
use Rattle.ft_cells.specs.Rows.{edge_rows, named_rows}
use Rattle.ft_tree.proofs.TidyRows.{edge_rows-at}
use Rattle.ft_tree.proofs.rows.push_edges.Goals as goal

pub loop-number-preserved : goal.loop-number-preserved
loop-number-preserved c =
    let before = c.loop-number.rows.items in
    let rest = c.next.new.self in
    let names = named_rows c.in-Some.number (dir_names c.in-Some.directory.now) in
    let first : c.loop-number.number-iterator ≡ (c.in-Some.number, c.in-Some.directory.now) ∷ c.next.new.self = search rules in
    ap (λ rows. rows ++ edge_rows (edges_from rest)) c.in_ok-push_edges.ensures
    ∙ append_assoc before names (edge_rows (edges_from rest))
    ∙ ap (λ rows. before ++ rows) (sym (edge_rows-at (c.in-Some.number, c.in-Some.directory.now) (edges_from rest)))
    ∙ ap (λ es. before ++ edge_rows (edges_from es)) (sym first)
    ∙ c.loop-number.invariant
