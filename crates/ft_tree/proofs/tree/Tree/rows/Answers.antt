use Rattle.std.proofs.Common.{◌++◌, ap, ◌∙◌}
use Rattle.std.specs.FinMap as finite
use Rattle.ft_cells.specs.Cells.{Cells}
use Rattle.ft_tree.specs.Tidy.{tidy, dirs_from, edges_from, files_from, opens_from}
use Rattle.ft_cells.specs.Rows.{rows_of, dir_rows, edge_rows, file_rows, dir_attributes_rows, file_attributes_rows, time_rows, open_rows}
use Rattle.ft_tree.proofs.TidyRows.{rows-tidy}
use Rattle.ft_tree.proofs.tree.Tree.rows.Goals as goal

pub returns : goal.returns
returns c =
    let dirs = dirs_from (finite.entries c.self.inside.inodes.directories) in
    let edges = edge_rows (edges_from (finite.entries c.self.inside.inodes.directories)) in
    let files = files_from c.self.inside.opens (finite.entries c.self.inside.inodes.files) in
    let opens = open_rows (opens_from (finite.entries c.self.inside.opens)) in
    c.in_ok-push_opens.ensures
    ∙ ap (λ m. c.push_times.new.rows.items ++ open_rows (opens_from (finite.entries m))) c.places.ensures
    ∙ ap (λ rows. rows ++ opens) (c.in_ok-push_times.ensures
    ∙ ap (λ rows. rows ++ time_rows files) (c.in_ok-push_file_attributes.ensures
    ∙ ap (λ rows. rows ++ file_attributes_rows files) (c.in_ok-push_dir_attributes.ensures
    ∙ ap (λ rows. rows ++ dir_attributes_rows dirs) (c.in_ok-push_files.ensures
    ∙ ap (λ rows. rows ++ file_rows files) (c.in_ok-push_edges.ensures
    ∙ ap (λ rows. rows ++ edges) (c.in_ok-push_dirs.ensures ∙ ap (λ rows. rows ++ dir_rows dirs) c.new-rows.ensures.items))))))
    ∙ rows-tidy (record { limits = c.self.inside.limits; directories = c.self.inside.inodes.directories; files = c.self.inside.inodes.files; opens = c.self.inside.opens }) ∙ ap (λ (cells : Cells). rows_of (tidy cells)) c.self.view_is
