use Rattle.std.proofs.Common.{ap, sym, is_some, is_none, unwrap_or, ◌&&◌, ◌∙◌}
use Rattle.std.specs.Ordering.{nat_cmp}
use Rattle.std.specs.Cmp.Lexicographic.{slice_cmp}
use Rattle.std.specs.FinMap.{contains_key, get-empty}
use Rattle.ft_cells.specs.Cells.{Cells, no_dir, dir_of, dir_entry, entry_of}
use Rattle.ft_tree.proofs.tree.Tree.is_empty_entry.Goals as goal

-- there is no such directory
pub returns-in-None : goal.returns-in-None
returns-in-None c =
    sym (ap (λ o. is_some o && is_none (dir_entry no_dir c.args.entry.now.name)) (get-empty (slice_cmp nat_cmp) c.args.entry.now.name))
    ∙ ap (λ o. contains_key (unwrap_or o no_dir).entries c.args.entry.now.name && is_none (dir_entry (unwrap_or o no_dir) c.args.entry.now.name)) c.in-None.ensures
    ∙ ap (λ (cells : Cells). contains_key (dir_of cells c.args.entry.now.dir).entries c.args.entry.now.name && is_none (entry_of cells c.args.entry.now.dir c.args.entry.now.name)) c.self.view_is
