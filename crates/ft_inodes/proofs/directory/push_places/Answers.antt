use Rattle.std.proofs.Common.{◌≡◌, ◌++◌, ◌∷◌, [], ◌+◌, None, Some, List, ℕ, take, ap, sym, append_assoc, ◌∙◌}
use Rattle.std.specs.List.{filter_map}
use Rattle.std.specs.Global.{Vec}
use Rattle.ft_cells.specs.declared.row.TreeRow.{TreeRow}
use Rattle.ft_cells.specs.declared.row.TreeRow.TheVariants.{Edge as EdgeRow}
use Rattle.ft_cells.specs.Entries.{entry_at}
use Rattle.ft_cells.specs.Rows.{named_rows}
use Rattle.ft_cells.specs.Cells.{filled}
use Rattle.ft_inodes.specs.Named.{shown}
use Rattle.ft_inodes.proofs.Ordered.{entries_more, entries_none, rows_more}
use Rattle.ft_inodes.proofs.directory.push_places.Goals as goal
use Rattle.ft_inodes.proofs.directory.push_places.Goals.{in-Some+in_ok-to_entry+in_ok-push, in_default}

pub loop-place-preserved : goal.loop-place-preserved
loop-place-preserved c =
    let at = c.loop-place.place-index in
    let places = c.args.places.now in
    let here = c.place-item.result in
    elim c.match-place.branch [
      | in-Some+in_ok-to_entry+in_ok-push w ↦
          ap (λ (v : Vec TreeRow). v.items) w.rows-is ∙ w.in_ok-push.ensures.items
          ∙ (λ i. c.loop-place.invariant i ++ EdgeRow (w.in_ok-to_entry.ensures i) (w.value.ensures i) ∷ [])
          ∙ append_assoc c.args.rows.now.items (named_rows c.args.dir (filter_map filled (shown (take at places)))) (EdgeRow (entry_at c.args.dir here.now.name) w.in-Some.child ∷ [])
          ∙ ap (λ more. c.args.rows.now.items ++ more) (sym (ap (named_rows c.args.dir) (entries_more places at here (Some w.in-Some.child) c.loop-place-test.true c.place-item.is w.in-Some.is)
          ∙ rows_more c.args.dir (filter_map filled (shown (take at places))) here.now.name w.in-Some.child))
      | in_default w ↦
          ap (λ (v : Vec TreeRow). v.items) w.rows-is ∙ c.loop-place.invariant
          ∙ ap (λ es. c.args.rows.now.items ++ named_rows c.args.dir es) (sym (entries_none places at here c.loop-place-test.true c.place-item.is w.in_default.is))
    ]
