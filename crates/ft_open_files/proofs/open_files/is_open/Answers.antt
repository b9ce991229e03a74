use Rattle.std.proofs.Common.{ap, sym, ◌∙◌}
use Rattle.std.specs.List.{list_any}
use Rattle.std.proofs.lemmas.List.Sorted.{list_any-IsPermutation}
use Rattle.ft_cells.specs.Cells.{is_of_file}
use Rattle.ft_open_files.proofs.open_files.is_open.Goals as goal

pub loop-place-init : goal.loop-place-init
loop-place-init c = ap (λ es. list_any (is_of_file c.args.file) es) c.into_iter-place-iterator.ensures.into_iter_gives ∙ sym (list_any-IsPermutation (is_of_file c.args.file) _ _ c.iter-place-items.ensures.entries)
