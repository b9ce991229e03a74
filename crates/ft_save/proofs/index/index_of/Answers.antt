use Rattle.std.proofs.Common.{◌∷◌, [], ◌++◌, List, sym, ap, ◌∙◌, append_assoc, append-nil}
use Rattle.ft_save.specs.declared.row.Row.{Row}
use Rattle.ft_save.proofs.Indexing.{adds_nothing}
use Rattle.ft_save.proofs.index.index_of.Goals as goal

pub loop-row-init : goal.loop-row-init
loop-row-init c = ([], sym (append-nil c.args.rows.items), adds_nothing _ c.new.ensures c.new-3.ensures c.new-2.ensures c.new-4.ensures c.new-5.ensures c.new-6.ensures)

pub loop-row-preserved : goal.loop-row-preserved
loop-row-preserved c =
    let so_far = c.loop-row.invariant in
    let row = c.in-Some.row in
    (row ∷ so_far.0, so_far.1 ∙ ap (λ (l : List Row). l ++ so_far.0) c.in-Some.ensures.items ∙ append_assoc c.pop.new.self.items (row ∷ []) so_far.0, c.in_ok-add.ensures so_far.0 so_far.2)
