use Rattle.std.proofs.Common.{◌≡◌, ◌++◌, ◌∷◌, [], ◌+◌, None, Some, List, ℕ, map, take, ap, sym, subst, ◌∙◌}
use Rattle.std.specs.List.{filter_map}
use Rattle.std.specs.Global.{Vec}
use Rattle.ft_cells.specs.declared.node.Kind.{Kind}
use Rattle.ft_cells.specs.Nodes.{with_kinds, kind_of_node}
use Rattle.ft_cells.specs.Cells.{filled}
use Rattle.ft_inodes.specs.Named.{shown}
use Rattle.ft_inodes.proofs.Ordered.{entries_more, entries_none, kinds_more}
use Rattle.ft_inodes.proofs.directory.full_places.Goals as goal
use Rattle.ft_inodes.proofs.directory.full_places.Goals.{in-Some+in_ok-clone+in_ok-push, in_default}

pub loop-place-preserved : goal.loop-place-preserved
loop-place-preserved c =
    let at = c.loop-place.place-index in
    let places = c.args.places.now in
    let here = c.place-item.result in
    elim c.match-place.branch [
      | in-Some+in_ok-clone+in_ok-push w ↦
          ap (λ (v : Vec (List ℕ × Kind)). v.items) w.names-is ∙ w.in_ok-push.ensures.items
          ∙ (λ i. c.loop-place.invariant i ++ (w.in_ok-clone.ensures.cases i, (w.kind.ensures ∙ ap kind_of_node w.value.ensures) i) ∷ [])
          ∙ sym (ap with_kinds (entries_more places at here (Some w.in-Some.child) c.loop-place-test.true c.place-item.is w.in-Some.is)
          ∙ kinds_more (filter_map filled (shown (take at places))) here.now.name w.in-Some.child)
      | in_default w ↦
          ap (λ (v : Vec (List ℕ × Kind)). v.items) w.names-is ∙ c.loop-place.invariant
          ∙ ap with_kinds (sym (entries_none places at here c.loop-place-test.true c.place-item.is w.in_default.is))
    ]
