use Rattle.std.proofs.Common.{ap, ◌∙◌}
use Rattle.std.specs.FinMap as finite
use Rattle.ft_save.specs.declared.index.Index.{Index}
use Rattle.ft_save.proofs.Indexing.{puts}
use Rattle.ft_save.proofs.index.add_edge.Goals as goal

pub returns : goal.returns
returns c =
    let old = c.args.index.now in
    let folder = c.args.folder in
    let rest = c.take_edges-edges.ensures.rest in
    let items = c.take_edges-edges.result.items in
    let list_is = c.into.ensures ∙ c.in_ok-push.ensures.items in
    let put = c.in_ok-insert.ensures.ok ∙ ap (λ (m : _). finite.insert m folder c.into.result) (ap (λ (i : Index). i.edges) rest) ∙ ap (λ l. finite.insert (finite.remove old.edges folder) folder l) list_is in
    puts old _ folder c.args.edge items c.take_edges-edges.ensures.taken put (ap (λ (i : Index). i.own) rest) (ap (λ (i : Index). i.files) rest) (ap (λ (i : Index). i.named) rest) (ap (λ (i : Index). i.attributes) rest) (ap (λ (i : Index). i.times) rest)
