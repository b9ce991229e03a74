use Rattle.std.proofs.Common.{◌-◌, ◌∙◌, sym, ap}
use Rattle.ft_forest.specs.Records.{links_of, put_at, put_youngest, where_some}
use Rattle.ft_forest.proofs.records.Records.take_child.Goals as goal

pub returns-in-Some : goal.returns-in-Some
returns-in-Some c =
    let s = links_of c.args.self.now in
    c.take_older_child.ensures
    ∙ ap (λ y. record s { children = put_at s.children c.args.parent (λ n. n - 1); youngest = where_some y s.youngest (put_youngest s.youngest c.args.parent c.args.older) }) (sym c.in-Some.is)

pub returns-in-None : goal.returns-in-None
returns-in-None c =
    let s = links_of c.args.self.now in
    c.take_youngest.ensures
    ∙ ap (λ y. record s { children = put_at s.children c.args.parent (λ n. n - 1); youngest = where_some y s.youngest (put_youngest s.youngest c.args.parent c.args.older) }) (sym c.in-None.is)
