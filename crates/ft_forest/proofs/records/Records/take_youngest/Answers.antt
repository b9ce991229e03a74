use Rattle.std.proofs.Common.{◌-◌, ◌∙◌, sym, ap}
use Rattle.ft_history.specs.Logs.{put}
use Rattle.ft_forest.specs.Records.{links_of, links_by, put_at, put_youngest, children_from}
use Rattle.ft_forest.proofs.Setting.{write-child}
use Rattle.ft_forest.proofs.records.Records.take_youngest.Goals as goal
use Rattle.std.proofs.Common.{Some}

pub returns-in-Some : goal.returns-in-Some
returns-in-Some c =
    let r = c.args.self.now in
    let s = links_of r in
    let place = c.in-Some.place in
    let there = sym c.get.ensures ∙ c.unwrap-record.ensures in
    ap (links_by r.youngest r.list.items) c.set.ensures
    ∙ write-child r.youngest r.list.items r.live place c.unwrap-record.result there c.saturating_sub.result c.args.older
    ∙ ap (λ n. record s { children = put s.children place n; youngest = put_youngest s.youngest (Some place) c.args.older }) (c.saturating_sub.ensures ∙ ap (λ n. n - 1) (sym (ap children_from there)))
    ∙ ap (λ o. record s { children = put_at s.children o (λ n. n - 1); youngest = put_youngest s.youngest o c.args.older }) (sym c.in-Some.is)
