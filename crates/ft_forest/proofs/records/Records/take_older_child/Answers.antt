use Rattle.std.proofs.Common.{◌-◌, ◌∙◌, sym, ap}
use Rattle.ft_history.specs.Logs.{put}
use Rattle.ft_forest.specs.Records.{links_of, links_by, put_at, children_from}
use Rattle.ft_forest.proofs.Setting.{write-children}
use Rattle.ft_forest.proofs.records.Records.take_older_child.Goals as goal

pub returns-in-Some : goal.returns-in-Some
returns-in-Some c =
    let r = c.args.self.now in
    let s = links_of r in
    let place = c.in-Some.place in
    let there = sym c.get.ensures ∙ c.unwrap-record.ensures in
    ap (links_by r.youngest r.list.items) c.set.ensures
    ∙ write-children r.youngest r.list.items r.live place c.unwrap-record.result there c.saturating_sub.result
    ∙ ap (λ n. record s { children = put s.children place n }) (c.saturating_sub.ensures ∙ ap (λ n. n - 1) (sym (ap children_from there)))
    ∙ ap (λ o. record s { children = put_at s.children o (λ n. n - 1) }) (sym c.in-Some.is)
