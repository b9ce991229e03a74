use Rattle.std.proofs.Common.{◌≡◌, ◌∙◌, Some, sym, ap}
use Rattle.std.specs.Prelude.{◌-◌}
use Rattle.ft_history.specs.Logs.{put}
use Rattle.ft_forest.specs.Records.{Links, links_of, put_at, put_youngest, where_some, closed_links, forgotten_links, older_from, younger_from}
use Rattle.ft_forest.proofs.records.Records.end.Goals as goal

pub take_child-requires : goal.take_child-requires
take_child-requires c = λ p is. ap (λ (l : Links). l.kept p) c.set_state-parent.ensures.state ∙ c.requires.parent p (sym c.set_state-parent.ensures.parent ∙ is)

pub close_gap-requires-clause-older : goal.close_gap-requires-clause-older
close_gap-requires-clause-older c = λ p is.
    let there = sym c.get.ensures ∙ c.unwrap-older.ensures in
    ap (λ (l : Links). l.kept p) c.take_child.ensures ∙ ap (λ (l : Links). l.kept p) c.set_state-parent.ensures.state ∙ c.requires.older p (ap older_from there ∙ is)

pub close_gap-requires-clause-younger : goal.close_gap-requires-clause-younger
close_gap-requires-clause-younger c = λ p is.
    let there = sym c.get.ensures ∙ c.unwrap-older.ensures in
    ap (λ (l : Links). l.kept p) c.take_child.ensures ∙ ap (λ (l : Links). l.kept p) c.set_state-parent.ensures.state ∙ c.requires.younger p (ap younger_from there ∙ is)

pub returns : goal.returns
returns c =
    let s = links_of c.args.self.now in
    let parent = c.set_state-parent.result in
    let r = c.unwrap-older.result in
    let there = sym c.get.ensures ∙ c.unwrap-older.ensures in
    let marked : Links = record s { state = put s.state c.args.place (Some c.args.state) } in
    let taken : links_of c.take_child.new.self ≡ record marked { children = put_at s.children parent (λ n. n - 1); youngest = where_some r.younger s.youngest (put_youngest s.youngest parent r.older) } =
    c.take_child.ensures ∙ ap (λ (l : Links). record l { children = put_at l.children parent (λ n. n - 1); youngest = where_some r.younger l.youngest (put_youngest l.youngest parent r.older) }) c.set_state-parent.ensures.state in
    let closed = c.close_gap.ensures
    ∙ ap (λ (l : Links). record l { older = put_at l.older r.younger (λ _. r.older); younger = put_at l.younger r.older (λ _. r.younger) }) taken
    ∙ (λ i. closed_links (record marked { children = put_at s.children (c.set_state-parent.ensures.parent i) (λ n. n - 1) }) (c.set_state-parent.ensures.parent i) (ap older_from (sym there) i) (ap younger_from (sym there) i)) in
    c.forget.ensures ∙ ap (λ l. forgotten_links l c.args.place) closed
