use Rattle.std.proofs.Common.{Some, sym, ap, ◌∙◌}
use Rattle.std.proofs.lemmas.Option.{slice_get-get_or}
use Rattle.ft_paged.specs.Roomy.{RoomyList}
use Rattle.ft_forest.specs.Records.{links_by}
use Rattle.ft_forest.proofs.Setting.{write-state}
use Rattle.ft_forest.proofs.records.Records.set_state.Goals as goal

pub returns-clause-state : goal.returns-clause-state
returns-clause-state c =
    let r = c.args.self.now in
    let there = slice_get-get_or r.list.items c.args.place 0 c.requires ∙ ap Some (sym c.get.ensures) in
    ap (λ (l : RoomyList). links_by r.youngest l.items r.live) c.set.ensures
    ∙ write-state r.youngest r.list.items r.live c.args.place c.get.result c.with_state.result.0 c.requires there c.with_state.ensures.parent c.args.state c.with_state.ensures.state
