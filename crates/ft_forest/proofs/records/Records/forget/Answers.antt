use Rattle.std.proofs.Common.{◌∙◌, ap}
use Rattle.ft_forest.specs.Records.{links_by}
use Rattle.ft_forest.proofs.Setting.{write-forgotten}
use Rattle.ft_forest.proofs.records.Records.forget.Goals as goal

pub returns : goal.returns
returns c =
    let r = c.args.self.now in
    ap (links_by r.youngest r.list.items) c.remove.ensures ∙ write-forgotten r.youngest r.list.items r.live c.args.place
