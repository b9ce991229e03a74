use Rattle.std.proofs.Common.{◌∙◌, sym, ap}
use Rattle.ft_forest.specs.Records.{links_by}
use Rattle.ft_forest.proofs.Setting.{write-older}
use Rattle.ft_forest.proofs.records.Records.set_older.Goals as goal

pub returns : goal.returns
returns c =
    let r = c.args.self.now in
    ap (links_by r.youngest r.list.items) c.set.ensures ∙ write-older r.youngest r.list.items r.live c.args.place c.unwrap-record.result (sym c.get.ensures ∙ c.unwrap-record.ensures) c.args.older
