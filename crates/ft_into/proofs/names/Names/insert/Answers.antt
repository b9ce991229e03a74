use Rattle.std.proofs.Common.{ℕ, map, ap, ◌∙◌}
use Rattle.std.specs.Global.{Vec}
use Rattle.ft_into.proofs.Listed.{by_path, inserted}
use Rattle.ft_into.proofs.names.Names.insert.Goals as goal

pub returns : goal.returns
returns c =
    let items = λ (key : Vec ℕ). key.items in
    ap (map (by_path items)) c.in_ok-insert.ensures.entries ∙ inserted items c.args.self.now.nodes.entries c.args.path c.args.node
