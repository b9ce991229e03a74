use Rattle.std.proofs.Common.{ℕ, map, ap, ◌∙◌}
use Rattle.std.specs.Global.{Vec}
use Rattle.ft_into.specs.Knows.{is_path}
use Rattle.ft_into.proofs.Listed.{by_path, looked, removed}
use Rattle.ft_into.proofs.names.Names.take.Goals as goal

pub returns-clause-value : goal.returns-clause-value
returns-clause-value c = c.remove.ensures.value ∙ looked (λ (key : Vec ℕ). key.items) (is_path c.args.path.now) c.args.self.now.nodes.entries

pub returns-clause-taken : goal.returns-clause-taken
returns-clause-taken c =
    let items = λ (key : Vec ℕ). key.items in
    ap (map (by_path items)) c.remove.ensures.entries ∙ removed items (is_path c.args.path.now) c.args.self.now.nodes.entries
