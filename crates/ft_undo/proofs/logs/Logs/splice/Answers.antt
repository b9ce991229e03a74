use Rattle.std.proofs.Common.{◌≡◌, true, ap, ◌∙◌}
use Rattle.ft_undo.specs.Logs.{is_open}
use Rattle.ft_undo.proofs.Logging.{lists-spliced, open-spliced, child-empty}
use Rattle.ft_undo.proofs.logs.Logs.splice.Goals as goal

pub close-requires : goal.close-requires
close-requires c = child-empty c.self.inside.chains c.splice.new.self c.args.child c.args.parent c.splice.ensures c.requires.apart

pub returns-clause-lists : goal.returns-clause-lists
returns-clause-lists c = rw (← c.self.view_is) (lists-spliced c.self.inside.chains c.splice.new.self c.close.new.self c.args.child c.args.parent c.splice.ensures c.close.ensures)

pub returns-clause-opened : goal.returns-clause-opened
returns-clause-opened c =
    let there : is_open c.self.inside.chains c.args.child ≡ true = ap (λ m. is_open m c.args.child) c.self.view_is ∙ c.requires.child in
    let up : is_open c.self.inside.chains c.args.parent ≡ true = ap (λ m. is_open m c.args.parent) c.self.view_is ∙ c.requires.parent in
    rw (← c.self.view_is) (open-spliced c.self.inside.chains c.splice.new.self c.close.new.self c.args.child c.args.parent c.splice.ensures c.close.ensures there up)
