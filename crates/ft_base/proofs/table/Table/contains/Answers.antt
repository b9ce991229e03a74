use Rattle.std.proofs.Common.{ap, is_some, ◌∙◌}
use Rattle.ft_base.proofs.Views.{get-seen}
use Rattle.ft_base.proofs.table.Table.contains.Goals as goal

pub returns : goal.returns
returns g c = c.contains_key.ensures ∙ ap (λ v. is_some v) (get-seen _ _ c.args.key c.self.view_is)
