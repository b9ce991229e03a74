use Rattle.std.proofs.Common.{◌*◌, ap, ◌∙◌}
use Rattle.std.specs.FinMap as finite
use Rattle.ft_paged.specs.declared.TheConstants.{GROUP_LEN}
use Rattle.ft_paged.specs.Paged.{joined_places}
use Rattle.ft_paged.proofs.Places.{zero-put}
use Rattle.ft_paged.proofs.paged_table.PagedTable.set_zero.Goals as goal

pub returns : goal.returns
returns g c = zero-put c.self.inside.zero (GROUP_LEN * c.self.inside.skipped) (joined_places c.self.inside.groups.items) c.args.value ∙ ap (λ m. finite.insert m 0 c.args.value) c.self.view_is
