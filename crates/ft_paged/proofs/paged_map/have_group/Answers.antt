use Rattle.std.proofs.Common.{◌+◌, ◌-◌, ◌*◌, ap, ◌∙◌}
use Rattle.ft_paged.specs.declared.TheConstants.{GROUP_LEN}
use Rattle.ft_paged.specs.Paged.{dense, valued, joined_places}
use Rattle.ft_paged.proofs.Pages.{joined-more}
use Rattle.ft_paged.proofs.PagedWalks.{dense-more, valued-more}
use Rattle.ft_paged.proofs.paged_map.have_group.Goals as goal

pub returns-clause-same : goal.returns-clause-same
returns-clause-same g c =
    let more = c.args.group + 1 - c.len-2.result in
    ap dense (ap joined_places c.in_ok-add_groups.ensures.ok ∙ joined-more GROUP_LEN c.args.groups.now.items more)
    ∙ dense-more (joined_places c.args.groups.now.items) (GROUP_LEN * more)

pub returns-clause-count : goal.returns-clause-count
returns-clause-count g c =
    let more = c.args.group + 1 - c.len-2.result in
    ap valued (ap joined_places c.in_ok-add_groups.ensures.ok ∙ joined-more GROUP_LEN c.args.groups.now.items more)
    ∙ valued-more (joined_places c.args.groups.now.items) (GROUP_LEN * more)
