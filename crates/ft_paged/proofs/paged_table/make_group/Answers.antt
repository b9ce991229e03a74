use Rattle.std.proofs.Common.{◌+◌, ◌-◌, ◌*◌, ap, ◌∙◌}
use Rattle.ft_paged.specs.declared.TheConstants.{GROUP_LEN}
use Rattle.ft_paged.specs.Paged.{dense, spread, joined_places}
use Rattle.ft_paged.proofs.Places.{laid, laid-more}
use Rattle.ft_paged.proofs.Pages.{joined-more}
use Rattle.ft_paged.proofs.paged_table.make_group.Goals as goal

pub returns-clause-same : goal.returns-clause-same
returns-clause-same g c = λ zero skipped.
    let more = c.args.group + 1 - c.len-2.result in
    ap (λ ps. dense (spread zero skipped ps)) c.in_ok-add_groups.ensures.ok ∙ ap (λ xs. dense (laid zero (GROUP_LEN * skipped) xs)) (joined-more GROUP_LEN c.args.groups.now.items more)
    ∙ laid-more zero (GROUP_LEN * skipped) (joined_places c.args.groups.now.items) (GROUP_LEN * more)
