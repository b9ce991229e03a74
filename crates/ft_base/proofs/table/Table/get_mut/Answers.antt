use Rattle.std.proofs.Common.{ap, ◌∙◌}
use Rattle.std.specs.FinMap.{from_entries}
use Rattle.ft_base.proofs.Loans.{same_loan, lent_there}
use Rattle.ft_base.proofs.Views.{get-seen, view-put}
use Rattle.ft_base.proofs.table.Table.get_mut.Goals as goal

pub returns : goal.returns
returns g c = (
  same_loan c.get_mut.result _ _ _ _
      (λ some w. view-put _ _ _ c.args.key w c.self.view_is ((c.get_mut.follows.holds w).3 (lent_there c.get_mut.result _ c.get_mut.ensures.value some)).0)
      (ap (λ m. from_entries m.entries) c.get_mut.follows.holds-at-none ∙ c.self.view_is),
  record { writes_back = tt; value = c.get_mut.ensures.value ∙ get-seen _ _ c.args.key c.self.view_is },
)
